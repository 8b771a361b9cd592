-- A byte by what stands for it, as the code asks; and the lists whose elements are laid one behind the other: what is still to come, and how long it is.
use mathlib.Core.Path.{◌≡◌}
use mathlib.Core.Bool.{Bool, true, false, cond}
use mathlib.Core.List.{List, [], ◌∷◌, ◌++◌}
use Prim.Native.Nat.{ℕ, ◌+◌, ◌<◌, ◌≤◌}
use native.Mathlib.Numerals.{add-one}
use native.Mathlib.Omega.{arith}
use lib.ListN.{length, drop, get_or, length-append, drop_of_length-le}
use lib.Seq.{drop-cons}
use Rattle.printed.specs.Printed.{space}
use Rattle.opened.specs.Opened.{named, numbers_text, numbers_room}
use Rattle.opened.specs.Values.{hex_digits}
use Rattle.opened.specs.Quoted.{backslash, hex_head, is_marked, is_plain, escaped, quoted_text, quoted_room}
use Rattle.opened.proofs.Spelling.{named_short, hex_long}

-- ---- a byte
module _ (isText : Bool) (b : ℕ) {m : Bool} (e : m ≡ is_marked b) where
  pub marked : m ≡ true → escaped isText b ≡ backslash ∷ b ∷ []
  unfolding escaped
  marked t = let h : is_marked b ≡ true = rw (← e) t in rw h

  module _ (t : m ≡ false) {p : Bool} (f : p ≡ is_plain isText b) where
    pub plain : p ≡ true → escaped isText b ≡ b ∷ []
    unfolding escaped
    plain u = let h : is_marked b ≡ false = rw (← e) t in let k : is_plain isText b ≡ true = rw (← f) u in rw (h, k)

    pub in_hex : p ≡ false → escaped isText b ≡ hex_head ++ hex_digits 2 b
    unfolding escaped
    in_hex u = let h : is_marked b ≡ false = rw (← e) t in let k : is_plain isText b ≡ false = rw (← f) u in rw (h, k)

pub escaped_short : (isText : Bool) (b : ℕ) → length (escaped isText b) ≤ 4
unfolding escaped
escaped_short isText b = by (is_marked b) (is_plain isText b)
  where
    by : (t u : Bool) → length (cond t (backslash ∷ b ∷ []) (cond u (b ∷ []) (hex_head ++ hex_digits 2 b))) ≤ 4
    by true u = omega arith
    by false true = omega arith
    by false false = omega (arith, hex_long 2 b)

-- ---- the bytes of a text
pub quoted_turn : (isText : Bool) (bs : List ℕ) (i : ℕ) → i < length bs → quoted_text isText (drop i bs) ≡ escaped isText (get_or bs i 0) ++ quoted_text isText (drop (i + 1) bs)
quoted_turn isText bs i h = rw (drop-cons bs i 0 h, add-one i)

pub quoted_done : (isText : Bool) (bs : List ℕ) (i : ℕ) → length bs ≤ i → quoted_text isText (drop i bs) ≡ []
quoted_done isText bs i h = rw (drop_of_length-le bs h)

pub quoted_short : (isText : Bool) (bs : List ℕ) → length (quoted_text isText bs) ≤ quoted_room bs
quoted_short isText [] = omega arith
quoted_short isText (b ∷ bs) = rw (length-append (escaped isText b) (quoted_text isText bs)) (omega (arith, escaped_short isText b, quoted_short isText bs))

-- ---- numbers on one line
pub numbers_turn : (ns : List ℕ) (i n : ℕ) → i < length ns → n ≡ get_or ns i 0 → numbers_text (drop i ns) ≡ named (space ∷ []) n ++ numbers_text (drop (i + 1) ns)
numbers_turn ns i n h e = rw (drop-cons ns i 0 h, ← e, add-one i)

pub numbers_done : (ns : List ℕ) (i : ℕ) → length ns ≤ i → numbers_text (drop i ns) ≡ []
numbers_done ns i h = rw (drop_of_length-le ns h)

pub numbers_short : (ns : List ℕ) → length (numbers_text ns) ≤ numbers_room ns
numbers_short [] = omega arith
numbers_short (n ∷ ns) = rw (length-append (named (space ∷ []) n) (numbers_text ns)) (omega (arith, named_short (space ∷ []) n, numbers_short ns))
