-- The names of a tile by the texts that its entries name: which are found, and that none is there twice.
--     text_bytes           a text is compared where it stands as it is by itself
--     bytes_equal          texts of the same bytes are one
--     found_among          an entry is found exactly where the name is among those texts
--     none_twice_more      a name that is not among names that are apart may join them
--     texts_more           an entry more, of a text that stands in what was put behind the bytes
use Prim.Native.Nat.{ℕ, zero, suc, ◌+◌, ◌≤◌}
use mathlib.Core.Path.{◌≡◌, refl, sym, ◌∙◌}
use mathlib.Core.Bool.{Bool, true, false, cond}
use mathlib.Core.List.{List, [], ◌∷◌, ◌++◌}
use native.Mathlib.Omega.{arith}
use lib.ListN.{length, take, drop, length-drop}
use lib.Seq.{take-append-le, drop-append-le}
use lib.Dec.{eqb, eqb-zero-suc, eqb-suc-zero, eqb-suc-suc}
use borrow.Author.Tests.{le-leb, leb-true, eq-eqb, ne_eqb, eqb-true, eqb-false}
use Rattle.std.specs.Prelude.{Option, Some}
use Rattle.table.specs.Texts.{inside, begins, same_text, text_of}
use Rattle.table.specs.Keys.{find_key, keys_in}
use Rattle.records.specs.Records.{is_found}
use Rattle.promise.proofs.Joined.{never, cond_both}
use Rattle.tile.specs.Holding.{texts_at, same_bytes, among, none_twice}

-- ---- one text
swap : (a b c : Bool) → cond a (cond b c false) false ≡ cond b (cond a c false) false
swap true true c = refl
swap true false c = refl
swap false true c = refl
swap false false c = refl

text_same : (l : List ℕ) (len : ℕ) (key : List ℕ) → len ≤ length l → cond (eqb len (length key)) (begins l key) false ≡ same_bytes (take len l) key
text_same l zero [] h = refl
text_same l zero (b ∷ key) h = rw (eqb-zero-suc (length key))
text_same [] (suc n) key h = absurd (omega arith)
text_same (x ∷ l) (suc n) [] h = rw (eqb-suc-zero n)
text_same (x ∷ l) (suc n) (b ∷ key) h =
    rw (eqb-suc-suc n (length key), ← text_same l n key (omega arith)) (swap (eqb n (length key)) (eqb x b) (begins l key))

pub text_bytes : (ts : List ℕ) (start len : ℕ) (key : List ℕ) → start + len ≤ length ts → same_text ts start len key ≡ same_bytes (text_of ts start len) key
text_bytes ts start len key h = rw (le-leb (start + len) (length ts) h) (text_same (drop start ts) len key (rw length-drop (omega arith)))

pub bytes_equal : (a b : List ℕ) → same_bytes a b ≡ true → a ≡ b
bytes_equal [] [] e = refl
bytes_equal [] (y ∷ b) e = never e
bytes_equal (x ∷ a) [] e = never e
bytes_equal (x ∷ a) (y ∷ b) e =
    let p = cond_both (eqb x y) (same_bytes a b) e in
    let q : x ≡ y = eqb-true x y p.0 in
    rw (q, bytes_equal a b p.1)

-- ---- entries
found_if : (t : Bool) (j : ℕ) (f : Option ℕ) → is_found (cond t (Some j) f) ≡ cond t true (is_found f)
found_if true j f = refl
found_if false j f = refl

pub found_among : (j : ℕ) (ks bs name : List ℕ) → keys_in (length bs) ks ≡ true → is_found (find_key j ks bs name) ≡ among name (texts_at ks bs)
found_among j [] bs name e = refl
found_among j (a ∷ []) bs name e = never e
found_among j (a ∷ b ∷ ks) bs name e = step (inside (length bs) a b) refl (found_among (suc j) ks bs name)
  where
    step : (t : Bool) → inside (length bs) a b ≡ t → (keys_in (length bs) ks ≡ true → is_found (find_key (suc j) ks bs name) ≡ among name (texts_at ks bs)) → is_found (find_key j (a ∷ b ∷ ks) bs name) ≡ among name (texts_at (a ∷ b ∷ ks) bs)
    step true q k =
        let i : a + b ≤ length bs = leb-true (a + b) (length bs) q in
        let h : b ≤ length (drop a bs) = rw length-drop (omega arith) in
        found_if (same_text bs a b name) j (find_key (suc j) ks bs name) ∙ rw (q, text_same (drop a bs) b name h, k (rw q at e))
    step false q k = never (rw q at e)

pub texts_more : (ks : List ℕ) (x y : ℕ) (bs cs : List ℕ) → keys_in (length bs) ks ≡ true → texts_at (ks ++ (x ∷ y ∷ [])) (bs ++ cs) ≡ texts_at ks bs ++ (take y (drop x (bs ++ cs)) ∷ [])
texts_more [] x y bs cs e = refl
texts_more (a ∷ []) x y bs cs e = never e
texts_more (a ∷ b ∷ ks) x y bs cs e = step (inside (length bs) a b) refl (texts_more ks x y bs cs)
  where
    step : (t : Bool) → inside (length bs) a b ≡ t → (keys_in (length bs) ks ≡ true → texts_at (ks ++ (x ∷ y ∷ [])) (bs ++ cs) ≡ texts_at ks bs ++ (take y (drop x (bs ++ cs)) ∷ [])) → texts_at (a ∷ b ∷ (ks ++ (x ∷ y ∷ []))) (bs ++ cs) ≡ texts_at (a ∷ b ∷ ks) bs ++ (take y (drop x (bs ++ cs)) ∷ [])
    step true q k =
        let i : a + b ≤ length bs = leb-true (a + b) (length bs) q in
        let j : b ≤ length (drop a bs) = rw length-drop (omega arith) in
        rw (drop-append-le a bs cs (omega arith), take-append-le b (drop a bs) cs j, k (rw q at e))
    step false q k = never (rw q at e)

-- ---- names apart
eqb_turned : (a b : ℕ) → eqb a b ≡ eqb b a
eqb_turned a b = by (eqb a b) refl
  where
    by : (t : Bool) → eqb a b ≡ t → t ≡ eqb b a
    by true e = sym (eq-eqb b a (sym (eqb-true a b e)))
    by false e = sym (ne_eqb b a (λ q. eqb-false a b e (sym q)))

pub same_turned : (l k : List ℕ) → same_bytes l k ≡ same_bytes k l
same_turned [] [] = refl
same_turned [] (b ∷ k) = refl
same_turned (a ∷ l) [] = refl
same_turned (a ∷ l) (b ∷ k) = rw (eqb_turned a b, same_turned l k)

among_more : (n name : List ℕ) (ns : List (List ℕ)) → same_bytes n name ≡ false → among name ns ≡ false → among name (ns ++ (n ∷ [])) ≡ false
among_more n name [] e f = rw e
among_more n name (k ∷ ns) e f = by (same_bytes k name) refl (among_more n name ns e)
  where
    by : (t : Bool) → same_bytes k name ≡ t → (among name ns ≡ false → among name (ns ++ (n ∷ [])) ≡ false) → among name ((k ∷ ns) ++ (n ∷ [])) ≡ false
    by true q g = never (sym (rw q at f))
    by false q g = rw q (g (rw q at f))

pub none_twice_more : (n : List ℕ) (ns : List (List ℕ)) → none_twice ns ≡ true → among n ns ≡ false → none_twice (ns ++ (n ∷ [])) ≡ true
none_twice_more n [] e f = refl
none_twice_more n (k ∷ ns) e f = by (same_bytes k n) refl (among k ns) refl (none_twice_more n ns)
  where
    by : (t : Bool) → same_bytes k n ≡ t → (u : Bool) → among k ns ≡ u → (none_twice ns ≡ true → among n ns ≡ false → none_twice (ns ++ (n ∷ [])) ≡ true) → none_twice ((k ∷ ns) ++ (n ∷ [])) ≡ true
    by true q u p g = never (sym (rw q at f))
    by false q true p g = never (rw p at e)
    by false q false p g = rw (among_more n k ns (same_turned n k ∙ q) p) (g (rw p at e) (rw q at f))
