-- Laws of varints, each once over the width: how long they are, and the turns of the loop that writes one.
--     varint_size     a number that k groups of seven bits do not hold and k + 1 do takes k + 1 bytes
--     varint_some varint_ten varint_five    one byte at least, ten at most, five at most for 32 bits
use Prim.Native.Nat.{ℕ, zero, suc, ◌+◌, ◌*◌, ◌/◌, ◌%◌, ◌≤◌, ◌<◌, zero-le}
use mathlib.Core.Path.{◌≡◌, refl, sym, ap, ◌∙◌}
use mathlib.Core.Bool.{Bool, true, false, cond}
use mathlib.Core.List.{List, [], ◌∷◌, ◌++◌, append_assoc}
use native.Mathlib.Numerals.{add-one}
use native.Mathlib.Omega.{arith}
use borrow.Author.Tests.{lt-ltb, le-ltb}
use lib.ListN.{length, take, drop, set, length-set, length-append, take-append-drop}
use lib.Seq.{take-suc-set, drop-set-lt, length-take-le, drop-drop}
use lib.Dec.{ltb}
use Rattle.promise.proofs.Parts.{lay_front}
use Rattle.wire.specs.Varints.{varint_of, varint}
use Rattle.promise.specs.Puts.{Puts}

-- what so many groups of seven bits can hold, one more than the largest
abbrev pub limit : ℕ → ℕ
limit zero = 1
limit (suc groups) = 128 * limit groups

-- ---- the two cases of a byte
pub last : (more n : ℕ) → n < 128 → varint_of more n ≡ n ∷ []
last zero n h = refl
last (suc more) n h = rw (lt-ltb n 128 h)

pub record Step (more n : ℕ) : Type 0 where
  pub less : ℕ
  pub one : more ≡ suc less
  pub small : n / 128 < limit (suc less)
  pub bytes : varint_of more n ≡ (n % 128 + 128) ∷ varint_of less (n / 128)

pub step : (more n : ℕ) → n < limit (suc more) → 128 ≤ n → Step more n
step zero n b h = absurd (omega arith)
step (suc more) n b h = record { less = more; one = refl; small = omega arith; bytes = rw (le-ltb n 128 h) }

-- ---- how long a varint is
by_test : (P : List ℕ → Type 0) (b : Bool) (x y : List ℕ) → (b ≡ true → P x) → (b ≡ false → P y) → P (cond b x y)
by_test P true x y h k = h refl
by_test P false x y h k = k refl

pub some : (more n : ℕ) → 0 < length (varint_of more n)
some zero n = omega arith
some (suc more) n = by_test (λ (l : List ℕ). 0 < length l) (ltb n 128) _ _ (λ h. omega arith) (λ h. omega arith)

-- never more than one byte for each group
pub at_most : (more n : ℕ) → length (varint_of more n) ≤ suc more
at_most zero n = omega arith
at_most (suc more) n = by_test (λ (l : List ℕ). length l ≤ suc (suc more)) (ltb n 128) _ _ (λ h. omega arith) (λ h. omega (arith, at_most more (n / 128)))

-- a number that so many groups and one hold takes no more bytes
pub short : (k more n : ℕ) → n < limit (suc k) → length (varint_of more n) ≤ suc k
short k zero n h = omega arith
short zero (suc more) n h = omega (arith, ap length (last (suc more) n (omega arith)))
short (suc k) (suc more) n h = by_test (λ (l : List ℕ). length l ≤ suc (suc k)) (ltb n 128) _ _ (λ e. omega arith) (λ e. omega (arith, short k more (n / 128) (omega arith)))

-- a number that so many groups do not hold takes one more
pub long : (k more n : ℕ) → k ≤ more → limit k ≤ n → suc k ≤ length (varint_of more n)
long zero more n h l = omega (arith, some more n)
long (suc k) zero n h l = absurd (omega arith)
long (suc k) (suc more) n h l =
    let b : 128 ≤ n = omega (arith, limit_some k) in
    rw (le-ltb n 128 b) (omega (arith, long k more (n / 128) (omega arith) (omega arith)))
  where
    limit_some : (j : ℕ) → 1 ≤ limit j
    limit_some zero = omega arith
    limit_some (suc j) = omega (arith, limit_some j)

pub varint_size : (k n : ℕ) → k ≤ 9 → limit k ≤ n → n < limit (suc k) → suc k ≡ length (varint n)
unfolding varint
varint_size k n h l u = omega (arith, short k 9 n u, long k 9 n h l)

pub varint_some : (n : ℕ) → 0 < length (varint n)
unfolding varint
varint_some n = some 9 n

pub varint_one : (n : ℕ) → n < 128 → varint n ≡ n ∷ []
unfolding varint
varint_one n h = last 9 n h

pub varint_ten : (n : ℕ) → length (varint n) ≤ 10
unfolding varint
varint_ten n = at_most 9 n

pub varint_five : (n : ℕ) → n < 4294967296 → length (varint n) ≤ 5
unfolding varint
varint_five n h = short 4 9 n (omega arith)

-- ---- the loop that writes one: m is what is left of n after i bytes
pub record Writing (n : ℕ) (out₀ out : List ℕ) (m i : ℕ) : Type 0 where
  pub more : ℕ
  pub small : m < limit (suc more)
  pub same : length out ≡ length out₀
  pub at : i ≤ length out
  pub done : varint n ≡ take i out ++ varint_of more m
  pub tail : drop i out ≡ drop i out₀

pub writing_start : (n : ℕ) (out : List ℕ) → n < 18446744073709551616 → Writing n out out n 0
unfolding varint
writing_start n out h = record { more = 9; small = omega arith; same = refl; at = zero-le; done = refl; tail = refl }

module _ (n : ℕ) (out₀ out : List ℕ) (m i : ℕ) (I : Writing n out₀ out m i) where
  count : length (varint n) ≡ i + length (varint_of I.more m)
  count = ap length I.done ∙ length-append (take i out) (varint_of I.more m) ∙ ap (λ (k : ℕ). k + length (varint_of I.more m)) (length-take-le i out I.at)

  pub writing_room : length (varint n) ≤ length out₀ → i < length out
  writing_room r = omega (arith, count, some I.more m, I.same)

  further : (k : ℕ) (v : ℕ) → k ≡ suc i → drop k (set out i v) ≡ drop k out₀
  further k v e = drop-set-lt k out i v (omega arith) ∙ rw e (sym (next out) ∙ ap (drop 1) I.tail ∙ next out₀)
    where
      next : (l : List ℕ) → drop 1 (drop i l) ≡ drop (suc i) l
      next l = drop-drop 1 i l ∙ ap (λ (j : ℕ). drop j l) (add-one i)

  pub writing_turn : 128 ≤ m → length (varint n) ≤ length out₀ → (b : ℕ) → b ≡ m % 128 + 128 → Writing n out₀ (set out i b) (m / 128) (i + 1)
  writing_turn h r b e =
      let s = step I.more m I.small h in
      let w : i < length out = writing_room r in
      let d : varint n ≡ take i out ++ ((m % 128 + 128) ∷ varint_of s.less (m / 128)) = I.done ∙ ap (λ (l : List ℕ). take i out ++ l) s.bytes in
      record {
        more = s.less;
        small = s.small;
        same = length-set out i b ∙ I.same;
        at = simp length-set (omega arith);
        done = rw (add-one i, take-suc-set out i b w, append_assoc, e) d;
        tail = further (i + 1) b (add-one i);
      }

  pub writing_end : m < 128 → length (varint n) ≤ length out₀ → Puts (varint n) out₀ (i + 1) (set out i m)
  writing_end h r =
      let w : i < length out = writing_room r in
      let d : varint n ≡ take i out ++ (m ∷ []) = I.done ∙ ap (λ (l : List ℕ). take i out ++ l) (last I.more m h) in
      let t : take (i + 1) (set out i m) ≡ varint n = rw (add-one i) (take-suc-set out i m w) ∙ sym d in
      let k : i + 1 ≡ length (varint n) = omega (arith, count, ap length (last I.more m h)) in
      record {
        count_is = k;
        list_is = sym (take-append-drop (i + 1) (set out i m)) ∙ rw (t, further (i + 1) m (add-one i), k) (sym (lay_front (varint n) out₀));
      }
