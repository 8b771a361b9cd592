-- The library's digits, where they are the fewest that hold the number, are its decimal; at most twenty of them.
use mathlib.Core.Path.{◌≡◌, sym, ◌∙◌, ap}
use mathlib.Core.Bool.{Bool, true, false, cond}
use mathlib.Core.List.{List, [], ◌∷◌, ◌++◌}
use Prim.Native.Nat.{ℕ, zero, suc, ◌+◌, ◌*◌, ◌-◌, ◌/◌, ◌%◌, ◌^◌, ◌<◌, ◌≤◌}
use native.Mathlib.Omega.{arith}
use native.Mathlib.Decide.{dec_le}
use native.Mathlib.Nat.{pow-suc, pow-le-pow_right}
use borrow.Author.Tests.{lt-ltb, le-ltb}
use lib.Dec.{ltb}
use lib.ListN.{length, take, set, length-append}
use Rattle.io.specs.Digits.{hex_digit_ascii, last_digits, IsDigitCount}
use Rattle.promise.specs.Answers.{Gives}
use Rattle.printed.specs.Lending.{appended}
use Rattle.promise.specs.Laid.{lay}
use Rattle.promise.proofs.Laying.{length_lay, lay_one, lay_next}
use Rattle.printed.specs.Decimal.{decimal_in, decimal, ended}

glyph_is : (n : ℕ) → hex_digit_ascii (n % 10) ≡ 48 + n % 10
glyph_is n = rw (lt-ltb (n % 10) 10 (omega arith))

-- over the number of digits
digits_in : (f k n : ℕ) → k ≤ f → IsDigitCount 10 1 n k → last_digits 10 k n ≡ decimal_in f n
digits_in f zero n h (a, b, c) = absurd (omega arith)
digits_in zero (suc k) n h w = absurd (omega arith)
digits_in (suc f) (suc zero) n h (a, b, c) =
    let e : n % 10 ≡ n = omega arith in
    rw (lt-ltb n 10 (omega arith), glyph_is, e)
digits_in (suc f) (suc (suc k)) n h (a, b, c) =
    let p : 10 ^ suc k ≡ 10 ^ k * 10 = pow-suc 10 k in
    let q : 10 ^ suc (suc k) ≡ 10 ^ suc k * 10 = pow-suc 10 (suc k) in
    let m : suc (suc k) - 1 ≡ suc k = omega arith in
    let m' : suc k - 1 ≡ k = omega arith in
    let l : 10 ^ suc k ≤ n = rw m at (c (omega arith)) in
    let o : 1 ≤ 10 ^ k = pow-le-pow_right {n = 10} (omega arith) {i = 0} {j = k} (omega arith) in
    let w : IsDigitCount 10 1 (n / 10) (suc k) = (omega arith, omega arith, λ (g : 1 < suc k). rw m' (omega arith)) in
    let r : last_digits 10 (suc k) (n / 10) ≡ decimal_in f (n / 10) = digits_in f (suc k) (n / 10) (omega arith) w in
    rw (le-ltb n 10 (omega arith), glyph_is n, r)

pub decimal_is : (n k : ℕ) → k ≤ 20 → IsDigitCount 10 1 n k → last_digits 10 k n ≡ decimal n
unfolding decimal
decimal_is n k h w = digits_in 20 k n h w

-- a line has at most twenty digits and its end
in_short : (k n : ℕ) → length (decimal_in k n) ≤ k
in_short zero n = omega arith
in_short (suc k) n = by (ltb n 10) (in_short k (n / 10))
  where
    by : (t : Bool) → length (decimal_in k (n / 10)) ≤ k → length (cond t ((48 + n) ∷ []) (decimal_in k (n / 10) ++ ((48 + n % 10) ∷ []))) ≤ suc k
    by true h = omega arith
    by false h = simp length-append (omega arith)

pub ended_short : (n end : ℕ) → length (ended n end) ≤ 21
unfolding decimal
ended_short n end = simp length-append (omega (arith, in_short 20 n))

-- and no more than the number has: one for a digit, ten for a size of 32 bits
in_fewer : (f k n : ℕ) → n < 10 ^ suc k → length (decimal_in f n) ≤ suc k
in_fewer zero k n h = omega arith
in_fewer (suc f) zero n h = rw (lt-ltb n 10 (omega arith)) (omega arith)
in_fewer (suc f) (suc k) n h = by (ltb n 10) (in_fewer f k (n / 10) (omega (arith, pow-suc 10 (suc k))))
  where
    by : (t : Bool) → length (decimal_in f (n / 10)) ≤ suc k → length (cond t ((48 + n) ∷ []) (decimal_in f (n / 10) ++ ((48 + n % 10) ∷ []))) ≤ suc (suc k)
    by true g = omega arith
    by false g = simp length-append (omega arith)

pub ended_one : (n end : ℕ) → n < 10 → length (ended n end) ≤ 2
unfolding decimal
ended_one n end h = simp length-append (omega (arith, in_fewer 20 0 n (omega arith)))

pub ended_ten : (n end : ℕ) → n ≤ 2 ^ 31 → length (ended n end) ≤ 11
unfolding decimal
ended_ten n end h = simp length-append (omega (arith, in_fewer 20 9 n (omega arith)))

-- a number of 64 bits takes at most twenty digits
pub twenty : (n k : ℕ) → n < 2 ^ 64 → IsDigitCount 10 1 n k → k ≤ 20
twenty n k h (a, b, c) = by (dec_le k 20)
  where
    by : Dec (k ≤ 20) → k ≤ 20
    by (yes l) = l
    by (no l) =
        let p : 10 ^ 20 ≤ 10 ^ (k - 1) = pow-le-pow_right {n = 10} (omega arith) {i = 20} {j = k - 1} (omega arith) in
        absurd (omega (arith, c (omega arith)))

-- ---- what `append_number` has at hand: k digits, and the text with them laid at the place
module _ (n at end k : ℕ) (ds text : List ℕ) (room : at + 21 ≤ length text) (counts : k ≡ length (take k ds)) (few : k ≤ 20) (w : IsDigitCount 10 1 n k) (e : take k ds ≡ last_digits 10 k n) where
  spelt : take k ds ≡ decimal n
  spelt = e ∙ decimal_is n k few w

  long : length (decimal n) ≡ k
  long = sym (ap length spelt) ∙ sym counts

  pub number_laid : (l : List ℕ) → l ≡ lay at (take k ds) text → Gives (appended (ended n end) at text) (at + k + 1) (set l (at + k) end)
  number_laid l g =
      let h : l ≡ lay at (decimal n) text = rw spelt at g in
      let i : at + length (decimal n) ≤ length text = rw long (omega arith) in
      let j : length l ≡ length text = rw h (length_lay at (decimal n) text i) in
      record {
        answer = rw (length-append, long) (omega arith);
        memory = lay_one l (at + k) end (omega arith) ∙ rw (h, ← long) (lay_next at (decimal n) (end ∷ []) text i);
      }
