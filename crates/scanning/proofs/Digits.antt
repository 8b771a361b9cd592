-- A digit's sums fit 64 bits, and each way of the code is the automaton's.
use Prim.Native.Nat.{ℕ, zero, suc, ◌+◌, ◌*◌, ◌%◌, ◌≤◌, ◌<◌, zero-le}
use mathlib.Core.Path.{◌≡◌, refl, sym, ap, ◌∙◌, subst}
use mathlib.Core.Bool.{Bool, true, false}
use native.Mathlib.Nat.{mul-zero, mul-one}
use native.Mathlib.Omega.{arith}
use borrow.Author.Tests.{lt-ltb, le-ltb, ltb-true, ltb-false}
use lib.Dec.{ltb}
use mir.Syntax.{w64}
use mir.Val.{Fits}
use Rattle.scan.specs.declared.Digit.TheVariants.{Bad, More, Ends}
use Rattle.scan.specs.Automaton.{unit, digit}
use Rattle.scan.proofs.Sound.{seven}

above : (i k : ℕ) → k ≤ i → (i ≡ k → ⊥) → suc k ≤ i
above i k h n = omega (arith, h, n)

is_nine : (i : ℕ) → i ≤ 9 → 9 ≤ i → 9 ≡ i
is_nine i h g = omega (arith, h, g)

pub last_unit : (i : ℕ) → i ≤ 9 → (i ≡ 0 → ⊥) → (i ≡ 1 → ⊥) → (i ≡ 2 → ⊥) → (i ≡ 3 → ⊥) → (i ≡ 4 → ⊥) → (i ≡ 5 → ⊥) → (i ≡ 6 → ⊥) → (i ≡ 7 → ⊥) → (i ≡ 8 → ⊥) → 9223372036854775808 ≡ unit i
last_unit i h a b c d e f g j k =
    subst (λ (m : ℕ). 9223372036854775808 ≡ unit m) (is_nine i h (above i 8 (above i 7 (above i 6 (above i 5 (above i 4 (above i 3 (above i 2 (above i 1 (above i 0 zero-le a) b) c) d) e) f) g) j) k)) refl

unit_nine : (i : ℕ) → i < 9 → unit i ≤ 72057594037927936
unit_nine zero h = omega arith
unit_nine (suc zero) h = omega arith
unit_nine (suc (suc zero)) h = omega arith
unit_nine (suc (suc (suc zero))) h = omega arith
unit_nine (suc (suc (suc (suc zero)))) h = omega arith
unit_nine (suc (suc (suc (suc (suc zero))))) h = omega arith
unit_nine (suc (suc (suc (suc (suc (suc zero)))))) h = omega arith
unit_nine (suc (suc (suc (suc (suc (suc (suc zero))))))) h = omega arith
unit_nine (suc (suc (suc (suc (suc (suc (suc (suc zero)))))))) h = omega arith
unit_nine (suc (suc (suc (suc (suc (suc (suc (suc (suc i))))))))) h = absurd (omega (arith, h))

module _ (i v u n : ℕ) (e : u ≡ unit i) (s : v < unit i) where
  module _ (h : i < 9) where
    sum : (r : ℕ) → r < 128 → v + u * r < 18446744073709551616
    sum r g = omega (arith, seven u v r (omega (arith, e, s)) (omega (arith, g)), e, unit_nine i h)

    pub low_mul : n < 128 → Fits w64 (u * n)
    low_mul g = record { fits = omega (arith, sum n g) }

    pub low_add : n < 128 → Fits w64 (v + u * n)
    low_add g = record { fits = omega (arith, sum n g) }

    pub high_mul : Fits w64 (u * (n % 128))
    high_mul = record { fits = omega (arith, sum (n % 128) (omega arith)) }

    pub high_add : Fits w64 (v + u * (n % 128))
    high_add = record { fits = omega (arith, sum (n % 128) (omega arith)) }

    pub low_is : (b : ℕ) → n ≡ b → n < 128 → Ends (v + u * n) ≡ digit i v b
    low_is b g l = rw (sym g, lt-ltb i 9 h, lt-ltb n 128 l, sym e) refl

    pub high_is : (b : ℕ) → n ≡ b → 128 ≤ n → More (v + u * (n % 128)) ≡ digit i v b
    high_is b g l = rw (sym g, lt-ltb i 9 h, le-ltb n 128 l, sym e) refl

  module _ (h : 9 ≤ i) (k : i ≤ 9) where
    nine : u ≡ 9223372036854775808
    nine = let z : i ≡ 9 = omega (arith, h, k) in e ∙ ap unit z

    last_sum : n < 2 → v + u * n < 18446744073709551616
    last_sum g = by n g
      where
        by : (m : ℕ) → m < 2 → v + u * m < 18446744073709551616
        by zero g = omega (arith, s, e, nine, mul-zero u)
        by (suc zero) g = omega (arith, s, e, nine, mul-one u)
        by (suc (suc m)) g = absurd (omega (arith, g))

    pub last_mul : n < 2 → Fits w64 (u * n)
    last_mul g = record { fits = omega (arith, last_sum g) }

    pub last_add : n < 2 → Fits w64 (v + u * n)
    last_add g = record { fits = omega (arith, last_sum g) }

    pub last_is : (b : ℕ) → n ≡ b → n < 2 → Ends (v + u * n) ≡ digit i v b
    last_is b g l = rw (sym g, le-ltb i 9 h, lt-ltb n 2 l, sym e) refl

    pub bad_is : (b : ℕ) → n ≡ b → 2 ≤ n → Bad ≡ digit i v b
    bad_is b g l = rw (sym g, le-ltb i 9 h, le-ltb n 2 l) refl

pub unit_ten : (i : ℕ) → i ≤ 9 → unit i ≤ 9223372036854775808
unit_ten i h = by (ltb i 9) refl
  where
    by : (b : Bool) → ltb i 9 ≡ b → unit i ≤ 9223372036854775808
    by true e = omega (arith, unit_nine i (ltb-true i 9 e))
    by false e = let z : 9 ≡ i = is_nine i h (ltb-false i 9 e) in subst (λ (m : ℕ). unit m ≤ 9223372036854775808) z (omega arith)
