-- The patterns above that of infinity, the sign left out, are the NaNs.
use Prim.Native.Nat.{ℕ, ◌<◌, ◌≤◌, ◌%◌}
use mathlib.Core.Path.{◌≡◌, refl, sym, ◌∙◌, subst}
use mathlib.Core.Bool.{Bool, not}
use native.Mathlib.Omega.{arith}
use lib.Arith.{lt→nleb}
use lib.Dec.{T, ltb, lt→ltb}
use lib.Ieee.{Float, nan, inf, fin, binary64, div, of_bits, is_nan, nan_bits}
use lib.Ieee.Bits.{nan_bits_is, nan_bits_above}
use Rattle.job_file.proofs.survey.double_of.Goals as goal

-- there is one NaN
one_nan : (x : Float) → T (is_nan x) → nan ≡ x
unfolding is_nan
one_nan nan t = refl
one_nan (inf s) t = absurd t
one_nan (fin s m e) t = absurd t

nan_is : div binary64 (of_bits binary64 0) (of_bits binary64 0) ≡ nan
unfolding div of_bits
nan_is = refl

-- the code's test
tested : (n : ℕ) → nan_bits binary64 n ≡ ltb 9218868437227405312 (n % 9223372036854775808)
tested n = nan_bits_above binary64 n

next : (n : ℕ) → n ≤ 9218868437227405312 → n < 9218868437227405313
next n h = omega arith

pub returns-then-bits-gt9218868437227405312 : goal.returns-then-bits-gt9218868437227405312
returns-then-bits-gt9218868437227405312 c = let n = c.args.bits in nan_is ∙ one_nan (of_bits binary64 n) (subst T (sym (tested n) ∙ nan_bits_is binary64 n) (lt→ltb _ _ c.if-bits-gt9218868437227405312.true))

pub float_from_bits-result : goal.float_from_bits-result
float_from_bits-result c = let n = c.args.bits in subst (λ (b : Bool). T (not b)) (sym (tested n)) (lt→nleb 9218868437227405313 _ (next _ c.if-bits-gt9218868437227405312.false))
