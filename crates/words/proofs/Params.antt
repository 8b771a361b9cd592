-- Laws of parameter words: their cases, their ranges, and that each way undoes the other, for every number and every word.
use mathlib.Core.Path.{◌≡◌, refl, sym, ◌∙◌, ap}
use Prim.Native.Nat.{ℕ, ◌+◌, ◌*◌, ◌/◌, ◌%◌, ◌^◌, ◌<◌}
use native.Mathlib.Omega.{arith}
use native.Mathlib.Decide.{ℕ_discrete}
use borrow.Author.Tests.{eq-eqb, ne_eqb}
use lib.Dec.{T}
use lib.IntN.{ℤ, pos, negsuc, neg_ℤ, nat_abs, ◌-ℤ◌, ◌*ℤ◌}
use lib.Signed.{◌≤ℤ◌, ◌<ℤ◌, non_neg}
use mir.Syntax.{w32, w64}
use mir.Val.{SFits, Fits, to_z}
use mir.Facts.{to_z_pos}
use Rattle.whole.proofs.Parts.{zarith, -parts, neg_p, neg_n}
use Rattle.whole.proofs.Machine.{fit_size, size_fits, size-*, size--, size_pos, size_neg}
use Rattle.words.specs.Params.{param, unparam}

-- ---- the two cases of each
odd_word : (n : ℕ) → neg_ℤ (pos 2) *ℤ negsuc n -ℤ pos 1 ≡ pos (2 * n + 1)
odd_word n = omega (zarith, -parts (neg_ℤ (pos 2) *ℤ negsuc n) (pos 1))

pub param_pos : (n : ℕ) → param (pos n) ≡ 2 * n
unfolding param
param_pos n = refl

pub param_neg : (n : ℕ) → param (negsuc n) ≡ 2 * n + 1
unfolding param
param_neg n = ap nat_abs (odd_word n)

minus_half : (h : ℕ) → neg_ℤ (pos h) -ℤ pos 1 ≡ negsuc h
minus_half h = omega (zarith, -parts (neg_ℤ (pos h)) (pos 1), neg_p (pos h), neg_n (pos h))

pub unparam_even : (w : ℕ) → w % 2 ≡ 0 → unparam w ≡ pos (w / 2)
unfolding unparam
unparam_even w h = rw (eq-eqb (w % 2) 0 h)

pub unparam_odd : (w : ℕ) → (w % 2 ≡ 0 → ⊥) → unparam w ≡ negsuc (w / 2)
unfolding unparam
unparam_odd w h = rw (ne_eqb (w % 2) 0 h) (minus_half (w / 2))

-- ---- there and back
pub unparam_param : (z : ℤ) → unparam (param z) ≡ z
unparam_param (pos n) = rw param_pos (unparam_even (2 * n) (omega arith) ∙ ap pos (omega arith))
unparam_param (negsuc n) = rw param_neg (unparam_odd (2 * n + 1) (λ e. omega arith) ∙ ap negsuc (omega arith))

pub param_unparam : (w : ℕ) → param (unparam w) ≡ w
param_unparam w = by (ℕ_discrete (w % 2) 0)
  where
    by : Dec (w % 2 ≡ 0) → param (unparam w) ≡ w
    by (yes h) = rw (unparam_even w h, param_pos) (omega arith)
    by (no h) = rw (unparam_odd w h, param_neg) (omega arith)

-- ---- ranges: a word of 32 bits for each i32, and an i32 for each word
pub param_fits : (z : ℤ) → SFits w32 z → param z < 2 ^ 32
param_fits (pos n) f = rw param_pos (omega (arith, f.sfits))
param_fits (negsuc n) f = rw param_neg (omega (arith, f.sfits))

pub unparam_fits : (w : ℕ) → w < 2 ^ 32 → SFits w32 (unparam w)
unparam_fits w l = by (ℕ_discrete (w % 2) 0)
  where
    by : Dec (w % 2 ≡ 0) → SFits w32 (unparam w)
    by (yes h) = rw (unparam_even w h) (record { sfits = omega arith })
    by (no h) = rw (unparam_odd w h) (record { sfits = omega arith })

-- ---- what the code computes on the way, at 64 bits: no sum or product is lost, and the result is a word of 32
pub record IsWord (z word : ℤ) : Type 0 where
  pub signless : T (non_neg word)
  pub fits : Fits w32 (nat_abs word)
  pub is : nat_abs word ≡ param z

module _ {z : ℤ} (f : SFits w32 z) where
  pub twice : SFits w64 (pos 2 *ℤ z)
  twice = fit_size (size-* (size_pos {a = 2}) (size_fits f)) tt

  pub minus_twice : SFits w64 (negsuc 1 *ℤ z)
  minus_twice = fit_size (size-* (size_neg (size_pos {a = 2})) (size_fits f)) tt

  pub one_less : SFits w64 (negsuc 1 *ℤ z -ℤ pos 1)
  one_less = fit_size (size-- (size-* (size_neg (size_pos {a = 2})) (size_fits f)) (size_pos {a = 1})) tt

pub even_is : {z : ℤ} → SFits w32 z → pos 0 ≤ℤ z → IsWord z (pos 2 *ℤ z)
even_is {z = pos n} f h = record { signless = tt; fits = record { fits = omega (arith, f.sfits) }; is = sym (param_pos n) }
even_is {z = negsuc n} f h = absurd h.le

pub odd_is : {z : ℤ} → SFits w32 z → z <ℤ pos 0 → IsWord z (negsuc 1 *ℤ z -ℤ pos 1)
odd_is {z = pos n} f h = absurd (omega zarith)
odd_is {z = negsuc n} f h = rw odd_word (record { signless = tt; fits = record { fits = omega (arith, f.sfits) }; is = sym (param_neg n) })

-- and back, at 32 bits
module _ (w : ℕ) (l : w < 2 ^ 32) where
  pub half : to_z w32 (w / 2) ≡ pos (w / 2)
  half = to_z_pos w32 (omega arith)

  pub less_half : negsuc 0 -ℤ to_z w32 (w / 2) ≡ negsuc (w / 2)
  less_half = rw half (omega (zarith, -parts (negsuc 0) (pos (w / 2))))

  pub less_fits : SFits w32 (negsuc 0 -ℤ to_z w32 (w / 2))
  less_fits = rw less_half (record { sfits = omega arith })
