-- The test for equal numbers, and that the machine's test, which goes by bits, is that one.
use mathlib.Core.Path.{◌≡◌, refl, sym, ◌∙◌, ap}
use mathlib.Core.Bool.{true, false}
use Prim.Native.Nat.{ℕ}
use native.Mathlib.Omega.{arith}
use borrow.Author.Tests.{eq-eqb, ne_eqb}
use lib.Dec.{eqb}
use lib.IntN.{ℤ, pos, negsuc, ℤ_discrete}
use mir.Syntax.{w32}
use mir.Val.{SFits, of_z, to_z}
use mir.Facts.{to_z-of_z}
use Rattle.whole.specs.Equal.{eq_z}

pub eq_z_refl : (a : ℤ) → eq_z a a ≡ true
eq_z_refl (pos m) = eq-eqb m m refl
eq_z_refl (negsuc m) = eq-eqb m m refl

pub eq_z_no : (a b : ℤ) → (a ≡ b → ⊥) → eq_z a b ≡ false
eq_z_no (pos m) (pos n) h = ne_eqb m n (λ e. h (ap pos e))
eq_z_no (pos m) (negsuc n) h = refl
eq_z_no (negsuc m) (pos n) h = refl
eq_z_no (negsuc m) (negsuc n) h = ne_eqb m n (λ e. h (ap negsuc e))

pub eq_z_yes : (a b : ℤ) → eq_z a b ≡ true → a ≡ b
eq_z_yes a b e = by (ℤ_discrete a b)
  where
    by : Dec (a ≡ b) → a ≡ b
    by (yes f) = f
    by (no h) = let g = eq_z_no a b h in absurd (let z : ◌≡◌ {A = ℕ} 0 1 = cc in omega arith)

eq_bits_by : (a b : ℤ) → SFits w32 a → SFits w32 b → Dec (a ≡ b) → eqb (of_z w32 a) (of_z w32 b) ≡ eq_z a b
eq_bits_by a b p q (yes e) = rw e (eq-eqb (of_z w32 b) (of_z w32 b) refl ∙ sym (eq_z_refl b))
eq_bits_by a b p q (no h) =
    ne_eqb (of_z w32 a) (of_z w32 b) (λ e. h (sym (to_z-of_z p) ∙ ap (to_z w32) e ∙ to_z-of_z q)) ∙ sym (eq_z_no a b h)

-- the code's test of two signed numbers, on their bits, is the test of the numbers
pub eq_bits : {a b : ℤ} → SFits w32 a → SFits w32 b → eqb (of_z w32 a) (of_z w32 b) ≡ eq_z a b
eq_bits {a} {b} p q = eq_bits_by a b p q (ℤ_discrete a b)
