-- The smaller of two numbers exceeds neither.
use Prim.Native.Nat.{ℕ, ◌≤◌}
use mathlib.Core.Path.{◌≡◌, refl}
use mathlib.Core.Bool.{Bool, true, false, cond}
use native.Mathlib.Omega.{arith}
use native.Mathlib.Nat.{le_refl}
use lib.Dec.{leb}
use borrow.Author.Tests.{leb-true, leb-false}
use Rattle.number.specs.Least.{smaller}

smaller_by : (a b : ℕ) (t : Bool) → leb a b ≡ t → (cond t a b ≤ a) × (cond t a b ≤ b)
smaller_by a b true e = (le_refl a, leb-true a b e)
smaller_by a b false e = (omega (arith, leb-false a b e), le_refl b)

pub smaller_le : (a b : ℕ) → (smaller a b ≤ a) × (smaller a b ≤ b)
smaller_le a b = smaller_by a b (leb a b) refl
