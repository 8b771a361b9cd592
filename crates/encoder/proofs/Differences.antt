-- A step between two numbers within the limit fits an i32.
use mathlib.Core.Path.{◌≡◌}
use Prim.Native.Nat.{ℕ}
use lib.IntN.{ℤ, ◌-ℤ◌}
use mir.Syntax.{w32}
use mir.Val.{SFits, of_z, to_z}
use mir.Facts.{to_z-of_z}
use Rattle.whole.proofs.Machine.{fit_size, size_of, size--}
use Rattle.clip.specs.Facts.{Within}
use Rattle.words.specs.Params.{param}

pub step_fits : {a b : ℤ} → Within a → Within b → SFits w32 (a -ℤ b)
step_fits h k = fit_size (size-- (size_of h.least h.most) (size_of k.least k.most)) tt

pub step_is : {a b : ℤ} {w : ℕ} → SFits w32 a → SFits w32 b → Within a → Within b → w ≡ param (to_z w32 (of_z w32 (to_z w32 (of_z w32 a) -ℤ to_z w32 (of_z w32 b)))) → w ≡ param (a -ℤ b)
step_is fa fb h k e = rw (to_z-of_z fa, to_z-of_z fb, to_z-of_z (step_fits h k)) at e
