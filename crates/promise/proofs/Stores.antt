-- Two and three stores side by side are a run laid.
use mathlib.Core.Path.{◌≡◌}
use mathlib.Core.List.{List, [], ◌∷◌}
use Prim.Native.Nat.{ℕ, suc, ◌+◌, ◌≤◌}
use native.Mathlib.Numerals.{add-one}
use native.Mathlib.Omega.{arith}
use lib.ListN.{length, set}
use lib.Seq.{sets-eq}
use Rattle.promise.specs.Laid.{lay}

module _ {E : Type 0} (l : List E) (at : ℕ) where
  pub two_stores : (a b : E) → at + 2 ≤ length l → set (set l at a) (at + 1) b ≡ lay at (a ∷ b ∷ []) l
  two_stores a b h = rw (add-one at) (sets-eq (a ∷ b ∷ []) l at h)

  pub three_stores : (a b c : E) → at + 3 ≤ length l → set (set (set l at a) (at + 1) b) (at + 2) c ≡ lay at (a ∷ b ∷ c ∷ []) l
  three_stores a b c h = let e : at + 2 ≡ suc (suc at) = omega arith in rw (add-one at, e) (sets-eq (a ∷ b ∷ c ∷ []) l at h)
