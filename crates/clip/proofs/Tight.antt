-- Demand 3 rules something out. A clip that returns its segment untouched does not meet it; and "less than one" cannot be lowered to one half: of document 01's first P clip,
-- (-10,0)-(990,51) to (0,1)-(10,2), the end (10,2) has no point of the exact segment less than one half from it in x and in y.
use mathlib.Core.List.{List, [], ◌∷◌}
use native.Mathlib.Omega.{arith}
use lib.IntN.{ℤ, pos, negsuc, ◌-ℤ◌, ◌*ℤ◌}
use lib.Signed.{◌<ℤ◌, le_z_yes, lt_z_yes}
use Rattle.whole.proofs.Auto.{reads, ≤:, <:}
use Rattle.clip.specs.declared.Seg.{Seg}
use Rattle.clip.specs.Cutting.{given}
use Rattle.clip.specs.Samples.{from, ten}
use Rattle.clip.specs.Demand3.{Share, along, Meets, Demand3}

-- document 01's job (-5,3) (15,8), of which the middle lies in the box
abbrev through : Seg
through = from (negsuc 4) (pos 3) (pos 15) (pos 8)

middle : Meets ten through
middle = record {
  k = pos 1;
  d = pos 2;
  share = record { from = le_z_yes tt; to = le_z_yes tt; some = lt_z_yes tt };
  left = le_z_yes tt;
  right = le_z_yes tt;
  bottom = le_z_yes tt;
  top = le_z_yes tt;
}

pub untouched : Demand3 ten through (given through) → ⊥
untouched h = (h.inside0 middle).left.le

pub not_half : (k d : ℤ) → Share k d
    → (pos 2 *ℤ (along d k (negsuc 9) (pos 990) -ℤ d *ℤ pos 10)) <ℤ d → (pos 2 *ℤ (d *ℤ pos 2 -ℤ along d k (pos 0) (pos 51))) <ℤ d → ⊥
not_half k d s h g =
    let ρ : List ℤ = k ∷ d ∷ [] in
    omega (arith, ≤: ρ s.from (search reads depth 30), <: ρ s.some (search reads depth 30), <: ρ h (search reads depth 30), <: ρ g (search reads depth 30))
