-- The law of the rounding: `round n d` is the one whole number y with n / d - 1/2 < y ≤ n / d + 1/2. So is the y of a crossing, with the line's exact y at x for n / d.
use mathlib.Core.Path.{◌≡◌, ◌∙◌, ap}
use mathlib.Core.List.{List, [], ◌∷◌}
use native.Mathlib.Omega.{arith}
use lib.IntN.{ℤ, pos, ◌+ℤ◌, ◌-ℤ◌, ◌*ℤ◌}
use lib.Signed.{◌<ℤ◌}
use Rattle.whole.specs.Floor.{IsFloor}
use Rattle.whole.proofs.Parts.{zarith, *-parts}
use Rattle.whole.proofs.Auto.{reads, ring!, ≤:, <:, ≤!, <! }
use Rattle.whole.proofs.Laws.{diff<}
use Rattle.whole.proofs.Floors.{floor_is, floor_unique}
use Rattle.clip.specs.Rounding.{round, Rounded}
use Rattle.clip.specs.Cutting.{height}

pub twice_pos : {d : ℤ} → pos 0 <ℤ d → pos 0 <ℤ (pos 2 *ℤ d)
twice_pos {d} h = omega (zarith, *-parts (pos 2) d)

module _ (n : ℤ) {d : ℤ} (h : pos 0 <ℤ d) where
  pub round_is : Rounded n d (round n d)
  round_is =
      rounded (round n d) (floor_is (pos 2 *ℤ n +ℤ d) (pos 2 *ℤ d) (twice_pos h))
    where
      rounded : (y : ℤ) → IsFloor (pos 2 *ℤ n +ℤ d) (pos 2 *ℤ d) y → Rounded n d y
      rounded y f =
          let ρ : List ℤ = n ∷ d ∷ y ∷ [] in
          record {
            above = <! ρ (search reads depth 30) (omega (arith, <: ρ f.high (search reads depth 30)));
            upto = ≤! ρ (search reads depth 30) (omega (arith, ≤: ρ f.low (search reads depth 30)));
          }

  pub round_only : {y : ℤ} → Rounded n d y → y ≡ round n d
  round_only {y} r =
      let ρ : List ℤ = n ∷ d ∷ y ∷ [] in
      let f : IsFloor (pos 2 *ℤ n +ℤ d) (pos 2 *ℤ d) y = record {
        low = ≤! ρ (search reads depth 30) (omega (arith, ≤: ρ r.upto (search reads depth 30)));
        high = <! ρ (search reads depth 30) (omega (arith, <: ρ r.above (search reads depth 30)));
      } in
      floor_unique (twice_pos h) f (floor_is (pos 2 *ℤ n +ℤ d) (pos 2 *ℤ d) (twice_pos h))

-- the line from (x1, y1) to (x2, y2) has at x the exact y  exactly / (x2 - x1)
abbrev pub exactly : ℤ → ℤ → ℤ → ℤ → ℤ → ℤ
exactly x1 y1 x2 y2 x = y1 *ℤ (x2 -ℤ x1) +ℤ (y2 -ℤ y1) *ℤ (x -ℤ x1)

module _ (x1 y1 x2 y2 x : ℤ) where
  lifted : (z : ℤ) → Rounded ((y2 -ℤ y1) *ℤ (x -ℤ x1)) (x2 -ℤ x1) z → Rounded (exactly x1 y1 x2 y2 x) (x2 -ℤ x1) (y1 +ℤ z)
  lifted z r =
      let ρ : List ℤ = x1 ∷ y1 ∷ x2 ∷ y2 ∷ x ∷ z ∷ [] in
      record {
        above = <! ρ (search reads depth 30) (omega (arith, <: ρ r.above (search reads depth 30)));
        upto = ≤! ρ (search reads depth 30) (omega (arith, ≤: ρ r.upto (search reads depth 30)));
      }

  lowered : (y : ℤ) → Rounded (exactly x1 y1 x2 y2 x) (x2 -ℤ x1) y → Rounded ((y2 -ℤ y1) *ℤ (x -ℤ x1)) (x2 -ℤ x1) (y -ℤ y1)
  lowered y r =
      let ρ : List ℤ = x1 ∷ y1 ∷ x2 ∷ y2 ∷ x ∷ y ∷ [] in
      record {
        above = <! ρ (search reads depth 30) (omega (arith, <: ρ r.above (search reads depth 30)));
        upto = ≤! ρ (search reads depth 30) (omega (arith, ≤: ρ r.upto (search reads depth 30)));
      }

  pub height_is : x1 <ℤ x2 → Rounded (exactly x1 y1 x2 y2 x) (x2 -ℤ x1) (height x1 y1 x2 y2 x)
  height_is h = lifted _ (round_is _ (diff< h))

  pub height_only : {y : ℤ} → x1 <ℤ x2 → Rounded (exactly x1 y1 x2 y2 x) (x2 -ℤ x1) y → y ≡ height x1 y1 x2 y2 x
  height_only {y} h r = back ∙ ap (λ (z : ℤ). y1 +ℤ z) (round_only _ (diff< h) (lowered y r))
    where
      back : y ≡ y1 +ℤ (y -ℤ y1)
      back = ring! (y ∷ y1 ∷ []) (search reads depth 30) tt
