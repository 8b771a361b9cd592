-- The rounded crossing in 64 bits, over plain numbers: each value on the way fits, by the sizes of the coordinates, and the result lies between the two y, so it fits 32.
use mathlib.Core.Logic.{⊎_elim}
use mathlib.Core.List.{List, [], ◌∷◌}
use native.Mathlib.Omega.{arith}
use lib.IntN.{ℤ, nat_abs, pos, ◌+ℤ◌, ◌-ℤ◌, ◌*ℤ◌}
use lib.Signed.{◌≤ℤ◌, ◌<ℤ◌}
use Prim.Native.Nat.{ℕ, ◌+◌}
use Rattle.clip.specs.Domain.{limit}
use mir.Syntax.{w64}
use mir.Val.{SFits}
use Rattle.whole.specs.Floor.{IsFloor}
use Rattle.whole.proofs.Laws.{*-nonneg, diff, diff<, ≤-total, ≤_trans, <-≤}
use Rattle.whole.proofs.Machine.{Size, size_of, size-+, size--, size-*, size_pos, fit_size}
use Rattle.whole.proofs.Auto.{reads, ≤:, <:, ≤!, <! }
use Rattle.whole.proofs.Floors.{floor_ge, floor_lt, floor_is}
use Rattle.clip.specs.Rounding.{round}
use Rattle.clip.specs.Cutting.{least, most, height}
use Rattle.clip.specs.Facts.{Within, Asked}
use Rattle.whole.proofs.Cases.{by_le}
use Rattle.clip.proofs.Roundings.{twice_pos}

-- the limit as a size, and that of a difference of two coordinates
abbrev L : ℕ
L = nat_abs limit

abbrev D : ℕ
D = L + L

size_within : {z : ℤ} → Within z → Size z L
size_within h = size_of h.least h.most

module _ {x1 y1 x2 y2 x : ℤ} (a : Asked x1 y1 x2 y2 x) where
  in_x : Within x
  in_x = record { least = ≤_trans a.in_x1.least a.from; most = ≤_trans a.to a.in_x2.most }

  s_dy : Size (y2 -ℤ y1) D
  s_dy = size-- (size_within a.in_y2) (size_within a.in_y1)

  s_den : Size (x2 -ℤ x1) D
  s_den = size-- (size_within a.in_x2) (size_within a.in_x1)

  s_at : Size (x -ℤ x1) D
  s_at = size-- (size_within in_x) (size_within a.in_x1)

  pub f_dy : SFits w64 (y2 -ℤ y1)
  f_dy = fit_size s_dy tt

  pub f_den : SFits w64 (x2 -ℤ x1)
  f_den = fit_size s_den tt

  pub f_at : SFits w64 (x -ℤ x1)
  f_at = fit_size s_at tt

  pub f_num : SFits w64 ((y2 -ℤ y1) *ℤ (x -ℤ x1))
  f_num = fit_size (size-* s_dy s_at) tt

  pub f_2num : SFits w64 (pos 2 *ℤ ((y2 -ℤ y1) *ℤ (x -ℤ x1)))
  f_2num = fit_size (size-* (size_pos {a = 2}) (size-* s_dy s_at)) tt

  pub f_sum : SFits w64 (pos 2 *ℤ ((y2 -ℤ y1) *ℤ (x -ℤ x1)) +ℤ (x2 -ℤ x1))
  f_sum = fit_size (size-+ (size-* (size_pos {a = 2}) (size-* s_dy s_at)) s_den) tt

  pub f_2den : SFits w64 (pos 2 *ℤ (x2 -ℤ x1))
  f_2den = fit_size (size-* (size_pos {a = 2}) s_den) tt

  pub den_pos : pos 0 <ℤ (pos 2 *ℤ (x2 -ℤ x1))
  den_pos = twice_pos (diff< a.apart)

  module _ {q : ℤ} (f : IsFloor (pos 2 *ℤ ((y2 -ℤ y1) *ℤ (x -ℤ x1)) +ℤ (x2 -ℤ x1)) (pos 2 *ℤ (x2 -ℤ x1)) q) where
    -- the line goes up: the floor is between 0 and the rise
    rises : y1 ≤ℤ y2 → (y1 ≤ℤ (y1 +ℤ q)) × ((y1 +ℤ q) ≤ℤ y2)
    rises h =
        let ρ : List ℤ = y1 ∷ y2 ∷ x1 ∷ x2 ∷ x ∷ q ∷ [] in
        let l = <: ρ a.apart (search reads depth 30) in
        let q0 : pos 0 ≤ℤ q = floor_ge (pos 0) den_pos f (≤! ρ (search reads depth 30) (omega (arith, ≤: ρ (*-nonneg (diff h) (diff a.from)) (search reads depth 30)))) in
        let q1 : q <ℤ (y2 -ℤ y1 +ℤ pos 1) = floor_lt (y2 -ℤ y1 +ℤ pos 1) den_pos f (<! ρ (search reads depth 30) (omega (arith, ≤: ρ (*-nonneg (diff h) (diff a.to)) (search reads depth 30)))) in
        (≤! ρ (search reads depth 30) (omega (arith, ≤: ρ q0 (search reads depth 30))), ≤! ρ (search reads depth 30) (omega (arith, <: ρ q1 (search reads depth 30))))

    falls : y2 ≤ℤ y1 → (y2 ≤ℤ (y1 +ℤ q)) × ((y1 +ℤ q) ≤ℤ y1)
    falls h =
        let ρ : List ℤ = y1 ∷ y2 ∷ x1 ∷ x2 ∷ x ∷ q ∷ [] in
        let l = <: ρ a.apart (search reads depth 30) in
        let q0 : (y2 -ℤ y1) ≤ℤ q = floor_ge (y2 -ℤ y1) den_pos f (≤! ρ (search reads depth 30) (omega (arith, ≤: ρ (*-nonneg (diff h) (diff a.to)) (search reads depth 30)))) in
        let q1 : q <ℤ pos 1 = floor_lt (pos 1) den_pos f (<! ρ (search reads depth 30) (omega (arith, ≤: ρ (*-nonneg (diff h) (diff a.from)) (search reads depth 30)))) in
        (≤! ρ (search reads depth 30) (omega (arith, ≤: ρ q0 (search reads depth 30))), ≤! ρ (search reads depth 30) (omega (arith, <: ρ q1 (search reads depth 30))))

    size_sum : Size (y1 +ℤ q) L
    size_sum = ⊎_elim (λ (h : y1 ≤ℤ y2). let k = rises h in size_of (≤_trans a.in_y1.least k.0) (≤_trans k.1 a.in_y2.most))
        (λ (h : y2 ≤ℤ y1). let k = falls h in size_of (≤_trans a.in_y2.least k.0) (≤_trans k.1 a.in_y1.most)) (≤-total y1 y2)

  rounded : IsFloor (pos 2 *ℤ ((y2 -ℤ y1) *ℤ (x -ℤ x1)) +ℤ (x2 -ℤ x1)) (pos 2 *ℤ (x2 -ℤ x1)) (round ((y2 -ℤ y1) *ℤ (x -ℤ x1)) (x2 -ℤ x1))
  rounded = floor_is (pos 2 *ℤ ((y2 -ℤ y1) *ℤ (x -ℤ x1)) +ℤ (x2 -ℤ x1)) (pos 2 *ℤ (x2 -ℤ x1)) den_pos

  pub size_height : Size (height x1 y1 x2 y2 x) L
  size_height = size_sum rounded

  -- the height lies between the two y
  pub above_least : (c : ℤ) → height x1 y1 x2 y2 x ≤ℤ c → least y1 y2 ≤ℤ c
  above_least c k = by_le (λ z. z ≤ℤ c) y1 y2 y1 y2 (λ h. ≤_trans (rises rounded h).0 k) (λ h. ≤_trans (falls rounded (<-≤ h)).0 k)

  pub below_most : (c : ℤ) → c ≤ℤ height x1 y1 x2 y2 x → c ≤ℤ most y1 y2
  below_most c k = by_le (λ z. c ≤ℤ z) y1 y2 y2 y1 (λ h. ≤_trans k (rises rounded h).1) (λ h. ≤_trans k (falls rounded (<-≤ h)).1)
