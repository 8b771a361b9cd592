-- The overlap test changes no answer: where the rectangles do not overlap no cut moves an end. So whatever test `bounded_by` of pointy makes, as long as it lets through each segment
-- whose rectangle overlaps the box, the answer is the same.
use mathlib.Core.Path.{◌≡◌, refl, sym, ◌∙◌, ap}
use mathlib.Core.List.{List, [], ◌∷◌}
use native.Mathlib.Omega.{arith}
use lib.IntN.{ℤ, ◌-ℤ◌, ◌*ℤ◌}
use lib.Signed.{◌≤ℤ◌, ◌<ℤ◌, le_z}
use Rattle.whole.proofs.Laws.{prod, next, <-≤}
use Rattle.whole.proofs.Machine.{le_no}
use Rattle.whole.proofs.Auto.{reads, ≤:, <:}
use Rattle.clip.specs.declared.Pt.{Pt}
use Rattle.clip.specs.declared.Seg.{Seg}
use Rattle.clip.specs.declared.BBox.{BBox}
use Rattle.clip.specs.declared.ClippedSeg.{ClippedSeg}
use Rattle.clip.specs.Cutting.{most, least, given, cuts, overlap, clip}
use Rattle.clip.specs.Demand3.{Inside, Share}
use Rattle.promise.proofs.Joined.{by_four}
use Rattle.clip.proofs.Tests.{most_lt, lt_least}
use Rattle.clip.proofs.Ends.{low, high, join, ends_x, ends_y, Proper}
use Rattle.clip.proofs.Readings.{cuts_are_ends}
use Rattle.clip.proofs.Slopes.{Small}
use Rattle.clip.proofs.Fates.{Half}
use Rattle.clip.proofs.Tracks.{Cut, neither, first, second}
use Rattle.clip.proofs.Demands.{cut_x, cut_y}
use Rattle.clip.proofs.Names.{still_given}

-- a number near the line between two that are below c is below c too, and the same above
near_below : (c p e f : ℤ) {k d : ℤ} → Share k d → e <ℤ c → f <ℤ c → Small d (d *ℤ (p -ℤ e) -ℤ k *ℤ (f -ℤ e)) → c ≤ℤ p → ⊥
near_below c p e f {k} {d} s he hf h hp =
    let ρ : List ℤ = c ∷ p ∷ e ∷ f ∷ k ∷ d ∷ [] in
    omega (
      arith,
      <: ρ s.some (search reads depth 30),
      ≤: ρ h.above (search reads depth 30),
      ≤: ρ (prod s.to (next he)) (search reads depth 30),
      ≤: ρ (prod s.from (next hf)) (search reads depth 30),
      ≤: ρ (prod (<-≤ s.some) hp) (search reads depth 30),
    )

near_above : (c p e f : ℤ) {k d : ℤ} → Share k d → c <ℤ e → c <ℤ f → Small d (d *ℤ (p -ℤ e) -ℤ k *ℤ (f -ℤ e)) → p ≤ℤ c → ⊥
near_above c p e f {k} {d} s he hf h hp =
    let ρ : List ℤ = c ∷ p ∷ e ∷ f ∷ k ∷ d ∷ [] in
    omega (
      arith,
      <: ρ s.some (search reads depth 30),
      ≤: ρ h.below (search reads depth 30),
      ≤: ρ (prod s.to (next he)) (search reads depth 30),
      ≤: ρ (prod s.from (next hf)) (search reads depth 30),
      ≤: ρ (prod (<-≤ s.some) hp) (search reads depth 30),
    )

-- why no point near the segment from p to q is in the box
pub data Apart (b : BBox) (p q : Pt) : Type 0 where
  left : p.x <ℤ b.x_min → q.x <ℤ b.x_min → Apart b p q
  right : b.x_max <ℤ p.x → b.x_max <ℤ q.x → Apart b p q
  under : p.y <ℤ b.y_min → q.y <ℤ b.y_min → Apart b p q
  over : b.y_max <ℤ p.y → b.y_max <ℤ q.y → Apart b p q

none_near : {b : BBox} {p q r : Pt} → Apart b p q → Half p q r → Inside b r → ⊥
none_near {b} {p} {q} {r} (left u v) h i = near_below b.x_min r.x p.x q.x h.share u v h.in_x i.left
none_near {b} {p} {q} {r} (right u v) h i = near_above b.x_max r.x p.x q.x h.share u v h.in_x i.right
none_near {b} {p} {q} {r} (under u v) h i = near_below b.y_min r.y p.y q.y h.share u v h.in_y i.bottom
none_near {b} {p} {q} {r} (over u v) h i = near_above b.y_max r.y p.y q.y h.share u v h.in_y i.top

apart_back : {b : BBox} {p q : Pt} → Apart b p q → Apart b q p
apart_back (left u v) = left v u
apart_back (right u v) = right v u
apart_back (under u v) = under v u
apart_back (over u v) = over v u

uncut : {b : BBox} {p q r t : Pt} → Apart b p q → Cut b p q r t → join r t ≡ join p q
uncut x neither = refl
uncut x (first r o e h) = absurd (none_near (apart_back x) h e.inside)
uncut x (second r o e h) = absurd (none_near x h e.inside)

module _ (b : BBox) (h : Proper b) (t : Seg) where
  pub cuts_apart : Apart b t.p0 t.p1 → cuts b t ≡ given t
  cuts_apart x =
      let e : (cuts b t).seg ≡ t =
      cuts_are_ends b t ∙ ap (λ (s : Seg). ends_y high b (ends_y low b (ends_x high b s))) (uncut x (cut_x b h low t)) ∙
      ap (λ (s : Seg). ends_y high b (ends_y low b s)) (uncut x (cut_x b h high t)) ∙ ap (ends_y high b) (uncut x (cut_y b h low t)) ∙ uncut x (cut_y b h high t)
      in
      still_given b h t e

  -- the clip is the four cuts, without any test
  pub clip_cuts : clip b t ≡ cuts b t
  unfolding clip overlap
  clip_cuts =
      by_four (λ (c : ClippedSeg). c ≡ cuts b t) (le_z b.x_min (most t.p0.x t.p1.x)) (le_z (least t.p0.x t.p1.x) b.x_max) (le_z b.y_min (most t.p0.y t.p1.y)) (le_z (least t.p0.y t.p1.y) b.y_max) _ _
      (λ l r u o. refl)
      (λ e. let k = most_lt t.p0.x t.p1.x b.x_min (le_no e) in sym (cuts_apart (left k.0 k.1)))
      (λ e. let k = lt_least t.p0.x t.p1.x b.x_max (le_no e) in sym (cuts_apart (right k.0 k.1)))
      (λ e. let k = most_lt t.p0.y t.p1.y b.y_min (le_no e) in sym (cuts_apart (under k.0 k.1)))
      (λ e. let k = lt_least t.p0.y t.p1.y b.y_max (le_no e) in sym (cuts_apart (over k.0 k.1)))
