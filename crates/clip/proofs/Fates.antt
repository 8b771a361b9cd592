-- What the cut at an edge of x does to one end, e, of a segment from e to f: `fate`.
--     clear    e is not strictly beyond the edge, and stays
--     moved    e is, f is not, and e goes to a point of the box's edge, half a unit at most from the segment
--     stuck    e is, and stays, since there is no crossing. Where the segment has a point in the box, the reason can only be that the rounded crossing misses the box: `Blocked`
-- The sides are told apart by `turn`, so that each inequality is about plain numbers that are above zero beyond the edge.
use mathlib.Core.Path.{◌≡◌, refl}
use mathlib.Core.List.{List, [], ◌∷◌}
use mathlib.Core.Logic.{inl, inr}
use native.Mathlib.Omega.{arith}
use lib.IntN.{ℤ, pos, neg_ℤ, ◌-ℤ◌, ◌*ℤ◌}
use lib.Signed.{◌≤ℤ◌, ◌<ℤ◌, ≤ℤ_refl}
use Rattle.whole.proofs.Parts.{zarith, -parts, neg_p, neg_n}
use Rattle.whole.proofs.Laws.{prod, next, <-≤, diff<}
use Rattle.whole.proofs.Auto.{reads, ≤:, <:, ≡:, ≤!, ≡! }
use Rattle.clip.specs.declared.Pt.{Pt}
use Rattle.clip.specs.declared.BBox.{BBox}
use Rattle.clip.specs.Cutting.{Crossing, swap}
use Rattle.clip.specs.Demand3.{OnEdge, Share, Meets}
use Rattle.whole.proofs.Cases.{by_lt}
use Rattle.clip.proofs.Ends.{Side, low, high, edge, put, move, join, swap_box, Proper}
use Rattle.clip.proofs.Verdicts.{Nearest, Verdict, level, left, right, under, over, lower, upper, good, back, verdict}
use Rattle.clip.proofs.Slopes.{Small, Steep, steep, ahead, as_far, both_below, both_above}

-- a difference as seen from that side
abbrev pub turn : Side → ℤ → ℤ
turn low z = z
turn high z = neg_ℤ z

-- strictly beyond the edge
abbrev pub Out : Side → BBox → Pt → Type 0
Out s b p = pos 0 <ℤ turn s (edge s b -ℤ p.x)

-- p is half a unit at most, in x and in y, from a point of the segment from e to f
pub record Half (e f p : Pt) : Type 0 where
  pub k : ℤ
  pub d : ℤ
  pub share : Share k d
  pub in_x : Small d (d *ℤ (p.x -ℤ e.x) -ℤ k *ℤ (f.x -ℤ e.x))
  pub in_y : Small d (d *ℤ (p.y -ℤ e.y) -ℤ k *ℤ (f.y -ℤ e.y))

-- e is beyond the edge s of x, and at it the line from e to f is half a unit or more beyond the edge t of y
abbrev pub Blocked : Side → Side → BBox → Pt → Pt → Type 0
Blocked s t b e f = Steep (turn s (edge s b -ℤ e.x)) (turn t (edge t (swap_box b) -ℤ e.y)) (turn s (f.x -ℤ e.x)) (turn t (f.y -ℤ e.y))

pub data Fate (s : Side) (b : BBox) (e f : Pt) : Pt → Type 0 where
  clear : (Out s b e → ⊥) → Fate s b e f e
  moved : (p : Pt) → Out s b e → (Out s b f → ⊥) → OnEdge b p → Half f e p → Fate s b e f p
  stuck : Out s b e → (Meets b (join e f) → (t : Side) × Blocked s t b e f) → Fate s b e f e

-- ---- facts turned to a side
pub meet_x : (s : Side) (b : BBox) (e f : Pt) (g : Meets b (join e f)) → (g.d *ℤ turn s (edge s b -ℤ e.x)) ≤ℤ (g.k *ℤ turn s (f.x -ℤ e.x))
meet_x low b e f g =
    let ρ : List ℤ = b.x_min ∷ e.x ∷ f.x ∷ g.k ∷ g.d ∷ [] in
    ≤! ρ (search reads depth 30) (omega (arith, ≤: ρ g.left (search reads depth 30)))
meet_x high b e f g =
    let ρ : List ℤ = b.x_max ∷ e.x ∷ f.x ∷ g.k ∷ g.d ∷ [] in
    ≤! ρ (search reads depth 30) (omega (arith, ≤: ρ g.right (search reads depth 30)))

abbrev pub swap_meets : {b : BBox} {e f : Pt} → Meets b (join e f) → Meets (swap_box b) (join (swap e) (swap f))
swap_meets g = record { k = g.k; d = g.d; share = g.share; left = g.bottom; right = g.top; bottom = g.left; top = g.right }

across_at : (s : Side) (c e f m n : ℤ) → m *ℤ (c -ℤ e) ≡ n *ℤ (f -ℤ e) → m *ℤ turn s (c -ℤ e) ≡ n *ℤ turn s (f -ℤ e)
across_at low c e f m n h = h
across_at high c e f m n h =
    let ρ : List ℤ = c ∷ e ∷ f ∷ m ∷ n ∷ [] in
    ≡! ρ (search reads depth 30) (omega (arith, ≡: ρ h (search reads depth 30)))

not_level : (s : Side) (u v : ℤ) → u ≡ v → pos 0 <ℤ turn s (v -ℤ u) → ⊥
not_level low u v e h = omega (zarith, -parts v u)
not_level high u v e h = omega (zarith, -parts v u, neg_p (v -ℤ u), neg_n (v -ℤ u))

past : (s : Side) (c e f : ℤ) → turn s (c -ℤ e) ≤ℤ turn s (f -ℤ e) → pos 0 <ℤ turn s (c -ℤ f) → ⊥
past low c e f h k = let ρ : List ℤ = c ∷ e ∷ f ∷ [] in omega (arith, ≤: ρ h (search reads depth 30), <: ρ k (search reads depth 30))
past high c e f h k = let ρ : List ℤ = c ∷ e ∷ f ∷ [] in omega (arith, ≤: ρ h (search reads depth 30), <: ρ k (search reads depth 30))

at_low : {c lo : ℤ} {e f : Pt} {r : ℤ} (g : Nearest c e f r) → r <ℤ lo → (pos 2 *ℤ (g.n *ℤ (f.y -ℤ e.y))) ≤ℤ ((pos 2 *ℤ (lo -ℤ e.y) -ℤ pos 1) *ℤ g.m)
at_low {c} {lo} {e} {f} {r} g h =
    let ρ : List ℤ = lo ∷ e.y ∷ f.y ∷ r ∷ g.n ∷ g.m ∷ [] in
    ≤! ρ (search reads depth 30) (omega (arith, ≤: ρ g.below (search reads depth 30), ≤: ρ (prod (<-≤ g.share.some) (next h)) (search reads depth 30)))

at_high : {c hi : ℤ} {e f : Pt} {r : ℤ} (g : Nearest c e f r) → hi <ℤ r → (pos 2 *ℤ (g.n *ℤ neg_ℤ (f.y -ℤ e.y))) ≤ℤ ((pos 2 *ℤ neg_ℤ (hi -ℤ e.y) -ℤ pos 1) *ℤ g.m)
at_high {c} {hi} {e} {f} {r} g h =
    let ρ : List ℤ = hi ∷ e.y ∷ f.y ∷ r ∷ g.n ∷ g.m ∷ [] in
    ≤! ρ (search reads depth 30) (omega (arith, ≤: ρ g.above (search reads depth 30), ≤: ρ (prod (<-≤ g.share.some) (next h)) (search reads depth 30)))

-- ---- the end moved
half : {c : ℤ} {e f : Pt} {r : ℤ} → Nearest c e f r → Half e f (record { x = c; y = r })
half {c} {e} {f} {r} g =
    let ρ : List ℤ = c ∷ e.x ∷ f.x ∷ g.n ∷ g.m ∷ [] in
    let z = ≡: ρ g.across (search reads depth 30) in
    let l = <: ρ g.share.some (search reads depth 30) in
    record {
      k = g.n;
      d = g.m;
      share = g.share;
      in_x = record { above = ≤! ρ (search reads depth 30) (omega arith); below = ≤! ρ (search reads depth 30) (omega arith) };
      in_y = record { above = g.above; below = g.below };
    }

on_edge : (s : Side) (b : BBox) → Proper b → (r : ℤ) → b.y_min ≤ℤ r → r ≤ℤ b.y_max → OnEdge b (record { x = edge s b; y = r })
on_edge low b h r l u = record { inside = record { left = ≤ℤ_refl b.x_min; right = <-≤ h.wide; bottom = l; top = u }; edge = inl (inl refl) }
on_edge high b h r l u = record { inside = record { left = <-≤ h.wide; right = ≤ℤ_refl b.x_max; bottom = l; top = u }; edge = inl (inr refl) }

-- the crossing lies between the ends
not_past : (s : Side) (b : BBox) {e f : Pt} {r : ℤ} → Nearest (edge s b) e f r → Out s b e → Out s b f → ⊥
not_past s b {e} {f} g o =
    let q : (g.m *ℤ turn s (edge s b -ℤ e.x)) ≤ℤ (g.n *ℤ turn s (f.x -ℤ e.x)) = (let z = across_at s (edge s b) e.x f.x g.m g.n g.across in omega zarith) in
    past s (edge s b) e.x f.x (as_far _ _ g.share o q)

-- ---- the fate of an end that is out
module _ (b : BBox) (h : Proper b) (e f : Pt) where
  block : (s t : Side) {r : ℤ} (g : Nearest (edge s b) e f r) → Out s b e
      → (pos 2 *ℤ (g.n *ℤ turn t (f.y -ℤ e.y))) ≤ℤ ((pos 2 *ℤ turn t (edge t (swap_box b) -ℤ e.y) -ℤ pos 1) *ℤ g.m) → Meets b (join e f) → Blocked s t b e f
  block s t g o l m =
      steep _ _ _ _ g.share o (across_at s (edge s b) e.x f.x g.m g.n g.across) l m.share (meet_x s b e f m) (meet_x t (swap_box b) (swap e) (swap f) (swap_meets m))

  fate_out : (s : Side) {w : Crossing} → Out s b e → Verdict (edge s b) b.y_min b.y_max e f w → Fate s b e f (put e w)
  fate_out s o (level q) = stuck o (λ m. absurd (not_level s e.x f.x q (ahead _ _ m.share o (meet_x s b e f m))))
  fate_out low o (left u v) = absurd (omega (zarith, -parts b.x_min e.x))
  fate_out high o (left u v) = stuck o (λ m. absurd (both_above b.x_max e.x f.x m.share m.right u v))
  fate_out low o (right u v) = stuck o (λ m. absurd (both_below b.x_min e.x f.x m.share m.left u v))
  fate_out high o (right u v) = absurd (omega (zarith, -parts b.x_max e.x, neg_p (b.x_max -ℤ e.x), neg_n (b.x_max -ℤ e.x)))
  fate_out s o (under u v) = stuck o (λ m. absurd (both_below b.y_min e.y f.y m.share m.bottom u v))
  fate_out s o (over u v) = stuck o (λ m. absurd (both_above b.y_max e.y f.y m.share m.top u v))
  fate_out s o (lower r g l) = stuck o (λ m. (low, block s low g o (at_low g l) m))
  fate_out s o (upper r g l) = stuck o (λ m. (high, block s high g o (at_high g l) m))
  fate_out s o (good r g l u) = moved _ o (not_past s b g o) (on_edge s b h r l u) (half (back g))

  pub fate : (s : Side) → Fate s b e f (move s b e f)
  unfolding move
  fate low = by_lt (Fate low b e f) e.x b.x_min _ _ (λ l. fate_out low (diff< l) (verdict _ _ _ e f)) (λ l. clear (λ o. omega (zarith, -parts b.x_min e.x)))
  fate high = by_lt (Fate high b e f) b.x_max e.x _ _
      (λ l. fate_out high (omega (zarith, -parts b.x_max e.x, neg_p (b.x_max -ℤ e.x), neg_n (b.x_max -ℤ e.x))) (verdict _ _ _ e f))
      (λ l. clear (λ o. omega (zarith, -parts b.x_max e.x, neg_p (b.x_max -ℤ e.x), neg_n (b.x_max -ℤ e.x))))
