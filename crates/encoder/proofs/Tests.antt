-- Laws of the tests: a point of the box, a point that is taken, a state that a stretch starts from.
use Rattle.std.specs.Prelude.{Option, Some, None}
use mathlib.Core.Path.{◌≡◌, refl, sym, subst}
use mathlib.Core.Bool.{Bool, true, false, cond, not, ◌&&◌, ◌||◌}
use Prim.Native.Nat.{ℕ, ◌+◌, ◌≤◌, ◌<◌}
use native.Mathlib.Omega.{arith}
use borrow.Author.Tests.{le-leb, lt-leb, leb-true, eqb-false, not-true, not-false}
use lib.Dec.{leb, eqb}
use lib.IntN.{ℤ}
use lib.Signed.{◌≤ℤ◌, lt_z}
use Rattle.whole.proofs.Equal.{eq_z_refl}
use Rattle.clip.specs.declared.Pt.{Pt}
use Rattle.clip.specs.declared.BBox.{BBox}
use Rattle.clip.specs.Domain.{is_coord, is_good}
use Rattle.clip.specs.Facts.{Coord}
use Rattle.clip.specs.declared.Seg.{Seg}
use Rattle.clip.specs.Cutting.{clip}
use Rattle.clip.specs.Answer.{are_coords}
use Rattle.clip.specs.Demand3.{Moved, Placed, Kept}
use Rattle.clip.specs.declared.Edge.{Edge}
use Rattle.clip.proofs.Demands.{demand_3}
use Rattle.whole.proofs.Cases.{by_lt}
use Rattle.clip.proofs.Callers.{coord_is, good_facts, good_proper}
use Rattle.whole.proofs.Parts.{zarith}
use mathlib.Core.Logic.{⊎_elim}
use Rattle.encoder.specs.declared.GeomEncoder.{GeomEncoder}
use Rattle.encoder.specs.Points.{clamp_to, clamped, same_pt, last_of, missing}
use Rattle.encoder.specs.Boundary.{outside}
use Rattle.promise.proofs.Joined.{both}
use Rattle.encoder.proofs.Coords.{clamped_coord}
use Rattle.encoder.proofs.Boundaries.{kept_in}
use Rattle.encoder.specs.Stretches.{is_start}
use Rattle.encoder.specs.Drafts.{draft_of}
use Rattle.encoder.specs.Pens.{pen_of, state_of}

-- ---- a point of the box
pub clamped_inside : (b : BBox) (p : Pt) → outside b p ≡ false → clamped b p ≡ p
clamped_inside b p e = let k = kept_in b p e in rw (k.left, k.right, k.down, k.up)

pub inside_coord : (b : BBox) (p : Pt) → is_good b ≡ true → outside b p ≡ false → is_coord p ≡ true
inside_coord b p g e = coord_is (subst Coord (clamped_inside b p e) (clamped_coord b p g))

pub made_coord : (b : BBox) (p q : Pt) → is_good b ≡ true → q ≡ clamped b p → Coord q
made_coord b p q g e = subst Coord (sym e) (clamped_coord b p g)

-- an end that the clip moved lies inside the box
clamp_in : (lo hi z : ℤ) → lo ≤ℤ z → z ≤ℤ hi → clamp_to lo hi z ≡ z
clamp_in lo hi z l h =
    by_lt (λ (v : ℤ). v ≡ z) z lo lo (cond (lt_z hi z) hi z) (λ k. absurd (omega (zarith, l, k)))
    (λ j. by_lt (λ (v : ℤ). v ≡ z) hi z hi z (λ k. absurd (omega (zarith, h, k))) (λ k. refl))

fixed : (b : BBox) (s : Seg) (p r : Pt) (n : Edge) → Placed b s p r n → same_pt p r ≡ false → clamped b r ≡ r
fixed b s p r n x e =
    ⊎_elim
    (λ (k : Kept p r n). absurd (let f : same_pt p r ≡ true = rw k.same (same_self p) in let z : ◌≡◌ {A = ℕ} 0 1 = cc in omega arith))
    (λ (m : Moved b s p r n). let i = m.edge.inside in rw (clamp_in b.x_min b.x_max r.x i.left i.right, clamp_in b.y_min b.y_max r.y i.bottom i.top))
    x
  where
    same_self : (q : Pt) → same_pt q q ≡ true
    same_self q = rw (eq_z_refl q.x, eq_z_refl q.y)

module _ (b : BBox) (s : Seg) (g : is_good b ≡ true) where
  pub fixed0 : same_pt s.p0 (clip b s).seg.p0 ≡ false → clamped b (clip b s).seg.p0 ≡ (clip b s).seg.p0
  fixed0 = fixed b s s.p0 (clip b s).seg.p0 _ (demand_3 b (good_proper (good_facts g)) s).placed0

  pub fixed1 : same_pt s.p1 (clip b s).seg.p1 ≡ false → clamped b (clip b s).seg.p1 ≡ (clip b s).seg.p1
  fixed1 = fixed b s s.p1 (clip b s).seg.p1 _ (demand_3 b (good_proper (good_facts g)) s).placed1

-- neither end of a segment is outside
pub neither : (t u : Bool) → (t || u) ≡ false → (t ≡ false) × (u ≡ false)
neither false false e = (refl, refl)
neither true u e = absurd (let z : ◌≡◌ {A = ℕ} 0 1 = cc in omega arith)
neither false true e = absurd (let z : ◌≡◌ {A = ℕ} 0 1 = cc in omega arith)

-- ---- a state to start from
pub record Start (s : GeomEncoder) : Type 0 where
  pub kind : s.kind ≡ 1 → ⊥
  pub two : 2 ≤ s.count
  pub end : not (missing s.xy_end) ≡ true
  pub at0 : not (missing s.pt0) ≡ true
  pub at1 : not (missing s.pt1) ≡ true

pub start_facts : (s : GeomEncoder) → is_start (draft_of s) ≡ true → Start s
start_facts s e =
    let k = not (eqb s.kind 1) in
    let c = leb 2 s.count in
    let (h, at1) = both (k && c && not (missing s.xy_end) && not (missing s.pt0)) (not (missing s.pt1)) e in
    let (i, at0) = both (k && c && not (missing s.xy_end)) (not (missing s.pt0)) h in
    let (j, end) = both (k && c) (not (missing s.xy_end)) i in
    let (f, g) = both k c j in
    record { kind = eqb-false s.kind 1 (not-true (eqb s.kind 1) f); two = leb-true 2 s.count g; end = end; at0 = at0; at1 = at1 }

-- its pen loses nothing
there : (m : Option Pt) → not (missing m) ≡ true → Some (last_of m) ≡ m
there None e = absurd (let z : ◌≡◌ {A = ℕ} 0 1 = cc in omega arith)
there (Some p) e = refl

pub pen_whole : (s : GeomEncoder) → is_start (draft_of s) ≡ true → state_of s (pen_of s) ≡ s
pen_whole s e = let S = start_facts s e in rw (there s.xy_end S.end, there s.pt0 S.at0, there s.pt1 S.at1)

-- the segment of two coordinates
pub is_seg : (q p : Pt) → is_coord q ≡ true → is_coord p ≡ true → are_coords (record { p0 = q; p1 = p }) ≡ true
is_seg q p f g = rw (f, g)
