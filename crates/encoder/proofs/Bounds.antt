-- The two returns of `add_boundary_points`: the ends of the clip, those that moved in the box; and none.
use mathlib.Core.Path.{◌≡◌, refl, sym, ◌∙◌, ap, subst}
use mathlib.Core.Bool.{Bool, true, false, cond, not, ◌&&◌, ◌||◌}
use mathlib.Core.List.{List, [], ◌∷◌, ◌++◌}
use Prim.Native.Nat.{ℕ}
use native.Mathlib.Omega.{arith}
use lib.Dec.{eqb}
use Rattle.clip.specs.declared.Pt.{Pt}
use Rattle.clip.specs.declared.Seg.{Seg}
use Rattle.clip.specs.declared.BBox.{BBox}
use Rattle.encoder.specs.declared.Edges.{Edges}
use Rattle.clip.specs.Domain.{is_coord, is_good}
use Rattle.clip.specs.Answer.{are_coords}
use Rattle.clip.specs.declared.ClippedSeg.{ClippedSeg}
use Rattle.clip.specs.Cutting.{given, clip}
use Rattle.encoder.specs.declared.boundary.Ends.{Ends}
use Rattle.encoder.specs.declared.draft.Draft.{Draft}
use Rattle.std.specs.Prelude.{Option, Some, None, is_some, unwrap_or}
use lib.ListN.{length}
use Rattle.promise.proofs.Joined.{both}
use Rattle.encoder.specs.Points.{in_limit, same_pt, clamped}
use Rattle.encoder.specs.Boundary.{moved, maybe, list_of, moved_by, ends_in, named_by, outside, Brought, BroughtBy}
use Rattle.encoder.specs.Answers.{none}
use Rattle.encoder.specs.Adding.{cut_from, boundary, edges_from, edges}
use Rattle.encoder.specs.Drafts.{state_in}
use Rattle.encoder.proofs.Boundaries.{moved_is, inside_same, stays}
use Rattle.encoder.proofs.Tests.{fixed0, fixed1}
use Rattle.clip.specs.declared.Edge.{Edge}
use Rattle.clip.specs.declared.Edge.TheVariants.{Stayed, XMin, XMax, YMin, YMax}
use Rattle.clip.specs.Numbers.{is_moved}

-- what the code's test tells: no points, a raw point, and an end outside
told : (k j u : Bool) → (not k && j && u) ≡ true → (k ≡ false) × ((j ≡ true) × (u ≡ true))
told false true true e = (refl, (refl, refl))
told true j u e = absurd (let z : ◌≡◌ {A = ℕ} 0 1 = cc in omega arith)
told false false u e = absurd (let z : ◌≡◌ {A = ℕ} 0 1 = cc in omega arith)
told false true false e = absurd (let z : ◌≡◌ {A = ℕ} 0 1 = cc in omega arith)

was_moved : (t : Bool) (c q : Pt) → maybe (not t) c ≡ Some q → (t ≡ false) × (c ≡ q)
was_moved false c q e = (refl, ap (λ (m : Option Pt). unwrap_or m c) e)
was_moved true c q e = absurd (let z : ◌≡◌ {A = ℕ} 0 1 = ap (λ (m : Option Pt). length (list_of m)) e in omega arith)

one_end : (raw end : Pt) → list_of (maybe (not (same_pt raw end)) end) ≡ moved raw end
one_end raw end = by (same_pt raw end)
  where
    by : (t : Bool) → list_of (maybe (not t) end) ≡ cond t [] (end ∷ [])
    by true = refl
    by false = refl

-- the clip of such a segment is not refused
pub cut_asked : (d : Draft) (p : Pt) → is_good d.bbox ≡ true → in_limit (state_in d).xy_end ≡ true → is_coord p ≡ true → (u : Bool) → (not (eqb d.kind 1) && d.joins && u) ≡ true →
    (is_good d.bbox ≡ true) × (are_coords (record { p0 = d.pen.raw; p1 = p }) ≡ true)
cut_asked d p g l c u h =
    let (k, (j, x)) = told (eqb d.kind 1) d.joins u h in
    let r : is_coord d.pen.raw ≡ true = subst (λ (b : Bool). in_limit (maybe b d.pen.raw) ≡ true) j l in
    (g, rw (r, c))

module _ (d : Draft) (p : Pt) (s : Seg) (i : s ≡ record { p0 = d.pen.raw; p1 = p }) where
  points_cut : is_good d.bbox ≡ true → (u : Bool) → (not (eqb d.kind 1) && d.joins && u) ≡ true → (e : Ends) → e ≡ moved_by d.pen.raw p (clip d.bbox s).seg → Brought d.bbox (boundary (state_in d) p) e
  unfolding boundary
  points_cut g u h e m =
      let (k, (j, x)) = told (eqb d.kind 1) d.joins u h in
      rw (m, i) (record {
        list = rw (k, j) (λ t. one_end d.pen.raw (clip d.bbox (record { p0 = d.pen.raw; p1 = p })).seg.p0 t ++ one_end p (clip d.bbox (record { p0 = d.pen.raw; p1 = p })).seg.p1 t);
        in0 = λ q f.
            let (n, z) = was_moved (same_pt d.pen.raw (clip d.bbox (record { p0 = d.pen.raw; p1 = p })).seg.p0) (clip d.bbox (record { p0 = d.pen.raw; p1 = p })).seg.p0 q f in
            subst (λ (r : Pt). clamped d.bbox r ≡ r) z (fixed0 d.bbox (record { p0 = d.pen.raw; p1 = p }) g n);
        in1 = λ q f.
            let (n, z) = was_moved (same_pt p (clip d.bbox (record { p0 = d.pen.raw; p1 = p })).seg.p1) (clip d.bbox (record { p0 = d.pen.raw; p1 = p })).seg.p1 q f in
            subst (λ (r : Pt). clamped d.bbox r ≡ r) z (fixed1 d.bbox (record { p0 = d.pen.raw; p1 = p }) g n);
      })

  pub brought_cut : is_good d.bbox ≡ true → (u : Bool) → (not (eqb d.kind 1) && d.joins && u) ≡ true → (c : ClippedSeg) → c ≡ clip d.bbox s → BroughtBy d.bbox (boundary (state_in d) p) (edges (state_in d) p) c
  unfolding edges
  brought_cut g u h c e =
      let (k, (j, x)) = told (eqb d.kind 1) d.joins u h in
      let m : ends_in (clip d.bbox s) ≡ moved_by d.pen.raw p (clip d.bbox s).seg = subst (λ (t : Seg). ends_in (clip d.bbox t) ≡ moved_by d.pen.raw p (clip d.bbox t).seg) (sym i) (moved_is d.bbox (record { p0 = d.pen.raw; p1 = p }) g) in
      record { points = points_cut g u h (ends_in c) (ap ends_in e ∙ m); names = rw (e, i, k, j) refl }

unmoved : (e : Edge) → is_moved e ≡ false → e ≡ Stayed
unmoved Stayed h = refl
unmoved XMin h = absurd (let z : ◌≡◌ {A = ℕ} 0 1 = cc in omega arith)
unmoved XMax h = absurd (let z : ◌≡◌ {A = ℕ} 0 1 = cc in omega arith)
unmoved YMin h = absurd (let z : ◌≡◌ {A = ℕ} 0 1 = cc in omega arith)
unmoved YMax h = absurd (let z : ◌≡◌ {A = ℕ} 0 1 = cc in omega arith)

stayed : (t : Bool) (c : Pt) → maybe t c ≡ None → t ≡ false
stayed false c e = refl
stayed true c e = absurd (let z : ◌≡◌ {A = ℕ} 1 0 = ap (λ (m : Option Pt). length (list_of m)) e in omega arith)

no_end : (end : Option Pt) (t : Bool) → is_some end ≡ not t → t ≡ true → end ≡ None
no_end None t e h = refl
no_end (Some q) t e h = absurd (let z : true ≡ false = e ∙ ap not h in let y : ◌≡◌ {A = ℕ} 0 1 = cc in omega arith)

-- what the code's two tests tell
pub none_moved : (e : Ends) (t u : Bool) → is_some e.end0 ≡ not t → is_some e.end1 ≡ not u → (t && u) ≡ true → (e.end0 ≡ None) × (e.end1 ≡ None)
none_moved e t u f g h = let (i, j) = both t u h in (no_end e.end0 t f i, no_end e.end1 u g j)

pub none_named : (c : ClippedSeg) (e : Ends) → e ≡ ends_in c → (e.end0 ≡ None) × (e.end1 ≡ None) → (n : Edges) → named_by c ≡ n → n ≡ none
none_named c e f h n g =
    let m0 = stayed (is_moved c.first) c.seg.p0 (sym (ap (λ (x : Ends). x.end0) f) ∙ h.0) in
    let m1 = stayed (is_moved c.second) c.seg.p1 (sym (ap (λ (x : Ends). x.end1) f) ∙ h.1) in
    sym g ∙ (λ i. record { first = unmoved c.first m0 i; second = unmoved c.second m1 i })

pub brought_ends : {b : BBox} {l : List Pt} {n : Edges} {c : ClippedSeg} → BroughtBy b l n c → (e : Ends) → e ≡ ends_in c → Brought b l e
brought_ends {b} {l} B e f = subst (Brought b l) (sym f) B.points

module _ (d : Draft) (p : Pt) where
  unnamed_by : (k j : Bool) → (not k && j && (outside d.bbox d.pen.raw || outside d.bbox p)) ≡ false → none ≡ cond k none (edges_from d.bbox (maybe j d.pen.raw) p)
  unnamed_by true j e = refl
  unnamed_by false false e = refl
  unnamed_by false true e =
      let s : Seg = record { p0 = d.pen.raw; p1 = p } in
      sym (ap named_by (inside_same s d.bbox (outside d.bbox s.p0) (outside d.bbox s.p1) refl refl (ap not e)))

  none_by : (k j : Bool) → (not k && j && (outside d.bbox d.pen.raw || outside d.bbox p)) ≡ false → [] ≡ cond k [] (cut_from d.bbox (maybe j d.pen.raw) p)
  none_by true j e = refl
  none_by false false e = refl
  none_by false true e =
      let s : Seg = record { p0 = d.pen.raw; p1 = p } in
      stays s (clip d.bbox s).seg (ap (λ (c : ClippedSeg). c.seg) (inside_same s d.bbox (outside d.bbox s.p0) (outside d.bbox s.p1) refl refl (ap not e)))

  pub brought_none : (t u : Bool) → t ≡ outside d.bbox d.pen.raw → u ≡ outside d.bbox p → (not (eqb d.kind 1) && d.joins && (t || u)) ≡ false →
      (c : ClippedSeg) → c ≡ given (record { p0 = p; p1 = p }) → BroughtBy d.bbox (boundary (state_in d) p) (edges (state_in d) p) c
  unfolding boundary edges
  brought_none t u e f h c g =
      let o = rw (e, f) at h in
      rw g (record {
        points = record {
          list = none_by (eqb d.kind 1) d.joins o;
          in0 = λ q z. absurd (let z : ◌≡◌ {A = ℕ} 0 1 = ap (λ (m : Option Pt). length (list_of m)) z in omega arith);
          in1 = λ q z. absurd (let z : ◌≡◌ {A = ℕ} 0 1 = ap (λ (m : Option Pt). length (list_of m)) z in omega arith);
        };
        names = unnamed_by (eqb d.kind 1) d.joins o;
      })
