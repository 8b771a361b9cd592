-- What a caller of `clip` cites. All of it is about the definitions of specs/, so callers need no word of how a cut is made. With r the answer of a call:
--     coord_facts coord_is good_facts good_is       the tests of a point and of a box, as facts and back
--     box_refused coord_refused not_refused         what a call says, by its three cases
--     one_answer                                    what an answer says leaves one answer
--     answer_is never_refused                       a good box and ends within the limit: r is `Ok (clip b s)`, and no refusal
--     answered was_good were_coords demand_clip     where r is `Ok c`: c is the clip's, box and ends were good, and demand 3 holds of c
--     clip_coord0 clip_coord1 clip_within           the clipped segment's ends lie within the limit
--     clip_inside                                   a segment with no end outside an edge stays as it is
--     first_kept first_moved second_kept second_moved   an end is said to have stayed exactly where it is as given
--     kept_inside kept_apart                        what a call says of a segment with both ends in a good box, and of one without overlap
use mathlib.Core.Path.{◌≡◌, refl, sym, ◌∙◌, ap, subst}
use mathlib.Core.Bool.{Bool, true, false, cond, ◌&&◌}
use mathlib.Core.List.{List, [], ◌∷◌}
use mathlib.Core.Logic.{⊎_elim}
use native.Mathlib.Omega.{arith}
use Prim.Native.Nat.{ℕ}
use lib.IntN.{ℤ, neg_ℤ}
use lib.Signed.{◌≤ℤ◌, lt_z, le_z}
use Rattle.whole.proofs.Laws.{≤_trans}
use Rattle.whole.proofs.Machine.{lt_yes, le_yes}
use Rattle.refusal.specs.declared.Refusal.{Refusal}
use Rattle.refusal.specs.declared.Refusal.TheVariants.{Box, Coord as CoordRefusal}
use Rattle.refusal.specs.Said.{Said, accepted, refused}
use Rattle.refusal.proofs.Laws.{one_refusal, never_both}
use Rattle.clip.specs.declared.Pt.{Pt}
use Rattle.clip.specs.declared.Seg.{Seg}
use Rattle.clip.specs.declared.BBox.{BBox}
use Rattle.clip.specs.declared.ClippedSeg.{ClippedSeg}
use Rattle.clip.specs.declared.Edge.{Edge}
use Rattle.std.specs.Prelude.{Result, Ok, Err}
use Rattle.clip.specs.Domain.{limit, within, is_coord, is_good, is_inside}
use Rattle.clip.specs.Facts.{Within, Coord, Good}
use Rattle.clip.specs.Cutting.{Crossing, Missing, At, cross_at_x, cross_at_y, given, replace, cut_x_min, cut_x_max, cut_y_min, cut_y_max, cuts, overlap, clip}
use Rattle.clip.specs.Answer.{said_clipped, are_coords, clipped}
use Rattle.clip.specs.Demand3.{Demand3, Inside, Passed, Holds, Placed, Moved, Kept as StayedAt}
use Rattle.clip.specs.Numbers.{is_moved}
use Rattle.clip.specs.declared.Edge.TheVariants.{Stayed, XMin, XMax, YMin, YMax}
use Rattle.clip.proofs.Names.{not_both}
use Rattle.whole.proofs.Cases.{le_is, lt_is, lt_not}
use Rattle.promise.proofs.Joined.{both, both_is}
use Rattle.clip.proofs.Ends.{Proper}
use Rattle.clip.proofs.Demands.{demand_3}

-- ---- the tests as facts, and back
within_facts : {z : ℤ} → within z ≡ true → Within z
within_facts {z} e = let h = both (le_z (neg_ℤ limit) z) (le_z z limit) e in record { least = le_yes h.0; most = le_yes h.1 }

within_is : {z : ℤ} → Within z → within z ≡ true
within_is h = both_is (le_is h.least) (le_is h.most)

pub coord_facts : {p : Pt} → is_coord p ≡ true → Coord p
unfolding is_coord
coord_facts {p} e = let h = both (within p.x) (within p.y) e in record { at_x = within_facts h.0; at_y = within_facts h.1 }

pub coord_is : {p : Pt} → Coord p → is_coord p ≡ true
unfolding is_coord
coord_is h = both_is (within_is h.at_x) (within_is h.at_y)

pub good_facts : {b : BBox} → is_good b ≡ true → Good b
unfolding is_good
good_facts {b} e =
    let wide = lt_z b.x_min b.x_max in
    let tall = lt_z b.y_min b.y_max in
    let h = both (wide && tall && (within b.x_min && within b.x_max)) (within b.y_min && within b.y_max) e in
    let k = both (wide && tall) (within b.x_min && within b.x_max) h.0 in
    let o = both wide tall k.0 in
    let u = both (within b.x_min) (within b.x_max) k.1 in
    let v = both (within b.y_min) (within b.y_max) h.1 in
    record { wide = lt_yes o.0; tall = lt_yes o.1; left = within_facts u.0; right = within_facts u.1; bottom = within_facts v.0; top = within_facts v.1 }

pub good_is : {b : BBox} → Good b → is_good b ≡ true
unfolding is_good
good_is h = both_is (both_is (both_is (lt_is h.wide) (lt_is h.tall)) (both_is (within_is h.left) (within_is h.right))) (both_is (within_is h.bottom) (within_is h.top))

pub good_proper : {b : BBox} → Good b → Proper b
good_proper h = record { wide = h.wide; tall = h.tall }

-- ---- the answer by its cases
-- what an answer says leaves one answer
pub one_answer : (r r' : Result ClippedSeg Refusal) → said_clipped r ≡ said_clipped r' → r ≡ r'
one_answer (Ok c) (Ok d) e = let f : c ∷ [] ≡ d ∷ [] = ap (λ (s : Said (List ClippedSeg)). s.values) e in cc
one_answer (Ok c) (Err r) e = absurd (never_both r e)
one_answer (Err r) (Ok c) e = absurd (never_both r (sym e))
one_answer (Err r) (Err q) e = ap Err (one_refusal r q e)

module _ (s : Seg) (b : BBox) where
  pub box_refused : is_good b ≡ false → clipped s b ≡ refused Box []
  unfolding clipped
  box_refused g = rw g refl

  pub coord_refused : is_good b ≡ true → are_coords s ≡ false → clipped s b ≡ refused CoordRefusal []
  unfolding clipped
  coord_refused g e = rw (g, e) refl

  pub not_refused : is_good b ≡ true → are_coords s ≡ true → clipped s b ≡ accepted (clip b s ∷ [])
  unfolding clipped
  not_refused g e = rw (g, e) refl

  -- an answer that is no refusal is the clip's, of a good box and ends within the limit
  by_cases : (g t : Bool) (c : ClippedSeg) → accepted (c ∷ []) ≡ cond g (cond t (accepted (clip b s ∷ [])) (refused CoordRefusal [])) (refused Box []) → (g ≡ true) × ((t ≡ true) × (c ≡ clip b s))
  by_cases true true c e = let f : c ∷ [] ≡ clip b s ∷ [] = ap (λ (s : Said (List ClippedSeg)). s.values) e in (refl, (refl, cc))
  by_cases true false c e = absurd (never_both CoordRefusal e)
  by_cases false t c e = absurd (never_both Box e)

  module _ (r : Result ClippedSeg Refusal) (a : said_clipped r ≡ clipped s b) where
    pub answer_is : is_good b ≡ true → are_coords s ≡ true → r ≡ Ok (clip b s)
    answer_is g t = one_answer r (Ok (clip b s)) (a ∙ not_refused g t)

    pub never_refused : (e : Refusal) → r ≡ Err e → is_good b ≡ true → are_coords s ≡ true → ⊥
    never_refused e f g t = let k = answer_is g t in let z : ◌≡◌ {A = ℕ} 0 1 = cc in omega arith

    module _ (c : ClippedSeg) (d : r ≡ Ok c) where
      cases : (is_good b ≡ true) × ((are_coords s ≡ true) × (c ≡ clip b s))
      unfolding clipped
      cases = by_cases (is_good b) (are_coords s) c (sym (ap said_clipped d) ∙ a)

      pub was_good : is_good b ≡ true
      was_good = cases.0

      pub were_coords : are_coords s ≡ true
      were_coords = cases.1.0

      pub answered : c ≡ clip b s
      answered = cases.1.1

      pub demand_clip : Demand3 b s c
      demand_clip = subst (Demand3 b s) (sym answered) (demand_3 b (good_proper (good_facts was_good)) s)

-- ---- the clipped segment's ends lie within the limit
between : {l u z : ℤ} → Within l → Within u → l ≤ℤ z → z ≤ℤ u → Within z
between hl hu h k = record { least = ≤_trans hl.least h; most = ≤_trans k hu.most }

pub inside_coord : {b : BBox} {p : Pt} → Good b → Inside b p → Coord p
inside_coord g i = record { at_x = between g.left g.right i.left i.right; at_y = between g.bottom g.top i.bottom i.top }

placed_coord : {b : BBox} {s : Seg} {e : Edge} (p r : Pt) → Good b → Coord p → Placed b s p r e → Coord r
placed_coord {b} {s} {e} p r g h x = ⊎_elim (λ (k : StayedAt p r e). subst Coord (sym k.same) h) (λ (m : Moved b s p r e). inside_coord g m.edge.inside) x

module _ {b : BBox} (s : Seg) (g : Good b) where
  pub clip_coord0 : Coord s.p0 → Coord (clip b s).seg.p0
  clip_coord0 h = placed_coord s.p0 _ g h (demand_3 b (good_proper g) s).placed0

  pub clip_coord1 : Coord s.p1 → Coord (clip b s).seg.p1
  clip_coord1 h = placed_coord s.p1 _ g h (demand_3 b (good_proper g) s).placed1

pub clip_within : (b : BBox) (s : Seg) → is_good b ≡ true → are_coords s ≡ true → are_coords (clip b s).seg ≡ true
clip_within b s g e =
    let k = both (is_coord s.p0) (is_coord s.p1) e in
    both_is (coord_is (clip_coord0 s (good_facts g) (coord_facts k.0))) (coord_is (clip_coord1 s (good_facts g) (coord_facts k.1)))

-- ---- a segment with no end strictly outside an edge stays as it is
pub record Kept (b : BBox) (p : Pt) : Type 0 where
  pub left : lt_z p.x b.x_min ≡ false
  pub right : lt_z b.x_max p.x ≡ false
  pub down : lt_z p.y b.y_min ≡ false
  pub up : lt_z b.y_max p.y ≡ false

uncut : (n : Edge) (c : ClippedSeg) (u v : Bool) (w : Crossing) → u ≡ false → v ≡ false → replace n u v c w ≡ c
uncut n c u v Missing e f = refl
uncut n c u v (At p) e f = rw (e, f)

either : (t : Bool) (s : ClippedSeg) → cond t s s ≡ s
either true s = refl
either false s = refl

module _ (b : BBox) (s : Seg) (h : Kept b s.p0) (k : Kept b s.p1) where
  cuts_inside : cuts b s ≡ given s
  unfolding cuts
  cuts_inside =
      let c = given s in
      let e1 : cut_x_min b c ≡ c = uncut _ c _ _ (cross_at_x s.p0 s.p1 b.x_min b.y_min b.y_max) h.left k.left in
      let e2 : cut_x_max b c ≡ c = uncut _ c _ _ (cross_at_x s.p0 s.p1 b.x_max b.y_min b.y_max) h.right k.right in
      let e3 : cut_y_min b c ≡ c = uncut _ c _ _ (cross_at_y s.p0 s.p1 b.y_min b.x_min b.x_max) h.down k.down in
      let e4 : cut_y_max b c ≡ c = uncut _ c _ _ (cross_at_y s.p0 s.p1 b.y_max b.x_min b.x_max) h.up k.up in
      ap (λ (t : ClippedSeg). cut_y_max b (cut_y_min b (cut_x_max b t))) e1 ∙ ap (λ (t : ClippedSeg). cut_y_max b (cut_y_min b t)) e2 ∙ ap (cut_y_max b) e3 ∙ e4

  pub clip_inside : clip b s ≡ given s
  unfolding clip
  clip_inside = rw cuts_inside (either (overlap b s) (given s))

-- ---- an end is said to have stayed exactly where it is as given
placed_kept : {b : BBox} {s : Seg} {e : Edge} (p r : Pt) → Placed b s p r e → is_moved e ≡ false → r ≡ p
placed_kept {b} {s} {e} p r x f = ⊎_elim (λ (k : StayedAt p r e). k.same) (λ (m : Moved b s p r e). absurd (named e m.passed f)) x
  where
    named : (n : Edge) → Passed n b p → is_moved n ≡ false → ⊥
    named Stayed o g = o
    named XMin o g = let z : ◌≡◌ {A = ℕ} 0 1 = cc in omega arith
    named XMax o g = let z : ◌≡◌ {A = ℕ} 0 1 = cc in omega arith
    named YMin o g = let z : ◌≡◌ {A = ℕ} 0 1 = cc in omega arith
    named YMax o g = let z : ◌≡◌ {A = ℕ} 0 1 = cc in omega arith

placed_moved : {b : BBox} {s : Seg} {e : Edge} (p r : Pt) → Placed b s p r e → is_moved e ≡ true → r ≡ p → ⊥
placed_moved {b} {s} {e} p r x f g = ⊎_elim
    (λ (k : StayedAt p r e). let h = sym (ap is_moved k.stayed) ∙ f in let z : ◌≡◌ {A = ℕ} 0 1 = cc in omega arith)
    (λ (m : Moved b s p r e). not_both e b p m.passed (subst (Holds e b) g m.holds))
    x

module _ (b : BBox) (s : Seg) (g : is_good b ≡ true) where
  demanded : Demand3 b s (clip b s)
  demanded = demand_3 b (good_proper (good_facts g)) s

  pub first_kept : is_moved (clip b s).first ≡ false → (clip b s).seg.p0 ≡ s.p0
  first_kept = placed_kept s.p0 _ demanded.placed0

  pub first_moved : is_moved (clip b s).first ≡ true → (clip b s).seg.p0 ≡ s.p0 → ⊥
  first_moved = placed_moved s.p0 _ demanded.placed0

  pub second_kept : is_moved (clip b s).second ≡ false → (clip b s).seg.p1 ≡ s.p1
  second_kept = placed_kept s.p1 _ demanded.placed1

  pub second_moved : is_moved (clip b s).second ≡ true → (clip b s).seg.p1 ≡ s.p1 → ⊥
  second_moved = placed_moved s.p1 _ demanded.placed1

-- ---- both ends in a good box: the call accepts the segment as given
inside_facts : (b : BBox) (p : Pt) → is_inside b p ≡ true → Inside b p
unfolding is_inside
inside_facts b p e =
    let k = both (le_z b.x_min p.x && le_z p.x b.x_max) (le_z b.y_min p.y && le_z p.y b.y_max) e in
    let h = both (le_z b.x_min p.x) (le_z p.x b.x_max) k.0 in
    let v = both (le_z b.y_min p.y) (le_z p.y b.y_max) k.1 in
    record { left = le_yes h.0; right = le_yes h.1; bottom = le_yes v.0; top = le_yes v.1 }

kept : {b : BBox} {p : Pt} → Inside b p → Kept b p
kept i = record { left = lt_not i.left; right = lt_not i.right; down = lt_not i.bottom; up = lt_not i.top }

pub kept_inside : (s : Seg) (b : BBox) → is_good b ≡ true → is_inside b s.p0 ≡ true → is_inside b s.p1 ≡ true → clipped s b ≡ accepted (given s ∷ [])
kept_inside s b g e f =
    let i = inside_facts b s.p0 e in
    let j = inside_facts b s.p1 f in
    let c = both_is (coord_is (inside_coord (good_facts g) i)) (coord_is (inside_coord (good_facts g) j)) in
    not_refused s b g c ∙ ap (λ (t : ClippedSeg). accepted (t ∷ [])) (clip_inside b s (kept i) (kept j))

-- ---- no overlap: the call accepts the segment as given
pub kept_apart : (s : Seg) (b : BBox) → is_good b ≡ true → are_coords s ≡ true → overlap b s ≡ false → clipped s b ≡ accepted (given s ∷ [])
unfolding clip
kept_apart s b g c o = not_refused s b g c ∙ ap (λ (t : Bool). accepted (cond t (cuts b s) (given s) ∷ [])) o
