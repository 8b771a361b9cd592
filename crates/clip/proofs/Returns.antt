-- What the functions return, one law for each way through them, over plain values: the facts that the code's tests and calls tell make the definition's answer.
use mathlib.Core.Path.{◌≡◌, refl, sym, ◌∙◌, ap}
use mathlib.Core.Bool.{Bool, true, false, not, ◌&&◌, ◌||◌}
use mathlib.Core.List.{[], ◌∷◌}
use mathlib.Core.Logic.{◌⊎◌, inl, inr, ⊎_elim}
use lib.IntN.{ℤ, neg_ℤ}
use lib.Signed.{◌≤ℤ◌, ◌<ℤ◌, lt_z, le_z}
use Rattle.whole.proofs.Laws.{<-≤, ≤_trans}
use mir.Syntax.{w32}
use mir.Val.{to_z, of_z}
use Rattle.whole.proofs.Machine.{lt_yes, le_yes, Back}
use borrow.Author.Tests.{not-true, not-false}
use Rattle.clip.specs.declared.Pt.{Pt}
use Rattle.clip.specs.declared.Seg.{Seg}
use Rattle.clip.specs.declared.BBox.{BBox}
use Rattle.clip.specs.declared.ClippedSeg.{ClippedSeg}
use Rattle.std.specs.Prelude.{Result, Ok, Err}
use Rattle.refusal.specs.declared.Refusal.{Refusal}
use Rattle.refusal.specs.declared.Refusal.TheVariants.{Box, Coord as CoordRefusal}
use Rattle.clip.specs.Domain.{limit, is_coord, is_good}
use Rattle.refusal.specs.Said.{accepted, refused}
use Rattle.clip.specs.Answer.{said_clipped, are_coords, clipped}
use Rattle.clip.specs.Numbers.{box_at, cornered}
use Rattle.clip.specs.Demand3.{Demand3}
use Rattle.clip.specs.Facts.{Coord, Good, beside, beside_x, beside_y}
use Rattle.clip.specs.Cutting.{least, most, given, overlap, clip}
use Rattle.clip.proofs.Overlaps.{Apart, left, right, under, over, cuts_apart, clip_cuts}
use Rattle.clip.proofs.Callers.{coord_facts, good_facts, good_is, good_proper, box_refused, coord_refused, not_refused, demand_clip}
use Rattle.clip.proofs.Tests.{most_lt, lt_least}
use Rattle.whole.proofs.Cases.{le_is, lt_is, le_not}
use Rattle.promise.proofs.Joined.{same, both, both_is}

-- ---- tests joined in another order, or with fewer of them
-- the lower edge lies below the upper one: where one is within one end of the limit, so is the other
module _ (l r b t : ℤ) where
  abbrev edges_test : Bool
  edges_test = lt_z l r && lt_z b t && le_z (neg_ℤ limit) l && le_z r limit && le_z (neg_ℤ limit) b && le_z t limit

  edges_facts : edges_test ≡ true → Good (box_at l r b t)
  edges_facts e =
      let k = both (lt_z l r && lt_z b t && le_z (neg_ℤ limit) l && le_z r limit && le_z (neg_ℤ limit) b) (le_z t limit) e in
      let j = both (lt_z l r && lt_z b t && le_z (neg_ℤ limit) l && le_z r limit) (le_z (neg_ℤ limit) b) k.0 in
      let i = both (lt_z l r && lt_z b t && le_z (neg_ℤ limit) l) (le_z r limit) j.0 in
      let h = both (lt_z l r && lt_z b t) (le_z (neg_ℤ limit) l) i.0 in
      let g = both (lt_z l r) (lt_z b t) h.0 in
      let lr : l <ℤ r = lt_yes g.0 in
      let bt : b <ℤ t = lt_yes g.1 in
      let ll : neg_ℤ limit ≤ℤ l = le_yes h.1 in
      let rr : r ≤ℤ limit = le_yes i.1 in
      let bb : neg_ℤ limit ≤ℤ b = le_yes j.1 in
      let tu : t ≤ℤ limit = le_yes k.1 in
      record {
        wide = lr;
        tall = bt;
        left = record { least = ll; most = ≤_trans (<-≤ lr) rr };
        right = record { least = ≤_trans ll (<-≤ lr); most = rr };
        bottom = record { least = bb; most = ≤_trans (<-≤ bt) tu };
        top = record { least = ≤_trans bb (<-≤ bt); most = tu };
      }

  pub edges_good : edges_test ≡ is_good (box_at l r b t)
  edges_good = same edges_test (is_good (box_at l r b t)) (λ e. good_is (edges_facts e)) (λ e. let g = good_facts e in
      both_is (both_is (both_is (both_is (both_is (lt_is g.wide) (lt_is g.tall)) (le_is g.left.least)) (le_is g.right.most)) (le_is g.bottom.least)) (le_is g.top.most))

-- ---- two numbers beside a range, as the machine reads them back
pub beside_read : {m n l h : ℤ} {r : Bool} → Back w32 m → Back w32 n → Back w32 l → Back w32 h
    → r ≡ beside (to_z w32 (of_z w32 m)) (to_z w32 (of_z w32 n)) (to_z w32 (of_z w32 l)) (to_z w32 (of_z w32 h)) → r ≡ beside m n l h
beside_read m n l h e = rw (m, n, l, h) at e

-- ---- a segment beside the box, and one with no end outside it
or_cases : (s t : Bool) → (s || t) ≡ true → (s ≡ true) ⊎ (t ≡ true)
or_cases true t e = inl refl
or_cases false t e = inr e

module _ (b : BBox) (s : Seg) (g : Good b) where
  stays : Apart b s.p0 s.p1 → given s ≡ clip b s
  stays k = sym (clip_cuts b (good_proper g) s ∙ cuts_apart b (good_proper g) s k)

  pub beside_x_lem : beside_x b s ≡ true → given s ≡ clip b s
  unfolding beside_x beside
  beside_x_lem t = ⊎_elim
      (λ h. let k = most_lt s.p0.x s.p1.x b.x_min (lt_yes h) in stays (left k.0 k.1))
      (λ h. let k = lt_least s.p0.x s.p1.x b.x_max (lt_yes h) in stays (right k.0 k.1))
      (or_cases (lt_z (most s.p0.x s.p1.x) b.x_min) (lt_z b.x_max (least s.p0.x s.p1.x)) t)

  pub beside_y_lem : beside_y b s ≡ true → given s ≡ clip b s
  unfolding beside_y beside
  beside_y_lem t = ⊎_elim
      (λ h. let k = most_lt s.p0.y s.p1.y b.y_min (lt_yes h) in stays (under k.0 k.1))
      (λ h. let k = lt_least s.p0.y s.p1.y b.y_max (lt_yes h) in stays (over k.0 k.1))
      (or_cases (lt_z (most s.p0.y s.p1.y) b.y_min) (lt_z b.y_max (least s.p0.y s.p1.y)) t)

  pub beside_either : (beside_x b s || beside_y b s) ≡ true → given s ≡ clip b s
  beside_either t = ⊎_elim beside_x_lem beside_y_lem (or_cases (beside_x b s) (beside_y b s) t)

-- ---- the rectangles overlap where the segment lies beside the box neither in x nor in y
besides : (m n l h : ℤ) → (le_z l (most m n) && le_z (least m n) h) ≡ not (beside m n l h)
unfolding beside
besides m n l h = (λ i. le_not l (most m n) i && le_not (least m n) h i) ∙ neither (lt_z (most m n) l) (lt_z h (least m n))
  where
    neither : (s t : Bool) → (not s && not t) ≡ not (s || t)
    neither true t = refl
    neither false t = refl

module _ (b : BBox) (s : Seg) where
  apart : overlap b s ≡ (not (beside_x b s) && not (beside_y b s))
  unfolding overlap beside_x beside_y
  apart = λ i. besides s.p0.x s.p1.x b.x_min b.x_max i && besides s.p0.y s.p1.y b.y_min b.y_max i

  pub overlap_beside : beside_x b s ≡ true → false ≡ overlap b s
  overlap_beside e = sym (rw e at apart)

  pub overlap_beyond : beside_x b s ≡ false → not (beside_y b s) ≡ overlap b s
  overlap_beyond e = sym (rw e at apart)

-- ---- a box by its corners
module _ (b : BBox) (l h : Pt) (el : l ≡ record { x = b.x_min; y = b.y_min }) (eh : h ≡ record { x = b.x_max; y = b.y_max }) where
  corners : cornered l h ≡ b
  corners = rw (el, eh) refl

  pub good_cornered : Good b → Good (cornered l h)
  good_cornered g = rw corners g

  pub clip_cornered : (s : Seg) (c : ClippedSeg) → c ≡ clip (cornered l h) s → c ≡ clip b s
  clip_cornered s c e = e ∙ ap (λ (z : BBox). clip z s) corners

-- ---- clip
module _ (s : Seg) (b : BBox) where
  -- what a call has to say of its answer: the promise's second clause follows from the first
  abbrev pub Owed : Result ClippedSeg Refusal → Type 0
  Owed r = (said_clipped r ≡ clipped s b) × ((c : ClippedSeg) → r ≡ Ok c → Demand3 b s c)

  owed : (r : Result ClippedSeg Refusal) → said_clipped r ≡ clipped s b → Owed r
  owed r e = (e, demand_clip s b r e)

  module _ (g : Bool) (eg : g ≡ is_good b) where
    no_box : not g ≡ true → clipped s b ≡ refused Box []
    no_box n = box_refused s b (sym eg ∙ not-true g n)

    pub bad_box : not g ≡ true → Owed (Err Box)
    bad_box n = owed (Err Box) (sym (no_box n))

    module _ (ng : not g ≡ false) where
      good_box : is_good b ≡ true
      good_box = sym eg ∙ not-false g ng

      pub good : Good b
      good = good_facts good_box

      module _ (t : Bool) (et : t ≡ are_coords s) where
        no_coord : not t ≡ true → clipped s b ≡ refused CoordRefusal []
        no_coord n = coord_refused s b good_box (sym et ∙ not-true t n)

        pub bad_coord : not t ≡ true → Owed (Err CoordRefusal)
        bad_coord n = owed (Err CoordRefusal) (sym (no_coord n))

        module _ (nt : not t ≡ false) where
          pub coords : Coord s.p0 × Coord s.p1
          coords = let k = both (is_coord s.p0) (is_coord s.p1) (sym et ∙ not-false t nt) in (coord_facts k.0, coord_facts k.1)

          taken : clipped s b ≡ accepted (clip b s ∷ [])
          taken = not_refused s b good_box (sym et ∙ not-false t nt)

          pub done : (c : ClippedSeg) → c ≡ clip b s → Owed (Ok c)
          done c e = owed (Ok c) (ap (λ (z : ClippedSeg). said_clipped (Ok z)) e ∙ sym taken)
