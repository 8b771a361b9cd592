-- Document 01's reading of "a crossing replaces the end strictly outside that edge, if one is": the crossing is found once, p0 is asked before p1. It gives the same segment as the reading
-- by which each end asks for itself (proofs/Ends), since a segment with both ends strictly outside has no crossing, and the crossing of the reversed segment is the same.
use mathlib.Core.Path.{◌≡◌, refl, ◌∙◌, ap}
use mathlib.Core.Bool.{Bool, true, false, cond}
use native.Mathlib.Omega.{arith}
use Rattle.clip.specs.declared.Seg.{Seg}
use Rattle.clip.specs.declared.BBox.{BBox}
use Rattle.clip.specs.Cutting.{Crossing, Missing, At, cross_at_x, cross_at_y, swap, swapped, cuts, swap_seg}
use Rattle.clip.proofs.Segments.{replace_seg, seg_x_min, seg_x_max, seg_y_min, seg_y_max, seg_cuts, seg_cuts_lem}
use Rattle.clip.proofs.Ends.{Side, low, high, edge, beyond, put, move, join, ends_x, ends_y, ends, swap_box}
use Rattle.clip.proofs.Symmetry.{crossing_sym, none_beyond}

-- ---- one cut
one_end : (u v : Bool) (t : Seg) (w : Crossing) → (u ≡ true → v ≡ true → w ≡ Missing)
    → replace_seg u v t w ≡ join (cond u (put t.p0 w) t.p0) (cond v (put t.p1 w) t.p1)
one_end true true t Missing h = refl
one_end true true t (At p) h = absurd (let e = h refl refl in let z : ◌≡◌ {A = Prim.Native.Nat.ℕ} 0 1 = cc in omega arith)
one_end true false t Missing h = refl
one_end true false t (At p) h = refl
one_end false true t Missing h = refl
one_end false true t (At p) h = refl
one_end false false t Missing h = refl
one_end false false t (At p) h = refl

pub cut_x : (s : Side) (b : BBox) (t : Seg)
    → replace_seg (beyond s (edge s b) t.p0.x) (beyond s (edge s b) t.p1.x) t (cross_at_x t.p0 t.p1 (edge s b) b.y_min b.y_max) ≡ ends_x s b t
unfolding move
cut_x s b t =
    one_end _ _ t (cross_at_x t.p0 t.p1 (edge s b) b.y_min b.y_max) (none_beyond s (edge s b) t.p0 t.p1 b.y_min b.y_max) ∙
    ap (λ (w : Crossing). join (move s b t.p0 t.p1) (cond (beyond s (edge s b) t.p1.x) (put t.p1 w) t.p1)) (crossing_sym t.p0 t.p1 (edge s b) b.y_min b.y_max)

-- ---- at y
pub swap_replace : (u v : Bool) (t : Seg) (w : Crossing) → replace_seg u v t (swapped w) ≡ swap_seg (replace_seg u v (swap_seg t) w)
swap_replace u v t Missing = refl
swap_replace true v t (At p) = refl
swap_replace false true t (At p) = refl
swap_replace false false t (At p) = refl

pub cut_y : (s : Side) (b : BBox) (t : Seg)
    → replace_seg (beyond s (edge s (swap_box b)) t.p0.y) (beyond s (edge s (swap_box b)) t.p1.y) t (cross_at_y t.p0 t.p1 (edge s (swap_box b)) b.x_min b.x_max) ≡ ends_y s b t
cut_y s b t =
    let c = edge s (swap_box b) in
    swap_replace (beyond s c t.p0.y) (beyond s c t.p1.y) t (cross_at_x (swap t.p0) (swap t.p1) c b.x_min b.x_max) ∙ ap swap_seg (cut_x s (swap_box b) (swap_seg t))

module _ (b : BBox) (t : Seg) where
  pub at_x_min : seg_x_min b t ≡ ends_x low b t
  at_x_min = cut_x low b t

  pub at_x_max : seg_x_max b t ≡ ends_x high b t
  at_x_max = cut_x high b t

  pub at_y_min : seg_y_min b t ≡ ends_y low b t
  at_y_min = cut_y low b t

  pub at_y_max : seg_y_max b t ≡ ends_y high b t
  at_y_max = cut_y high b t

-- the four cuts in either reading
pub cuts_are_ends : (b : BBox) (t : Seg) → (cuts b t).seg ≡ ends b t
unfolding seg_cuts
cuts_are_ends b t =
    seg_cuts_lem b t ∙ ap (λ (s : Seg). seg_y_max b (seg_y_min b (seg_x_max b s))) (at_x_min b t) ∙ ap (λ (s : Seg). seg_y_max b (seg_y_min b s)) (at_x_max b (ends_x low b t)) ∙
    ap (seg_y_max b) (at_y_min b (ends_x high b (ends_x low b t))) ∙ at_y_max b (ends_y low b (ends_x high b (ends_x low b t)))
