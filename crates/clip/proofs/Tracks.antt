-- Parts (b) and (c) of demand 3. `Cut` is what one cut does to both ends, at x and, with x and y exchanged, at y. `Track` is what the cuts have made of the segment so far: each end moves at most once,
-- since a moved end lies in the box and so is strictly beyond no edge. The first end to move comes to lie half a unit at most from the segment as given; the second half a unit at most from the segment
-- as it then is, which is less than one from the segment as given (`twice_near`).
use mathlib.Core.Path.{◌≡◌, refl}
use mathlib.Core.List.{List, [], ◌∷◌}
use mathlib.Core.Logic.{◌⊎◌, inl, inr, ⊎_elim}
use native.Mathlib.Omega.{arith}
use lib.IntN.{ℤ, pos, ◌-ℤ◌, ◌*ℤ◌}
use lib.Signed.{◌<ℤ◌}
use Rattle.whole.proofs.Parts.{zarith, -parts, neg_p, neg_n}
use Rattle.whole.proofs.Laws.{prod, <-≤, diff, *-pos, *-nonneg}
use Rattle.whole.proofs.Auto.{reads, ≤:, <:, ≤!, <! }
use Rattle.clip.specs.declared.Pt.{Pt}
use Rattle.clip.specs.declared.BBox.{BBox}
use Rattle.clip.specs.declared.Seg.{Seg}
use Rattle.clip.specs.Cutting.{swap}
use Rattle.clip.specs.Demand3.{Inside, OnEdge, Share, Near, LessThan, along}
use Rattle.clip.proofs.Ends.{Side, low, high, edge, join, swap_box}
use Rattle.clip.proofs.Slopes.{Small, Under, twice}
use Rattle.clip.proofs.Fates.{Out, Half, Fate, clear, moved, stuck}

pub data Cut (b : BBox) (p q : Pt) : Pt → Pt → Type 0 where
  neither : Cut b p q p q
  first : (r : Pt) → (Inside b p → ⊥) → OnEdge b r → Half q p r → Cut b p q r q
  second : (r : Pt) → (Inside b q → ⊥) → OnEdge b r → Half p q r → Cut b p q p r

pub not_in : (s : Side) {b : BBox} {p : Pt} → Out s b p → Inside b p → ⊥
not_in low {b} {p} o i = omega (zarith, -parts b.x_min p.x)
not_in high {b} {p} o i = omega (zarith, -parts b.x_max p.x, neg_p (b.x_max -ℤ p.x), neg_n (b.x_max -ℤ p.x))

pub cut_is : {s : Side} {b : BBox} {p q r t : Pt} → Fate s b p q r → Fate s b q p t → Cut b p q r t
cut_is (clear u) (clear v) = neither
cut_is (clear u) (stuck v w) = neither
cut_is {s} (clear u) (moved t o n e h) = second t (not_in s o) e h
cut_is (stuck u w) (clear v) = neither
cut_is (stuck u w) (stuck v x) = neither
cut_is {s} (stuck u w) (moved t o n e h) = second t (not_in s o) e h
cut_is {s} (moved r o n e h) (clear v) = first r (not_in s o) e h
cut_is {s} (moved r o n e h) (stuck v w) = absurd (n v)
cut_is {s} (moved r o n e h) (moved t v m f g) = absurd (n v)

-- ---- x and y change roles
pub swap_in : {b : BBox} {p : Pt} → Inside b p → Inside (swap_box b) (swap p)
swap_in i = record { left = i.bottom; right = i.top; bottom = i.left; top = i.right }

pub swap_edge : {b : BBox} {p : Pt} → OnEdge (swap_box b) p → OnEdge b (swap p)
swap_edge i = record { inside = swap_in i.inside; edge = ⊎_elim (λ l. inr l) (λ r. inl r) i.edge }

swap_half : {p q r : Pt} → Half (swap p) (swap q) r → Half p q (swap r)
swap_half h = record { k = h.k; d = h.d; share = h.share; in_x = h.in_y; in_y = h.in_x }

pub swap_cut : {b : BBox} {p q r t : Pt} → Cut (swap_box b) (swap p) (swap q) r t → Cut b p q (swap r) (swap t)
swap_cut neither = neither
swap_cut (first r o e h) = first (swap r) (λ i. o (swap_in i)) (swap_edge e) (swap_half h)
swap_cut (second r o e h) = second (swap r) (λ i. o (swap_in i)) (swap_edge e) (swap_half h)

-- ---- near
pub record One (e f p : Pt) : Type 0 where
  pub k : ℤ
  pub d : ℤ
  pub share : Share k d
  pub in_x : Under d (d *ℤ (p.x -ℤ e.x) -ℤ k *ℤ (f.x -ℤ e.x))
  pub in_y : Under d (d *ℤ (p.y -ℤ e.y) -ℤ k *ℤ (f.y -ℤ e.y))

back_share : {k d : ℤ} → Share k d → Share (d -ℤ k) d
back_share {k} {d} s = record { from = diff s.to; to = omega (zarith, s, -parts d k); some = s.some }

small_back : (k d p e f : ℤ) → Small d (d *ℤ (p -ℤ e) -ℤ k *ℤ (f -ℤ e)) → Small d (d *ℤ (p -ℤ f) -ℤ (d -ℤ k) *ℤ (e -ℤ f))
small_back k d p e f h =
    let ρ : List ℤ = k ∷ d ∷ p ∷ e ∷ f ∷ [] in
    record {
      above = ≤! ρ (search reads depth 30) (omega (arith, ≤: ρ h.above (search reads depth 30)));
      below = ≤! ρ (search reads depth 30) (omega (arith, ≤: ρ h.below (search reads depth 30)));
    }

under_back : (k d p e f : ℤ) → Under d (d *ℤ (p -ℤ e) -ℤ k *ℤ (f -ℤ e)) → Under d (d *ℤ (p -ℤ f) -ℤ (d -ℤ k) *ℤ (e -ℤ f))
under_back k d p e f h =
    let ρ : List ℤ = k ∷ d ∷ p ∷ e ∷ f ∷ [] in
    record {
      above = <! ρ (search reads depth 30) (omega (arith, <: ρ h.above (search reads depth 30)));
      below = <! ρ (search reads depth 30) (omega (arith, <: ρ h.below (search reads depth 30)));
    }

half_back : {e f p : Pt} → Half e f p → Half f e p
half_back {e} {f} {p} h = record {
  k = h.d -ℤ h.k;
  d = h.d;
  share = back_share h.share;
  in_x = small_back h.k h.d p.x e.x f.x h.in_x;
  in_y = small_back h.k h.d p.y e.y f.y h.in_y;
}

one_back : {e f p : Pt} → One e f p → One f e p
one_back {e} {f} {p} h = record {
  k = h.d -ℤ h.k;
  d = h.d;
  share = back_share h.share;
  in_x = under_back h.k h.d p.x e.x f.x h.in_x;
  in_y = under_back h.k h.d p.y e.y f.y h.in_y;
}

small_under : {d z : ℤ} → pos 0 <ℤ d → Small d z → Under d z
small_under {d} {z} h s =
    let ρ : List ℤ = d ∷ z ∷ [] in
    let l = <: ρ h (search reads depth 30) in
    record {
      above = <! ρ (search reads depth 30) (omega (arith, ≤: ρ s.above (search reads depth 30)));
      below = <! ρ (search reads depth 30) (omega (arith, ≤: ρ s.below (search reads depth 30)));
    }

one : {e f p : Pt} → Half e f p → One e f p
one h = record { k = h.k; d = h.d; share = h.share; in_x = small_under h.share.some h.in_x; in_y = small_under h.share.some h.in_y }

product : {k d n m : ℤ} → Share k d → Share n m → Share (n *ℤ k) (m *ℤ d)
product {k} {d} {n} {m} s t =
    let ρ : List ℤ = k ∷ d ∷ n ∷ m ∷ [] in
    record {
      from = *-nonneg t.from s.from;
      to = ≤! ρ (search reads depth 30) (omega (arith, ≤: ρ (prod s.from t.to) (search reads depth 30), ≤: ρ (prod (<-≤ t.some) s.to) (search reads depth 30)));
      some = *-pos t.some s.some;
    }

-- f was moved to g, and then e to r
twice_near : {e f g r : Pt} → Half e f g → Half e g r → One e f r
twice_near {e} {f} {g} {r} h j = record {
  k = j.k *ℤ h.k;
  d = j.d *ℤ h.d;
  share = product h.share j.share;
  in_x = twice e.x f.x g.x h.share j.share.some h.in_x j.k r.x j.share j.in_x;
  in_y = twice e.y f.y g.y h.share j.share.some h.in_y j.k r.y j.share j.in_y;
}

-- ---- what the cuts have made of the segment from p to q
pub data Track (b : BBox) (p q : Pt) : Pt → Pt → Type 0 where
  as_given : Track b p q p q
  left_end : (r : Pt) → OnEdge b r → Half q p r → Track b p q r q
  right_end : (r : Pt) → OnEdge b r → Half p q r → Track b p q p r
  both_ends : (r t : Pt) → OnEdge b r → OnEdge b t → One p q r → One p q t → Track b p q r t

pub track : {b : BBox} {p q r t u v : Pt} → Track b p q r t → Cut b r t u v → Track b p q u v
track as_given neither = as_given
track as_given (first r o e h) = left_end r e h
track as_given (second r o e h) = right_end r e h
track (left_end r e h) neither = left_end r e h
track (left_end r e h) (first u o f g) = absurd (o e.inside)
track (left_end r e h) (second u o f g) = both_ends r u e f (one_back (one h)) (one_back (twice_near h (half_back g)))
track (right_end r e h) neither = right_end r e h
track (right_end r e h) (first u o f g) = both_ends u r f e (twice_near h (half_back g)) (one h)
track (right_end r e h) (second u o f g) = absurd (o e.inside)
track (both_ends r t e f h g) neither = both_ends r t e f h g
track (both_ends r t e f h g) (first u o i j) = absurd (o e.inside)
track (both_ends r t e f h g) (second u o i j) = absurd (o f.inside)

-- ---- as demand 3 has it
less : (k d p e f : ℤ) → Under d (d *ℤ (p -ℤ e) -ℤ k *ℤ (f -ℤ e)) → LessThan d (d *ℤ p) (along d k e f)
less k d p e f h =
    let ρ : List ℤ = k ∷ d ∷ p ∷ e ∷ f ∷ [] in
    record {
      below = <! ρ (search reads depth 30) (omega (arith, <: ρ h.below (search reads depth 30)));
      above = <! ρ (search reads depth 30) (omega (arith, <: ρ h.above (search reads depth 30)));
    }

close : {p q r : Pt} → One p q r → Near (join p q) r
close {p} {q} {r} h = record {
  k = h.k;
  d = h.d;
  share = h.share;
  in_x = less h.k h.d r.x p.x q.x h.in_x;
  in_y = less h.k h.d r.y p.y q.y h.in_y;
}

-- an end is as given, or lies on the box's edge and less than one from the segment as given
abbrev pub Lies : BBox → Seg → Pt → Pt → Type 0
Lies b s given after = (after ≡ given) ⊎ (OnEdge b after × Near s after)

pub placed : {b : BBox} {p q r t : Pt} → Track b p q r t → Lies b (join p q) p r × Lies b (join p q) q t
placed as_given = (inl refl, inl refl)
placed (left_end r e h) = (inr (e, close (one_back (one h))), inl refl)
placed (right_end r e h) = (inl refl, inr (e, close (one h)))
placed (both_ends r t e f h g) = (inr (e, close h), inr (f, close g))
