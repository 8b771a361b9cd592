-- Part (a) of demand 3: where the segment has a point in the box, no end stays outside. A cut keeps that point, or moves an end into the box, which then is one (`still_meets`). An end that is stuck at an edge
-- of x is held there (`State`), and cannot be stuck at an edge of y later, be its other end as it was or moved into the box meanwhile (`clash`).
use mathlib.Core.Path.{◌≡◌, refl, subst}
use mathlib.Core.List.{List, [], ◌∷◌}
use mathlib.Core.Logic.{⊎_elim}
use native.Mathlib.Omega.{arith}
use lib.IntN.{ℤ, pos, ◌-ℤ◌, ◌*ℤ◌}
use lib.Signed.{◌≤ℤ◌, ◌<ℤ◌}
use Rattle.whole.proofs.Parts.{zarith, -parts, neg_p, neg_n}
use Rattle.whole.proofs.Laws.{≤-or-<}
use Rattle.whole.proofs.Auto.{reads, ≤:, ≤! }
use Rattle.clip.specs.declared.Pt.{Pt}
use Rattle.clip.specs.declared.BBox.{BBox}
use Rattle.clip.specs.Cutting.{swap}
use Rattle.clip.specs.Demand3.{Inside, Share, Meets}
use Rattle.clip.proofs.Ends.{Side, low, high, edge, join, swap_box, Proper}
use Rattle.clip.proofs.Slopes.{Small, not_both, not_moved}
use Rattle.clip.proofs.Fates.{turn, Out, Half, Blocked, Fate, clear, moved, stuck, swap_meets}
use Rattle.clip.proofs.Tracks.{Cut, neither, first, second, not_in, swap_in}

-- ---- a point in the box is not lost
one_way : Share (pos 0) (pos 1)
one_way = record { from = lib.Signed.le_z_yes tt; to = lib.Signed.le_z_yes tt; some = lib.Signed.lt_z_yes tt }

whole_way : Share (pos 1) (pos 1)
whole_way = record { from = lib.Signed.le_z_yes tt; to = lib.Signed.le_z_yes tt; some = lib.Signed.lt_z_yes tt }

at_first : {b : BBox} {p q : Pt} → Inside b p → Meets b (join p q)
at_first {b} {p} {q} i =
    let ρ : List ℤ = b.x_min ∷ b.x_max ∷ b.y_min ∷ b.y_max ∷ p.x ∷ p.y ∷ q.x ∷ q.y ∷ [] in
    record {
      k = pos 0;
      d = pos 1;
      share = one_way;
      left = ≤! ρ (search reads depth 30) (omega (arith, ≤: ρ i.left (search reads depth 30)));
      right = ≤! ρ (search reads depth 30) (omega (arith, ≤: ρ i.right (search reads depth 30)));
      bottom = ≤! ρ (search reads depth 30) (omega (arith, ≤: ρ i.bottom (search reads depth 30)));
      top = ≤! ρ (search reads depth 30) (omega (arith, ≤: ρ i.top (search reads depth 30)));
    }

at_second : {b : BBox} {p q : Pt} → Inside b q → Meets b (join p q)
at_second {b} {p} {q} i =
    let ρ : List ℤ = b.x_min ∷ b.x_max ∷ b.y_min ∷ b.y_max ∷ p.x ∷ p.y ∷ q.x ∷ q.y ∷ [] in
    record {
      k = pos 1;
      d = pos 1;
      share = whole_way;
      left = ≤! ρ (search reads depth 30) (omega (arith, ≤: ρ i.left (search reads depth 30)));
      right = ≤! ρ (search reads depth 30) (omega (arith, ≤: ρ i.right (search reads depth 30)));
      bottom = ≤! ρ (search reads depth 30) (omega (arith, ≤: ρ i.bottom (search reads depth 30)));
      top = ≤! ρ (search reads depth 30) (omega (arith, ≤: ρ i.top (search reads depth 30)));
    }

pub still_meets : {b : BBox} {p q r t : Pt} → Meets b (join p q) → Cut b p q r t → Meets b (join r t)
still_meets m neither = m
still_meets m (first r o e h) = at_first e.inside
still_meets m (second r o e h) = at_second e.inside

-- ---- the other end since: as it was, or moved into the box
pub data Stood (b : BBox) (e f : Pt) : Pt → Type 0 where
  still : Stood b e f f
  went : (g : Pt) → Inside b g → Half e f g → Stood b e f g

stood : {b : BBox} {e f g r h : Pt} → r ≡ e → Stood b e f g → Cut b e g r h → Stood b e f h
stood q still neither = still
stood {b} q still (first r o e h) = absurd (o (subst (Inside b) q e.inside))
stood q still (second r o e h) = went r e.inside h
stood q (went g i h) neither = went g i h
stood {b} q (went g i h) (first r o e j) = absurd (o (subst (Inside b) q e.inside))
stood q (went g i h) (second r o e j) = absurd (o i)

-- ---- what is known of the end p of a segment from p to q after the cut at the edge s of x
pub data State (s : Side) (b : BBox) (p q : Pt) : Type 0 where
  inside : Inside b p → State s b p q
  free : (Out s b p → ⊥) → State s b p q
  held : (t : Side) (f : Pt) → Blocked s t b p f → Stood b p f q → State s b p q

pub begin : {s : Side} {b : BBox} {p q r t : Pt} → Meets b (join p q) → Fate s b p q r → Cut b p q r t → State s b r t
begin m (clear o) c = free o
begin m (moved r o n e h) c = inside e.inside
begin {q = q} m (stuck o w) c = let z = w m in held z.0 q z.1 (stood refl still c)

pub carry : {s : Side} {b : BBox} {p q r t : Pt} → State s b p q → Cut b p q r t → State s b r t
carry x neither = x
carry x (first r o e h) = inside e.inside
carry (inside i) (second r o e h) = inside i
carry (free n) (second r o e h) = free n
carry (held t f k still) (second r o e h) = held t f k (went r e.inside h)
carry (held t f k (went g i j)) (second r o e h) = absurd (o i)

-- ---- both edges cannot fail
small_turn : (s : Side) (k d p e f : ℤ) → Small d (d *ℤ (p -ℤ e) -ℤ k *ℤ (f -ℤ e)) → Small d (d *ℤ turn s (p -ℤ e) -ℤ k *ℤ turn s (f -ℤ e))
small_turn low k d p e f h = h
small_turn high k d p e f h =
    let ρ : List ℤ = k ∷ d ∷ p ∷ e ∷ f ∷ [] in
    record {
      above = ≤! ρ (search reads depth 30) (omega (arith, ≤: ρ h.below (search reads depth 30)));
      below = ≤! ρ (search reads depth 30) (omega (arith, ≤: ρ h.above (search reads depth 30)));
    }

reach : (s : Side) (b : BBox) (e g : Pt) → Inside b g → turn s (edge s b -ℤ e.x) ≤ℤ turn s (g.x -ℤ e.x)
reach low b e g i = let ρ : List ℤ = b.x_min ∷ e.x ∷ g.x ∷ [] in ≤! ρ (search reads depth 30) (omega (arith, ≤: ρ i.left (search reads depth 30)))
reach high b e g i = let ρ : List ℤ = b.x_max ∷ e.x ∷ g.x ∷ [] in ≤! ρ (search reads depth 30) (omega (arith, ≤: ρ i.right (search reads depth 30)))

clash : (s t : Side) {b : BBox} {p f g : Pt} → Blocked s t b p f → Blocked t s (swap_box b) (swap p) (swap g) → Stood b p f g → ⊥
clash s t x y still = not_both x y
clash s t {b} {p} {f} x y (went g i h) =
    not_moved h.share x y (reach s b p g i) (reach t (swap_box b) (swap p) (swap g) (swap_in i))
    (small_turn s h.k h.d g.x p.x f.x h.in_x) (small_turn t h.k h.d g.y p.y f.y h.in_y)

one_side : (s t : Side) (b : BBox) (p : Pt) → b.x_min <ℤ b.x_max → Out s b p → Out t b p → (P : Side → Type 0) → P s → P t
one_side low low b p h x y P z = z
one_side low high b p h x y P z = absurd (omega (zarith, -parts b.x_min p.x, -parts b.x_max p.x, neg_p (b.x_max -ℤ p.x), neg_n (b.x_max -ℤ p.x)))
one_side high low b p h x y P z = absurd (omega (zarith, -parts b.x_min p.x, -parts b.x_max p.x, neg_p (b.x_max -ℤ p.x), neg_n (b.x_max -ℤ p.x)))
one_side high high b p h x y P z = z

-- with both states known, no cut at y is stuck
never_stuck : (t s : Side) {b : BBox} {p q : Pt} → Proper b → State s b p q → Blocked t s (swap_box b) (swap p) (swap q) → ⊥
never_stuck t s {b} {p} {q} h (inside i) y = not_in s y.also i
never_stuck t s {b} {p} {q} h (free n) y = n y.also
never_stuck t s {b} {p} {q} h (held u f x w) y = clash s t (one_side u t (swap_box b) (swap p) h.tall x.also y.out (λ z. Blocked s z b p f) x) y w

-- what is known of the end p after the cut at the edge t of y
pub data Free (t : Side) (b : BBox) (p : Pt) : Type 0 where
  in_box : Inside b p → Free t b p
  short_of : (Out t (swap_box b) (swap p) → ⊥) → Free t b p

pub at_y : (t : Side) {b : BBox} {p q r : Pt} → Proper b → Meets b (join p q) → ((s : Side) → State s b p q) → Fate t (swap_box b) (swap p) (swap q) r → Free t b (swap r)
at_y t h m x (clear n) = short_of n
at_y t h m x (moved r o n e g) = in_box (swap_in e.inside)
at_y t h m x (stuck o w) = let z = w (swap_meets m) in absurd (never_stuck t z.0 h (x z.0) z.1)

pub keep : {t : Side} {b : BBox} {p q r u : Pt} → Free t b p → Cut b p q r u → Free t b r
keep x neither = x
keep x (first r o e h) = in_box e.inside
keep x (second r o e h) = x

at_least : (b : BBox) (p : Pt) → (Out low b p → ⊥) → b.x_min ≤ℤ p.x
at_least b p h = ⊎_elim (λ g. g) (λ (g : p.x <ℤ b.x_min). absurd (h (omega (zarith, -parts b.x_min p.x)))) (≤-or-< b.x_min p.x)

at_most : (b : BBox) (p : Pt) → (Out high b p → ⊥) → p.x ≤ℤ b.x_max
at_most b p h = ⊎_elim (λ g. g) (λ (g : b.x_max <ℤ p.x). absurd (h (omega (zarith, -parts b.x_max p.x, neg_p (b.x_max -ℤ p.x), neg_n (b.x_max -ℤ p.x))))) (≤-or-< p.x b.x_max)

held_in : (t : Side) {b : BBox} {p : Pt} → Out t (swap_box b) (swap p) → Free low b p → Free high b p → Inside b p
held_in low o (in_box i) v = i
held_in low o (short_of n) v = absurd (n o)
held_in high o u (in_box i) = i
held_in high o u (short_of n) = absurd (n o)

pub finish : {b : BBox} {p q : Pt} → State low b p q → State high b p q → Free low b p → Free high b p → Inside b p
finish (inside i) y u v = i
finish (held t f z w) y u v = held_in t z.also u v
finish (free n) (inside i) u v = i
finish (free n) (held t f z w) u v = held_in t z.also u v
finish (free n) (free m) (in_box i) v = i
finish (free n) (free m) (short_of k) (in_box i) = i
finish {b} {p} (free n) (free m) (short_of k) (short_of l) = record {
  left = at_least b p n;
  right = at_most b p m;
  bottom = at_least (swap_box b) (swap p) k;
  top = at_most (swap_box b) (swap p) l;
}
