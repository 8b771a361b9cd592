-- A segment given from its other end (specs/Laws): the crossing is the same, each cut makes the same of the turned segment, and the clip of the reversed segment is the turned clip: `clip_reversed`.
-- Nothing here asks how a crossing is rounded, nor where box and segment stand.
use mathlib.Core.Path.{◌≡◌, refl, ◌∙◌, ap}
use mathlib.Core.Bool.{Bool, true, false, cond, ◌&&◌}
use native.Mathlib.Omega.{arith}
use lib.IntN.{ℤ}
use lib.Signed.{◌≤ℤ◌, ◌<ℤ◌, lt_z, le_z}
use Rattle.whole.proofs.Parts.{zarith}
use Rattle.whole.proofs.Machine.{lt_yes, le_yes}
use Rattle.whole.proofs.Cases.{by_le}
use Rattle.promise.proofs.Joined.{all_four}
use Rattle.clip.specs.declared.Pt.{Pt}
use Rattle.clip.specs.declared.Seg.{Seg}
use Rattle.clip.specs.declared.BBox.{BBox}
use Rattle.clip.specs.declared.Edge.{Edge}
use Rattle.clip.specs.declared.Edge.TheVariants.{XMin, XMax, YMin, YMax}
use Rattle.clip.specs.declared.ClippedSeg.{ClippedSeg}
use Rattle.clip.specs.Cutting.{Crossing, Missing, At, least, most, height, in_range, cross_in_order, cross_at_x, cross_at_y, swap, swapped, given, replace, cut_x_min, cut_x_max, cut_y_min, cut_y_max, cuts, overlap, clip}
use Rattle.clip.specs.Laws.{reversed, turned}
use Rattle.clip.proofs.Ends.{Side, low, high, beyond}

-- ---- the crossing
either : {A : Type 0} (s t : Bool) (x y z : A) → (s ≡ true → t ≡ true → ⊥) → cond s x (cond t y z) ≡ cond t y (cond s x z)
either true true x y z h = absurd (h refl refl)
either true false x y z h = refl
either false true x y z h = refl
either false false x y z h = refl

not_each : (a b : ℤ) → a <ℤ b → b <ℤ a → ⊥
not_each a b h k = omega zarith

pub crossing_sym : (p q : Pt) (x a b : ℤ) → cross_at_x p q x a b ≡ cross_at_x q p x a b
unfolding cross_at_x
crossing_sym p q x a b =
    either (lt_z p.x q.x) (lt_z q.x p.x) (cross_in_order p q x a b) (cross_in_order q p x a b) Missing (λ u v. not_each p.x q.x (lt_yes u) (lt_yes v))

-- a line that both ends are beyond has none
gone : (s t r : Bool) (w : Crossing) → (s ≡ true → t ≡ true → ⊥) → cond (s && t && r) w Missing ≡ Missing
gone true true r w h = absurd (h refl refl)
gone true false r w h = refl
gone false t r w h = refl

in_neither : (s t : Bool) {v w : Crossing} → v ≡ Missing → w ≡ Missing → cond s v (cond t w Missing) ≡ Missing
in_neither true t e f = e
in_neither false true e f = f
in_neither false false e f = refl

not_between : (s : Side) (c m n : ℤ) → beyond s c m ≡ true → beyond s c n ≡ true → le_z m c ≡ true → le_z c n ≡ true → ⊥
not_between low c m n i j e f = let h : n <ℤ c = lt_yes j in let k : c ≤ℤ n = le_yes f in omega zarith
not_between high c m n i j e f = let h : c <ℤ m = lt_yes i in let k : m ≤ℤ c = le_yes e in omega zarith

pub none_beyond : (s : Side) (c : ℤ) (p q : Pt) (a b : ℤ) → beyond s c p.x ≡ true → beyond s c q.x ≡ true → cross_at_x p q c a b ≡ Missing
unfolding cross_at_x
none_beyond s c p q a b i j =
    in_neither (lt_z p.x q.x) (lt_z q.x p.x) (gone _ _ _ (in_range c a b (height p.x p.y q.x q.y c)) (not_between s c p.x q.x i j)) (
    gone _ _ _ (in_range c a b (height q.x q.y p.x p.y c)) (not_between s c q.x p.x j i))

-- ---- a cut: where both ends are beyond there is no crossing, so that it does not matter which end is asked first
turned_replace : (e : Edge) (u v : Bool) (c : ClippedSeg) (w : Crossing) → (u ≡ true → v ≡ true → w ≡ Missing) → replace e v u (turned c) w ≡ turned (replace e u v c w)
turned_replace e u v c Missing h = refl
turned_replace e true true c (At p) h = absurd (let f = h refl refl in let z : ◌≡◌ {A = Prim.Native.Nat.ℕ} 0 1 = cc in omega arith)
turned_replace e true false c (At p) h = refl
turned_replace e false true c (At p) h = refl
turned_replace e false false c (At p) h = refl

module _ (s : Side) (e : Edge) (c a b : ℤ) (d : ClippedSeg) where
  abbrev p : Pt
  p = d.seg.p0

  abbrev q : Pt
  q = d.seg.p1

  turned_x : replace e (beyond s c q.x) (beyond s c p.x) (turned d) (cross_at_x q p c a b) ≡ turned (replace e (beyond s c p.x) (beyond s c q.x) d (cross_at_x p q c a b))
  turned_x = rw (crossing_sym q p c a b) (turned_replace e _ _ d (cross_at_x p q c a b) (none_beyond s c p q a b))

  turned_y : replace e (beyond s c q.y) (beyond s c p.y) (turned d) (cross_at_y q p c a b) ≡ turned (replace e (beyond s c p.y) (beyond s c q.y) d (cross_at_y p q c a b))
  turned_y =
      rw (crossing_sym (swap q) (swap p) c a b) (
      turned_replace e _ _ d (cross_at_y p q c a b) (λ i j. ap swapped (none_beyond s c (swap p) (swap q) a b i j)))

module _ (b : BBox) (c : ClippedSeg) where
  x_min_turned : cut_x_min b (turned c) ≡ turned (cut_x_min b c)
  x_min_turned = turned_x low XMin b.x_min b.y_min b.y_max c

  x_max_turned : cut_x_max b (turned c) ≡ turned (cut_x_max b c)
  x_max_turned = turned_x high XMax b.x_max b.y_min b.y_max c

  y_min_turned : cut_y_min b (turned c) ≡ turned (cut_y_min b c)
  y_min_turned = turned_y low YMin b.y_min b.x_min b.x_max c

  y_max_turned : cut_y_max b (turned c) ≡ turned (cut_y_max b c)
  y_max_turned = turned_y high YMax b.y_max b.x_min b.x_max c

cuts_reversed : (b : BBox) (s : Seg) → cuts b (reversed s) ≡ turned (cuts b s)
unfolding cuts
cuts_reversed b s =
    let c1 = cut_x_min b (given s) in
    let c2 = cut_x_max b c1 in
    ap (λ (c : ClippedSeg). cut_y_max b (cut_y_min b (cut_x_max b c))) (x_min_turned b (given s)) ∙ ap (λ (c : ClippedSeg). cut_y_max b (cut_y_min b c)) (x_max_turned b c1) ∙
    ap (cut_y_max b) (y_min_turned b c2) ∙ y_max_turned b (cut_y_min b c2)

-- ---- the overlap
most_sym : (m n : ℤ) → most m n ≡ most n m
most_sym m n = by_le (λ z. z ≡ most n m) m n n m
    (λ h. by_le (λ z. n ≡ z) n m m n (λ k. omega zarith) (λ k. refl))
    (λ h. by_le (λ z. m ≡ z) n m m n (λ k. refl) (λ k. omega zarith))

least_sym : (m n : ℤ) → least m n ≡ least n m
least_sym m n = by_le (λ z. z ≡ least n m) m n m n
    (λ h. by_le (λ z. m ≡ z) n m n m (λ k. omega zarith) (λ k. refl))
    (λ h. by_le (λ z. n ≡ z) n m n m (λ k. refl) (λ k. omega zarith))

overlap_reversed : (b : BBox) (s : Seg) → overlap b (reversed s) ≡ overlap b s
unfolding overlap
overlap_reversed b s =
    let p = s.p0 in
    let q = s.p1 in
    all_four (ap (le_z b.x_min) (most_sym q.x p.x)) (ap (λ (z : ℤ). le_z z b.x_max) (least_sym q.x p.x))
    (ap (le_z b.y_min) (most_sym q.y p.y)) (ap (λ (z : ℤ). le_z z b.y_max) (least_sym q.y p.y))

pub clip_reversed : (b : BBox) (s : Seg) → clip b (reversed s) ≡ turned (clip b s)
unfolding clip
clip_reversed b s = rw (overlap_reversed b s, cuts_reversed b s) (go (overlap b s))
  where
    go : (w : Bool) → cond w (turned (cuts b s)) (turned (given s)) ≡ turned (cond w (cuts b s) (given s))
    go true = refl
    go false = refl
