-- The named edges: (d) of demand 3, and the laws of the names.
--     told0 told1       an end after the four cuts: as given and none named, or in the box, on the named edge, which the end as given has strictly passed
--     unnamed           an end that is as given has none named
--     first_once second_once    an end that has a name is moved by no further cut
-- An end moves at most once, since a moved end lies in the box and so has passed no edge.
use Prim.Native.Nat.{ℕ}
use mathlib.Core.Path.{◌≡◌, refl, sym, ◌∙◌, ap, subst}
use mathlib.Core.Bool.{Bool, true, false}
use native.Mathlib.Omega.{arith}
use lib.IntN.{ℤ}
use lib.Signed.{◌≤ℤ◌, ≤ℤ_refl}
use Rattle.whole.proofs.Parts.{zarith}
use Rattle.whole.proofs.Laws.{<-≤}
use Rattle.whole.proofs.Machine.{lt_yes}
use Rattle.clip.specs.declared.Pt.{Pt}
use Rattle.clip.specs.declared.Seg.{Seg}
use Rattle.clip.specs.declared.BBox.{BBox}
use Rattle.clip.specs.declared.ClippedSeg.{ClippedSeg}
use Rattle.clip.specs.declared.Edge.{Edge}
use Rattle.clip.specs.declared.Edge.TheVariants.{Stayed, XMin, XMax, YMin, YMax}
use Rattle.clip.specs.Cutting.{Crossing, Missing, At, cross_at_x, swap, swapped, given, replace, cut_x_min, cut_x_max, cut_y_min, cut_y_max, cuts}
use Rattle.clip.specs.Demand3.{Inside, Passed, Holds}
use Rattle.clip.specs.Numbers.{is_moved}
use Rattle.clip.proofs.Ends.{Proper}
use Rattle.clip.proofs.Verdicts.{Verdict, level, left, right, under, over, lower, upper, good, verdict}

-- ---- what a crossing is: on the line, and in range
pub record Crossed (c lo hi : ℤ) (r : Pt) : Type 0 where
  pub line : r.x ≡ c
  pub from : lo ≤ℤ r.y
  pub to : r.y ≤ℤ hi

nothing : {r : Pt} {A : Type 0} → Missing ≡ At r → A
nothing e = absurd (let z : ◌≡◌ {A = ℕ} 0 1 = cc in omega arith)

crossed : {c lo hi : ℤ} {p q : Pt} {w : Crossing} → Verdict c lo hi p q w → (r : Pt) → w ≡ At r → Crossed c lo hi r
crossed (level q) r e = nothing e
crossed (left u v) r e = nothing e
crossed (right u v) r e = nothing e
crossed (under u v) r e = nothing e
crossed (over u v) r e = nothing e
crossed (lower s g l) r e = nothing e
crossed (upper s g l) r e = nothing e
crossed {c} {lo} {hi} (good s g l u) r e =
    let f : record { x = c; y = s } ≡ r = cc in
    subst (Crossed c lo hi) f (record { line = refl; from = l; to = u })

crossed_x : (c lo hi : ℤ) (p q r : Pt) → cross_at_x p q c lo hi ≡ At r → Crossed c lo hi r
crossed_x c lo hi p q = crossed (verdict c lo hi p q)

crossed_y : (c lo hi : ℤ) (p q r : Pt) → swapped (cross_at_x (swap p) (swap q) c lo hi) ≡ At r → Crossed c lo hi (swap r)
crossed_y c lo hi p q r = by (cross_at_x (swap p) (swap q) c lo hi) (crossed_x c lo hi (swap p) (swap q))
  where
    by : (w : Crossing) → ((t : Pt) → w ≡ At t → Crossed c lo hi t) → swapped w ≡ At r → Crossed c lo hi (swap r)
    by Missing h e = nothing e
    by (At t) h e = let f : swap t ≡ r = cc in subst (λ (z : Pt). Crossed c lo hi (swap z)) f (h t refl)

-- ---- one cut, at an edge, of an end with its name
pub data Step (b : BBox) (e : Edge) (p : Pt) (n : Edge) : Pt → Edge → Type 0 where
  stays : Step b e p n p n
  moves : (r : Pt) → Passed e b p → Inside b r → Holds e b r → Step b e p n r e

pub record Steps (b : BBox) (e : Edge) (c d : ClippedSeg) : Type 0 where
  pub end0 : Step b e c.seg.p0 c.first d.seg.p0 d.first
  pub end1 : Step b e c.seg.p1 c.second d.seg.p1 d.second

-- a crossing lies in the box, on that edge
abbrev Lies : BBox → Edge → Crossing → Type 0
Lies b e w = (r : Pt) → w ≡ At r → Inside b r × Holds e b r

module _ (b : BBox) (e : Edge) (c : ClippedSeg) where
  steps : (u v : Bool) (w : Crossing) → (u ≡ true → Passed e b c.seg.p0) → (v ≡ true → Passed e b c.seg.p1) → Lies b e w → Steps b e c (replace e u v c w)
  steps u v Missing o0 o1 h = record { end0 = stays; end1 = stays }
  steps true v (At r) o0 o1 h = let k = h r refl in record { end0 = moves r (o0 refl) k.0 k.1; end1 = stays }
  steps false true (At r) o0 o1 h = let k = h r refl in record { end0 = stays; end1 = moves r (o1 refl) k.0 k.1 }
  steps false false (At r) o0 o1 h = record { end0 = stays; end1 = stays }

module _ (b : BBox) (h : Proper b) (c : ClippedSeg) where
  abbrev p : Pt
  p = c.seg.p0

  abbrev q : Pt
  q = c.seg.p1

  in_x : (z : ℤ) → b.x_min ≤ℤ z → z ≤ℤ b.x_max → (r : Pt) → Crossed z b.y_min b.y_max r → Inside b r
  in_x z l u r k = record { left = subst (λ (v : ℤ). b.x_min ≤ℤ v) (sym k.line) l; right = subst (λ (v : ℤ). v ≤ℤ b.x_max) (sym k.line) u; bottom = k.from; top = k.to }

  in_y : (z : ℤ) → b.y_min ≤ℤ z → z ≤ℤ b.y_max → (r : Pt) → Crossed z b.x_min b.x_max (swap r) → Inside b r
  in_y z l u r k = record { left = k.from; right = k.to; bottom = subst (λ (v : ℤ). b.y_min ≤ℤ v) (sym k.line) l; top = subst (λ (v : ℤ). v ≤ℤ b.y_max) (sym k.line) u }

  pub step_x_min : Steps b XMin c (cut_x_min b c)
  step_x_min =
      steps b XMin c _ _ (cross_at_x p q b.x_min b.y_min b.y_max) (λ u. lt_yes u) (λ u. lt_yes u)
      (λ r e. let k = crossed_x _ _ _ p q r e in (in_x _ (≤ℤ_refl b.x_min) (<-≤ h.wide) r k, k.line))

  pub step_x_max : Steps b XMax c (cut_x_max b c)
  step_x_max =
      steps b XMax c _ _ (cross_at_x p q b.x_max b.y_min b.y_max) (λ u. lt_yes u) (λ u. lt_yes u)
      (λ r e. let k = crossed_x _ _ _ p q r e in (in_x _ (<-≤ h.wide) (≤ℤ_refl b.x_max) r k, k.line))

  pub step_y_min : Steps b YMin c (cut_y_min b c)
  step_y_min =
      steps b YMin c _ _ (swapped (cross_at_x (swap p) (swap q) b.y_min b.x_min b.x_max)) (λ u. lt_yes u) (λ u. lt_yes u)
      (λ r e. let k = crossed_y _ _ _ p q r e in (in_y _ (≤ℤ_refl b.y_min) (<-≤ h.tall) r k, k.line))

  pub step_y_max : Steps b YMax c (cut_y_max b c)
  step_y_max =
      steps b YMax c _ _ (swapped (cross_at_x (swap p) (swap q) b.y_max b.x_min b.x_max)) (λ u. lt_yes u) (λ u. lt_yes u)
      (λ r e. let k = crossed_y _ _ _ p q r e in (in_y _ (<-≤ h.tall) (≤ℤ_refl b.y_max) r k, k.line))

-- ---- what the cuts so far have made of an end that was given as g
pub data Told (b : BBox) (g : Pt) : Edge → Pt → Type 0 where
  as_given : Told b g Stayed g
  told : (e : Edge) (r : Pt) → Passed e b g → Inside b r → Holds e b r → Told b g e r

-- a point in the box has passed no edge
pub not_passed : (e : Edge) {b : BBox} {p : Pt} → Passed e b p → Inside b p → ⊥
not_passed Stayed o i = o
not_passed XMin o i = omega (zarith, i.left)
not_passed XMax o i = omega (zarith, i.right)
not_passed YMin o i = omega (zarith, i.bottom)
not_passed YMax o i = omega (zarith, i.top)

step : {b : BBox} {g p q : Pt} {e n m : Edge} → Told b g n p → Step b e p n q m → Told b g m q
step t stays = t
step {b} {g} {p} {q} {e} as_given (moves r o i k) = told e r o i k
step {b} {g} {p} {q} {e} (told n r o i k) (moves u v j l) = absurd (not_passed e v i)

pub record Ends (b : BBox) (s : Seg) (c : ClippedSeg) : Type 0 where
  pub told0 : Told b s.p0 c.first c.seg.p0
  pub told1 : Told b s.p1 c.second c.seg.p1

onward : {b : BBox} {s : Seg} {e : Edge} {c d : ClippedSeg} → Ends b s c → Steps b e c d → Ends b s d
onward t k = record { told0 = step t.told0 k.end0; told1 = step t.told1 k.end1 }

module _ (b : BBox) (h : Proper b) (s : Seg) where
  pub at_start : Ends b s (given s)
  at_start = record { told0 = as_given; told1 = as_given }

  pub told_cuts : Ends b s (cuts b s)
  unfolding cuts
  told_cuts =
      let c1 = cut_x_min b (given s) in
      let c2 = cut_x_max b c1 in
      let c3 = cut_y_min b c2 in
      onward (onward (onward (onward at_start (step_x_min b h (given s))) (step_x_max b h c1)) (step_y_min b h c2)) (step_y_max b h c3)

-- ---- laws of the names
-- no point has passed an edge and lies on it
pub not_both : (e : Edge) (b : BBox) (p : Pt) → Passed e b p → Holds e b p → ⊥
not_both Stayed b p o k = o
not_both XMin b p o k = omega zarith
not_both XMax b p o k = omega zarith
not_both YMin b p o k = omega zarith
not_both YMax b p o k = omega zarith

-- an end that is as given has none named
pub unnamed : {b : BBox} {g p : Pt} {e : Edge} → Told b g e p → p ≡ g → e ≡ Stayed
unnamed as_given f = refl
unnamed {b} {g} (told e r o i k) f = absurd (not_both e b g o (subst (Holds e b) f k))

-- an end with none named is as given
pub as_it_was : {b : BBox} {g p : Pt} {e : Edge} → Told b g e p → e ≡ Stayed → p ≡ g
as_it_was as_given f = refl
as_it_was {b} {g} (told e r o i k) f = absurd (subst (λ (n : Edge). Passed n b g) f o)

-- an end that has a name is moved by no further cut
once : {b : BBox} {g p q : Pt} {e n m : Edge} → Told b g n p → Step b e p n q m → (n ≡ Stayed → ⊥) → (q ≡ p) × (m ≡ n)
once t stays f = (refl, refl)
once as_given (moves r o i k) f = absurd (f refl)
once {b} {g} {p} {q} {e} (told n r o i k) (moves u v j l) f = absurd (not_passed e v i)

-- four cuts that leave the segment as given have named no edge
pub still_given : (b : BBox) → Proper b → (s : Seg) → (cuts b s).seg ≡ s → cuts b s ≡ given s
still_given b h s e =
    let n = told_cuts b h s in
    let f = unnamed n.told0 (ap (λ (z : Seg). z.p0) e) in
    let g = unnamed n.told1 (ap (λ (z : Seg). z.p1) e) in
    whole (cuts b s) e f g
  where
    whole : (c : ClippedSeg) → c.seg ≡ s → c.first ≡ Stayed → c.second ≡ Stayed → c ≡ given s
    whole c u v w = let k : record { seg = c.seg; first = c.first; second = c.second } ≡ given s = rw (u, v, w) refl in k

-- ---- an end moves at most once: whatever cut named an edge for it, the later ones leave it
-- the segment after the cuts up to that edge
abbrev pub up_to : Edge → BBox → Seg → ClippedSeg
up_to Stayed b s = given s
up_to XMin b s = cut_x_min b (given s)
up_to XMax b s = cut_x_max b (cut_x_min b (given s))
up_to YMin b s = cut_y_min b (cut_x_max b (cut_x_min b (given s)))
up_to YMax b s = cut_y_max b (cut_y_min b (cut_x_max b (cut_x_min b (given s))))

-- an end, by its point and its name, that is still the one it was
pub record Still (p q : Pt) (n m : Edge) : Type 0 where
  pub point : q ≡ p
  pub name : m ≡ n

still_then : {p q r : Pt} {n m o : Edge} → Still p q n m → Still q r m o → Still p r n o
still_then k j = record { point = j.point ∙ k.point; name = j.name ∙ k.name }

-- through one more cut, and then through those that go on from there
through : {b : BBox} {g p q r : Pt} {e n m o : Edge} → Told b g n p → Step b e p n q m → is_moved n ≡ true → (is_moved m ≡ true → Still q r m o) → Still p r n o
through {b} {g} {p} {q} {r} {e} {n} t k h j =
    let w = once t k (λ f. let z : ◌≡◌ {A = ℕ} 0 1 = cc in omega arith) in
    still_then (record { point = w.0; name = w.1 }) (j (ap is_moved w.1 ∙ h))

module _ (b : BBox) (h : Proper b) (s : Seg) where
  abbrev c1 : ClippedSeg
  c1 = up_to XMin b s

  abbrev c2 : ClippedSeg
  c2 = up_to XMax b s

  abbrev c3 : ClippedSeg
  c3 = up_to YMin b s

  told_x_min : Ends b s c1
  told_x_min = onward (at_start b h s) (step_x_min b h (given s))

  told_x_max : Ends b s c2
  told_x_max = onward told_x_min (step_x_max b h c1)

  told_y_min : Ends b s c3
  told_y_min = onward told_x_max (step_y_min b h c2)

  first_y_min : is_moved c3.first ≡ true → Still c3.seg.p0 (up_to YMax b s).seg.p0 c3.first (up_to YMax b s).first
  first_y_min m = through told_y_min.told0 (step_y_max b h c3).end0 m (λ z. record { point = refl; name = refl })

  first_x_max : is_moved c2.first ≡ true → Still c2.seg.p0 (up_to YMax b s).seg.p0 c2.first (up_to YMax b s).first
  first_x_max m = through told_x_max.told0 (step_y_min b h c2).end0 m first_y_min

  pub first_once : (e : Edge) → is_moved (up_to e b s).first ≡ true → Still (up_to e b s).seg.p0 (cuts b s).seg.p0 (up_to e b s).first (cuts b s).first
  unfolding cuts
  first_once Stayed m = absurd (let z : ◌≡◌ {A = ℕ} 0 1 = cc in omega arith)
  first_once XMin m = through told_x_min.told0 (step_x_max b h c1).end0 m first_x_max
  first_once XMax m = first_x_max m
  first_once YMin m = first_y_min m
  first_once YMax m = record { point = refl; name = refl }

  second_y_min : is_moved c3.second ≡ true → Still c3.seg.p1 (up_to YMax b s).seg.p1 c3.second (up_to YMax b s).second
  second_y_min m = through told_y_min.told1 (step_y_max b h c3).end1 m (λ z. record { point = refl; name = refl })

  second_x_max : is_moved c2.second ≡ true → Still c2.seg.p1 (up_to YMax b s).seg.p1 c2.second (up_to YMax b s).second
  second_x_max m = through told_x_max.told1 (step_y_min b h c2).end1 m second_y_min

  pub second_once : (e : Edge) → is_moved (up_to e b s).second ≡ true → Still (up_to e b s).seg.p1 (cuts b s).seg.p1 (up_to e b s).second (cuts b s).second
  unfolding cuts
  second_once Stayed m = absurd (let z : ◌≡◌ {A = ℕ} 0 1 = cc in omega arith)
  second_once XMin m = through told_x_min.told1 (step_x_max b h c1).end1 m second_x_max
  second_once XMax m = second_x_max m
  second_once YMin m = second_y_min m
  second_once YMax m = record { point = refl; name = refl }
