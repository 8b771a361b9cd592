-- Laws of the boundary points: what the clip gives, the ends that moved, and a segment inside the box.
-- For callers:
--     outside_is          a point is outside where it does not lie in the closed box
--     inside_same stays   a segment inside the box is not cut, and then no end has moved
use Prim.Native.Nat.{ℕ, ◌≤◌}
use mathlib.Core.Path.{◌≡◌, refl, sym, ap, ◌∙◌}
use mathlib.Core.Bool.{Bool, true, false, cond, not, ◌&&◌, ◌||◌}
use mathlib.Core.List.{[], ◌∷◌}
use native.Mathlib.Omega.{arith}
use lib.ListN.{length, length-append}
use lib.Signed.{lt_z}
use Rattle.whole.proofs.Cases.{le_not}
use Rattle.whole.specs.Equal.{eq_z}
use Rattle.whole.proofs.Equal.{eq_z_refl, eq_z_yes}
use Rattle.promise.proofs.Joined.{both}
use Rattle.refusal.specs.declared.Refusal.{Refusal}
use Rattle.clip.specs.declared.Pt.{Pt}
use Rattle.clip.specs.declared.Seg.{Seg}
use Rattle.clip.specs.declared.BBox.{BBox}
use Rattle.clip.specs.declared.ClippedSeg.{ClippedSeg}
use Rattle.std.specs.Prelude.{Option, Result, Ok, Err}
use Rattle.std.specs.Bool.{then_some}
use Rattle.clip.specs.Domain.{is_good, is_inside}
use Rattle.clip.specs.Cutting.{given, clip}
use Rattle.clip.specs.Answer.{are_coords, said_clipped, clipped}
use Rattle.clip.proofs.Callers.{answered, never_refused, Kept, clip_inside, first_kept, first_moved, second_kept, second_moved}
use Rattle.clip.specs.Numbers.{is_moved}
use Rattle.encoder.specs.Points.{same_pt}
use Rattle.encoder.specs.Boundary.{moved, moved_ends, moved_by, ends_in, outside}

-- ---- the two answers of the clip, which is never refused
module _ (s : Seg) (b : BBox) (r : Result ClippedSeg Refusal) (h : said_clipped r ≡ clipped s b) where
  pub clip_done : (c : ClippedSeg) → r ≡ Ok c → c ≡ clip b s
  clip_done c f = answered s b r h c f

  pub clip_refused : is_good b ≡ true → are_coords s ≡ true → (k : Refusal) → r ≡ Err k → (c : ClippedSeg) → c ≡ clip b s
  clip_refused g e k f c = absurd (never_refused s b r h k f g e)

-- ---- the ends of the cut segment
same_self : (p : Pt) → same_pt p p ≡ true
same_self p = rw (eq_z_refl p.x, eq_z_refl p.y)

pub same_yes : (p q : Pt) → same_pt p q ≡ true → q ≡ p
same_yes p q e =
    let k = both (eq_z p.x q.x) (eq_z p.y q.y) e in
    let x = eq_z_yes p.x q.x k.0 in
    let y = eq_z_yes p.y q.y k.1 in
    let z : ◌≡◌ {A = Pt} (record { x = q.x; y = q.y }) (record { x = p.x; y = p.y }) = rw (x, y) refl in
    z

-- at most two of them moved
moved_one : (raw end : Pt) → length (moved raw end) ≤ 1
moved_one raw end = by (same_pt raw end)
  where
    by : (t : Bool) → length (cond t [] (end ∷ [])) ≤ 1
    by true = omega arith
    by false = omega arith

pub moved_two : (raw cut : Seg) → length (moved_ends raw cut) ≤ 2
moved_two raw cut =
    let n = length-append (moved raw.p0 cut.p0) (moved raw.p1 cut.p1) in
    omega (arith, moved_one raw.p0 cut.p0, moved_one raw.p1 cut.p1)

flag : (p q : Pt) (m t : Bool) → (m ≡ false → q ≡ p) → (m ≡ true → q ≡ p → ⊥) → same_pt p q ≡ t → m ≡ not t
flag p q true true f g e = absurd (g refl (same_yes p q e))
flag p q true false f g e = refl
flag p q false true f g e = refl
flag p q false false f g e = let h = sym (ap (same_pt p) (f refl) ∙ same_self p) ∙ e in absurd (let z : ◌≡◌ {A = ℕ} 0 1 = cc in omega arith)

-- an edge is named for an end where the end differs from the one given
pub moved_is : (b : BBox) (s : Seg) → is_good b ≡ true → ends_in (clip b s) ≡ moved_by s.p0 s.p1 (clip b s).seg
moved_is b s g =
    let e = flag s.p0 (clip b s).seg.p0 (is_moved (clip b s).first) _ (first_kept b s g) (first_moved b s g) refl in
    let f = flag s.p1 (clip b s).seg.p1 (is_moved (clip b s).second) _ (second_kept b s g) (second_moved b s g) refl in
    rw (e, f) refl

-- what the code's two tests tell
pub ends_is : (c : ClippedSeg) (t u : Bool) (x y : Option Pt) → t ≡ is_moved c.first → u ≡ is_moved c.second → x ≡ then_some t c.seg.p0 → y ≡ then_some u c.seg.p1 → record { end0 = x; end1 = y } ≡ ends_in c
ends_is c t u x y e f g h = rw (g, h, e, f) refl

-- ---- outside or inside
each_not : (l r u o : Bool) → (l || r || u || o) ≡ not (not l && not r && (not u && not o))
each_not true r u o = refl
each_not false true u o = refl
each_not false false true o = refl
each_not false false false true = refl
each_not false false false false = refl

pub outside_is : (b : BBox) (p : Pt) → outside b p ≡ not (is_inside b p)
unfolding is_inside
outside_is b p =
    rw (le_not b.x_min p.x, le_not p.x b.x_max, le_not b.y_min p.y, le_not p.y b.y_max)
    (each_not (lt_z p.x b.x_min) (lt_z b.x_max p.x) (lt_z p.y b.y_min) (lt_z b.y_max p.y))

-- ---- a segment inside the box brings none
pub kept_in : (b : BBox) (p : Pt) → outside b p ≡ false → Kept b p
kept_in b p e = by (lt_z p.x b.x_min) (lt_z b.x_max p.x) (lt_z p.y b.y_min) (lt_z b.y_max p.y) e refl refl refl refl
  where
    by : (m n o q : Bool) → (m || n || o || q) ≡ false → lt_z p.x b.x_min ≡ m → lt_z b.x_max p.x ≡ n → lt_z p.y b.y_min ≡ o → lt_z b.y_max p.y ≡ q → Kept b p
    by false false false false f g h i j = record { left = g; right = h; down = i; up = j }
    by true n o q f g h i j = absurd (let z : ◌≡◌ {A = ℕ} 0 1 = cc in omega arith)
    by false true o q f g h i j = absurd (let z : ◌≡◌ {A = ℕ} 0 1 = cc in omega arith)
    by false false true q f g h i j = absurd (let z : ◌≡◌ {A = ℕ} 0 1 = cc in omega arith)
    by false false false true f g h i j = absurd (let z : ◌≡◌ {A = ℕ} 0 1 = cc in omega arith)

pub stays : (raw cut : Seg) → cut ≡ raw → [] ≡ moved_ends raw cut
stays raw cut e = rw (e, same_self raw.p0, same_self raw.p1)

module _ (raw : Seg) (b : BBox) (t u : Bool) (e : t ≡ outside b raw.p0) (f : u ≡ outside b raw.p1) where
  pub inside_same : not (t || u) ≡ true → clip b raw ≡ given raw
  inside_same h = by t u e f h
    where
      by : (m n : Bool) → m ≡ outside b raw.p0 → n ≡ outside b raw.p1 → not (m || n) ≡ true → clip b raw ≡ given raw
      by false false g i j = clip_inside b raw (kept_in b raw.p0 (sym g)) (kept_in b raw.p1 (sym i))
      by true n g i j = absurd (let z : ◌≡◌ {A = ℕ} 0 1 = cc in omega arith)
      by false true g i j = absurd (let z : ◌≡◌ {A = ℕ} 0 1 = cc in omega arith)
