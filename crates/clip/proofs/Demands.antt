-- DEMAND 3 proved: `demand_3` is specs/Demand3 of the clip's definition, for every box with x_min < x_max and y_min < y_max and every segment. No limit is needed.
-- The proof: an end moves at most once, since a moved end lies in the box (Tracks); it comes to lie half a unit from the segment as it then is, which is less than one from the segment as given (Slopes.twice);
-- a cut that moves an end keeps a point in the box, and an end of a segment with a point in the box cannot fail at an edge of x and at an edge of y (Held).
use mathlib.Core.Path.{◌≡◌, refl, sym, subst}
use mathlib.Core.Bool.{Bool, true, false, cond}
use mathlib.Core.List.{List, [], ◌∷◌}
use mathlib.Core.Logic.{inl, inr, ⊎_elim}
use native.Mathlib.Omega.{arith}
use lib.IntN.{ℤ, ◌-ℤ◌, ◌*ℤ◌}
use lib.Signed.{◌≤ℤ◌, ◌<ℤ◌}
use Rattle.whole.proofs.Parts.{zarith, -parts}
use Rattle.whole.proofs.Laws.{diff, ≤-or-<}
use Rattle.whole.proofs.Auto.{reads, ≤:, ≤! }
use Rattle.clip.specs.declared.Pt.{Pt}
use Rattle.clip.specs.declared.Seg.{Seg}
use Rattle.clip.specs.declared.BBox.{BBox}
use Rattle.clip.specs.declared.Edge.{Edge}
use Rattle.clip.specs.declared.Edge.TheVariants.{Stayed}
use Rattle.clip.specs.Cutting.{most, least, given, cuts, overlap, clip, swap}
use Rattle.clip.specs.Demand3.{Inside, Share, Meets, along, Holds, Placed, Demand3}
use Rattle.whole.proofs.Cases.{le_is}
use Rattle.promise.proofs.Joined.{both_is}
use Rattle.clip.proofs.Tests.{most_lt, lt_least}
use Rattle.clip.specs.Laws.{reversed}
use Rattle.clip.proofs.Ends.{Side, low, high, ends_x, ends_y, ends, swap_box, Proper, swap_proper}
use Rattle.clip.proofs.Readings.{cuts_are_ends}
use Rattle.clip.proofs.Slopes.{both_below, both_above}
use Rattle.clip.proofs.Fates.{fate}
use Rattle.clip.proofs.Tracks.{Cut, cut_is, swap_cut, Track, as_given as untouched, track, Lies, placed}
use Rattle.clip.proofs.Names.{Told, as_given, told, told_cuts, not_both}
use Rattle.clip.proofs.Held.{still_meets, State, begin, carry, at_y, keep, finish}

module _ (b : BBox) (h : Proper b) where
  pub cut_x : (s : Side) (t : Seg) → Cut b t.p0 t.p1 (ends_x s b t).p0 (ends_x s b t).p1
  cut_x s t = cut_is (fate b h t.p0 t.p1 s) (fate b h t.p1 t.p0 s)

  pub cut_y : (s : Side) (t : Seg) → Cut b t.p0 t.p1 (ends_y s b t).p0 (ends_y s b t).p1
  cut_y s t = swap_cut (cut_is (fate (swap_box b) (swap_proper h) (swap t.p0) (swap t.p1) s) (fate (swap_box b) (swap_proper h) (swap t.p1) (swap t.p0) s))

  module _ (t : Seg) where
    abbrev s1 : Seg
    s1 = ends_x low b t

    abbrev s2 : Seg
    s2 = ends_x high b s1

    abbrev s3 : Seg
    s3 = ends_y low b s2

    tracked : Track b t.p0 t.p1 (ends b t).p0 (ends b t).p1
    tracked = track (track (track (track untouched (cut_x low t)) (cut_x high s1)) (cut_y low s2)) (cut_y high s3)

    first_inside : Meets b t → Inside b (ends b t).p0
    first_inside m0 =
        let c1 = cut_x low t in
        let c2 = cut_x high s1 in
        let c3 = cut_y low s2 in
        let c4 = cut_y high s3 in
        let m1 : Meets b s1 = still_meets m0 c1 in
        let m2 : Meets b s2 = still_meets m1 c2 in
        let m3 : Meets b s3 = still_meets m2 c3 in
        let l1 = begin m0 (fate b h t.p0 t.p1 low) c1 in
        let l2 : State low b s2.p0 s2.p1 = carry l1 c2 in
        let r2 : State high b s2.p0 s2.p1 = begin m1 (fate b h s1.p0 s1.p1 high) c2 in
        let l3 : State low b s3.p0 s3.p1 = carry l2 c3 in
        let r3 : State high b s3.p0 s3.p1 = carry r2 c3 in
        let u3 = at_y low h m2 (λ s. elim s as (λ k. State k b s2.p0 s2.p1) [ low ↦ l2 | high ↦ r2 ]) (fate (swap_box b) (swap_proper h) (swap s2.p0) (swap s2.p1) low) in
        let v4 = at_y high h m3 (λ s. elim s as (λ k. State k b s3.p0 s3.p1) [ low ↦ l3 | high ↦ r3 ]) (fate (swap_box b) (swap_proper h) (swap s3.p0) (swap s3.p1) high) in
        finish (carry l3 c4) (carry r3 c4) (keep u3 c4) v4

reversed_meets : {b : BBox} {t : Seg} → Meets b t → Meets b (reversed t)
reversed_meets {b} {t} m =
    let ρ : List ℤ = m.k ∷ m.d ∷ b.x_min ∷ b.x_max ∷ b.y_min ∷ b.y_max ∷ t.p0.x ∷ t.p0.y ∷ t.p1.x ∷ t.p1.y ∷ [] in
    record {
      k = m.d -ℤ m.k;
      d = m.d;
      share = record { from = diff m.share.to; to = omega (zarith, m.share, -parts m.d m.k); some = m.share.some };
      left = ≤! ρ (search reads depth 30) (omega (arith, ≤: ρ m.left (search reads depth 30)));
      right = ≤! ρ (search reads depth 30) (omega (arith, ≤: ρ m.right (search reads depth 30)));
      bottom = ≤! ρ (search reads depth 30) (omega (arith, ≤: ρ m.bottom (search reads depth 30)));
      top = ≤! ρ (search reads depth 30) (omega (arith, ≤: ρ m.top (search reads depth 30)));
    }

-- a segment with a point in the box overlaps it
reaches : (c u v : ℤ) {k d : ℤ} → Share k d → (d *ℤ c) ≤ℤ along d k u v → c ≤ℤ most u v
reaches c u v s h = ⊎_elim (λ g. g) (λ (g : most u v <ℤ c). absurd (let e = most_lt u v c g in both_below c u v s h e.0 e.1)) (≤-or-< c (most u v))

starts : (c u v : ℤ) {k d : ℤ} → Share k d → along d k u v ≤ℤ (d *ℤ c) → least u v ≤ℤ c
starts c u v s h = ⊎_elim (λ g. g) (λ (g : c <ℤ least u v). absurd (let e = lt_least u v c g in both_above c u v s h e.0 e.1)) (≤-or-< (least u v) c)

pub overlaps : {b : BBox} {t : Seg} → Meets b t → overlap b t ≡ true
unfolding overlap
overlaps m = both_is (both_is (le_is (reaches _ _ _ m.share m.left)) (le_is (starts _ _ _ m.share m.right))) (both_is (le_is (reaches _ _ _ m.share m.bottom)) (le_is (starts _ _ _ m.share m.top)))

-- ---- demand 3
-- where an end lies, and what is told of it
together : {b : BBox} {s : Seg} {g p : Pt} {e : Edge} → Told b g e p → Lies b s g p → Placed b s g p e
together as_given l = inl (record { stayed = refl; same = refl })
together {b} {s} {g} (told e r o i k) l = ⊎_elim (λ (f : r ≡ g). absurd (not_both e b g o (subst (Holds e b) f k))) (λ m. inr (record { edge = m.0; near = m.1; passed = o; holds = k })) l

module _ (b : BBox) (h : Proper b) (t : Seg) where
  abbrev Of : Seg → Type 0
  Of s = ((Meets b t → Inside b s.p0) × (Meets b t → Inside b s.p1)) × (Lies b t t.p0 s.p0 × Lies b t t.p1 s.p1)

  of_ends : Of (ends b t)
  of_ends = ((λ m. first_inside b h t m, λ m. first_inside b h (reversed t) (reversed_meets m)), placed (tracked b h t))

  of_cuts : Demand3 b t (cuts b t)
  of_cuts =
      let o = subst Of (sym (cuts_are_ends b t)) of_ends in
      let n = told_cuts b h t in
      record { inside0 = o.0.0; inside1 = o.0.1; placed0 = together n.told0 o.1.0; placed1 = together n.told1 o.1.1 }

  -- where the overlap test answers w
  of_either : (w : Bool) → (Meets b t → w ≡ true) → Demand3 b t (cond w (cuts b t) (given t))
  of_either true e = of_cuts
  of_either false e = record { inside0 = λ m. never (e m); inside1 = λ m. never (e m); placed0 = stayed; placed1 = stayed }
    where
      never : {A : Type 0} → false ≡ true → A
      never z = absurd (let y : ◌≡◌ {A = Prim.Native.Nat.ℕ} 0 1 = cc in omega arith)

      stayed : {p : Pt} → Placed b t p p Stayed
      stayed = inl (record { stayed = refl; same = refl })

  pub demand_3 : Demand3 b t (clip b t)
  unfolding clip
  demand_3 = of_either (overlap b t) overlaps
