-- Laws of a pen's emissions: what they ask, what they keep, and that they are the state's emissions.
--     marked_able if_able ends_able   what is asked of a pen, after one emission and after ends that may have moved
--     marks_then                      emissions after emissions
--     mark_is marks_emitted           a pen's emissions are the state's
--     marks_used                      at most two words for each
use mathlib.Core.Path.{◌≡◌, refl, sym, ◌∙◌, ap, subst}
use mathlib.Core.Bool.{Bool, true, false, cond, not, ◌&&◌, ◌||◌}
use mathlib.Core.List.{List, [], ◌∷◌, ◌++◌}
use Prim.Native.Nat.{ℕ, ◌+◌, ◌-◌, ◌*◌, ◌≤◌}
use native.Mathlib.Omega.{arith}
use borrow.Author.Tests.{le-leb, ne_eqb}
use lib.Dec.{leb, eqb}
use lib.ListN.{length, set, length-append}
use lib.IntN.{◌-ℤ◌}
use Rattle.promise.specs.Answers.{Written, Gives, kept}
use Rattle.promise.specs.Laid.{lay}
use Rattle.promise.proofs.Laying.{lay_nothing}
use Rattle.clip.specs.declared.Pt.{Pt}
use Rattle.clip.specs.declared.Seg.{Seg}
use Rattle.clip.specs.declared.BBox.{BBox}
use Rattle.clip.specs.Domain.{is_coord, is_good}
use Rattle.clip.specs.Answer.{are_coords}
use Rattle.clip.specs.Facts.{Coord}
use Rattle.clip.specs.Cutting.{clip}
use Rattle.encoder.specs.declared.GeomEncoder.{GeomEncoder}
use Rattle.encoder.specs.Pushed.{command}
use Rattle.encoder.specs.Emitting.{Emission, steps, popped, pushed, emitted_at, emission}
use Rattle.encoder.specs.Points.{in_limit, clamped, same_pt, between}
use Rattle.std.specs.Prelude.{Option, Some, None}
use Rattle.encoder.specs.Boundary.{moved, moved_ends, moved_by, maybe}
use Rattle.encoder.specs.Adding.{emitted}
use Rattle.encoder.specs.Boundary.{outside}
use Rattle.clip.proofs.Callers.{coord_facts, clip_within}
use Rattle.promise.proofs.Joined.{both}
use Rattle.encoder.proofs.Boundaries.{moved_two, inside_same, stays}
use Rattle.clip.specs.declared.ClippedSeg.{ClippedSeg}
use Rattle.words.specs.Params.{param}
use Rattle.promise.proofs.Stores.{two_stores}
use Rattle.encoder.specs.declared.pen.Pen.{Pen}
use Rattle.encoder.specs.declared.boundary.Ends.{Ends}
use Rattle.encoder.specs.Pens.{state_of, with_raw, Mark, again, still, taken, before_push, onward, mark, laid, marked, marked_if, marked_ends, marks, ends, drawn_by, Fit, Able}
use Rattle.encoder.specs.Stretches.{emissions_by}
use Rattle.encoder.proofs.Tests.{clamped_inside, made_coord, fixed0, fixed1, neither}

pub may_pop : (ring b : Bool) (pen : Pen) → (ring ≡ true → (2 ≤ pen.count) × (2 ≤ pen.used)) → (u : Bool) → u ≡ (ring && b) → u ≡ true → (2 ≤ pen.count) × (2 ≤ pen.used)
may_pop ring b pen h u f k = h (both ring b (sym f ∙ k)).0

module _ (ring : Bool) (pen : Pen) (q : Pt) (out : List ℕ) (t : Bool) (e : t ≡ same_pt pen.pt1 q) where
  pub emit_still : t ≡ true → (r : Pen) → r ≡ again pen → Gives (marked ring pen q out) r out
  unfolding marked
  emit_still h r f = rw (sym e ∙ h) (record { answer = f; memory = sym (lay_nothing pen.used out) })

  pub emit_next : t ≡ false → (base : Pen) → base ≡ before_push ring pen q → (r : Pen) (o : List ℕ) → Gives (laid (onward base q) out) r o → Gives (marked ring pen q out) r o
  unfolding marked
  emit_next h base f r o g =
      let g' : Gives (laid (onward (before_push ring pen q) q) out) r o = subst (λ (x : Pen). Gives (laid (onward x q) out) r o) f g in
      rw (sym e ∙ h) g'

pub push_fits : (n : ℕ) (ring : Bool) (pen : Pen) (q : Pt) → Able 2 pen n → (base : Pen) → base ≡ before_push ring pen q → Fit base n
push_fits n ring pen q a base e = subst (λ (x : Pen). Fit x n) (sym e) (by (ring && between pen.pt0 pen.pt1 q))
  where
    by : (u : Bool) → Fit (cond u (taken pen) pen) n
    by true = record { room = omega (arith, a.room); words = omega (arith, a.few); few = omega (arith, a.few, a.counted); at1 = a.at0 }
    by false = record { room = a.room; words = omega (arith, a.few); few = omega (arith, a.few, a.counted); at1 = a.at1 }

-- ---- what is asked of a pen
pub less : {m k n : ℕ} {pen : Pen} → k ≤ m → Able m pen n → Able k pen n
less h a = record { room = omega (arith, a.room); few = omega (arith, a.few); two = a.two; counted = a.counted; lost = omega (arith, a.lost); at0 = a.at0; at1 = a.at1 }

module _ (m n : ℕ) (ring : Bool) (pen : Pen) (a : Able (m + 2) pen n) where
  pub marked_able : (q : Pt) (out : List ℕ) → Coord q → Able m (marked ring pen q out).answer n
  unfolding marked
  marked_able q out c = by (same_pt pen.pt1 q) (ring && between pen.pt0 pen.pt1 q)
    where
      by : (t u : Bool) → Able m (cond t (still pen) (onward (cond u (taken pen) pen) q)).pen n
      by true u = record { room = omega (arith, a.room); few = omega (arith, a.few); two = a.two; counted = a.counted; lost = omega (arith, a.lost); at0 = a.at0; at1 = a.at1 }
      by false true =
          let s : 2 ≤ pen.used = omega (arith, a.two, a.counted) in
          record { room = omega (arith, a.room); few = omega (arith, a.few); two = omega (arith, a.two); counted = omega (arith, a.counted, a.two); lost = omega (arith, a.lost); at0 = a.at0; at1 = c }
      by false false = record { room = omega (arith, a.room); few = omega (arith, a.few); two = omega (arith, a.two); counted = omega (arith, a.counted); lost = omega (arith, a.lost); at0 = a.at1; at1 = c }

  pub if_able : (end : Option Pt) (out : List ℕ) → in_limit end ≡ true → Able m (marked_if ring pen end out).answer n
  if_able (Some q) out c = marked_able q out (coord_facts c)
  if_able None out c = less (omega arith) a

-- ---- the returns of `emit_if`
module _ (ring : Bool) (pen : Pen) (end : Option Pt) (out : List ℕ) where
  module _ (q : Pt) (h : end ≡ Some q) where
    pub moved_coord : in_limit end ≡ true → Coord q
    moved_coord c = coord_facts (sym (ap in_limit h) ∙ c)

-- ---- emissions after emissions
pub marks_then : (b : BBox) (ring : Bool) (ps qs : List Pt) (pen : Pen) (out : List ℕ) →
    marks b ring pen (ps ++ qs) out ≡ marks b ring (marks b ring pen ps out).answer qs (marks b ring pen ps out).memory
marks_then b ring [] qs pen out = refl
marks_then b ring (p ∷ ps) qs pen out = marks_then b ring ps qs (marked ring pen (clamped b p) out).answer (marked ring pen (clamped b p) out).memory

-- ---- what `emit_ends` asks and gives
module _ (ring : Bool) (pen : Pen) (e : Ends) (out : List ℕ) (c0 : in_limit e.end0 ≡ true) (c1 : in_limit e.end1 ≡ true) where
  module _ (first : Pen) (o : List ℕ) (g : Gives (marked_if ring pen e.end0 out) first o) where
    pub second_asked : Able 4 pen (length out) → length o ≡ length out → Able 2 first (length o) × (in_limit e.end1 ≡ true)
    second_asked a l =
        let r : Able 2 first (length out) = subst (λ (x : Pen). Able 2 x (length out)) (sym g.answer) (if_able 2 (length out) ring pen a e.end0 out c0) in
        (rw l r, c1)

    pub ends_both : (second : Pen) (m : List ℕ) → Gives (marked_if ring first e.end1 o) second m → Gives (marked_ends ring pen e out) second m
    unfolding marked_ends
    ends_both second m d =
        let w : marked_if ring (marked_if ring pen e.end0 out).answer e.end1 (marked_if ring pen e.end0 out).memory ≡ kept second m =
        (λ i. marked_if ring (sym g.answer i) e.end1 (sym g.memory i)) ∙ (λ i. kept (sym d.answer i) (sym d.memory i)) in
        rw w (record { answer = refl; memory = refl })

ends_able : (m n : ℕ) (ring : Bool) (pen : Pen) → Able (m + 4) pen n → (e : Ends) (out : List ℕ) → in_limit e.end0 ≡ true → in_limit e.end1 ≡ true → Able m (marked_ends ring pen e out).answer n
unfolding marked_ends
ends_able m n ring pen a e out c0 c1 =
    let a' : Able (m + 2 + 2) pen n = less (omega arith) a in
    let w = marked_if ring pen e.end0 out in
    if_able m n ring w.answer (if_able (m + 2) n ring pen a' e.end0 out c0) e.end1 w.memory c1

-- ---- a moved end is not clamped, so the two ends are emitted as the definition says
module _ (b : BBox) (ring : Bool) where
  if_is : (pen : Pen) (raw end : Pt) (out : List ℕ) → (same_pt raw end ≡ false → clamped b end ≡ end) → marks b ring pen (moved raw end) out ≡ marked_if ring pen (maybe (not (same_pt raw end)) end) out
  if_is pen raw end out f = by (same_pt raw end) refl
    where
      by : (t : Bool) → same_pt raw end ≡ t → marks b ring pen (cond t [] (end ∷ [])) out ≡ marked_if ring pen (maybe (not t) end) out
      by true e = refl
      by false e = ap (λ (q : Pt). marked ring pen q out) (f e)

  ends_is : (pen : Pen) (s : Seg) (out : List ℕ) → is_good b ≡ true → marks b ring pen (moved_ends s (clip b s).seg) out ≡ marked_ends ring pen (moved_by s.p0 s.p1 (clip b s).seg) out
  unfolding marked_ends
  ends_is pen s out g =
      let cut = (clip b s).seg in
      let w = marked_if ring pen (maybe (not (same_pt s.p0 cut.p0)) cut.p0) out in
      marks_then b ring (moved s.p0 cut.p0) (moved s.p1 cut.p1) pen out ∙
      ap (λ (x : Written Pen (List ℕ)). marks b ring x.answer (moved s.p1 cut.p1) x.memory) (if_is pen s.p0 cut.p0 out (fixed0 b s g)) ∙
      if_is w.answer s.p1 cut.p1 w.memory (fixed1 b s g)

-- ---- the returns of `draw` and `cross`
module _ (b : BBox) (ring : Bool) (pen : Pen) (p : Pt) (out : List ℕ) where
  pub draw_inside : (t : Bool) → t ≡ (outside b pen.raw || outside b p) → t ≡ false → (last : Pen) (o : List ℕ) → Gives (marked ring pen p out) last o →
      (r : Pen) → r ≡ with_raw last p → Gives (drawn_by b ring pen p out) r o
  unfolding drawn_by
  draw_inside t e h last o g r k =
      let f : (outside b pen.raw || outside b p) ≡ false = sym e ∙ h in
      let n : ends b pen.raw p ≡ [] = sym (stays (record { p0 = pen.raw; p1 = p }) _ (ap (λ (c : ClippedSeg). c.seg) (inside_same (record { p0 = pen.raw; p1 = p }) b (outside b pen.raw) (outside b p) refl refl (ap not f)))) in
      let g' : Gives (marked ring pen (clamped b p) out) last o = subst (λ (x : Pt). Gives (marked ring pen x out) last o) (sym (clamped_inside b p (neither (outside b pen.raw) (outside b p) f).1)) g in
      rw n (record { answer = k ∙ ap (λ (x : Pen). with_raw x p) g'.answer; memory = g'.memory })

  module _ (h : is_good b ≡ true) (e : Ends) (c : e ≡ moved_by pen.raw p (clip b (record { p0 = pen.raw; p1 = p })).seg) where
    maybe_in : (t : Bool) (q : Pt) → is_coord q ≡ true → in_limit (maybe t q) ≡ true
    maybe_in true q c = c
    maybe_in false q c = refl

    cut_coords : are_coords (record { p0 = pen.raw; p1 = p }) ≡ true → (in_limit e.end0 ≡ true) × (in_limit e.end1 ≡ true)
    cut_coords x =
        let cut = (clip b (record { p0 = pen.raw; p1 = p })).seg in
        let (c0, c1) = both (is_coord cut.p0) (is_coord cut.p1) (clip_within b (record { p0 = pen.raw; p1 = p }) h x) in
        rw c (maybe_in (not (same_pt pen.raw cut.p0)) cut.p0 c0, maybe_in (not (same_pt p cut.p1)) cut.p1 c1)

    pub ends_asked : (n : ℕ) → Able 6 pen n → are_coords (record { p0 = pen.raw; p1 = p }) ≡ true → Able 4 pen n × ((in_limit e.end0 ≡ true) × (in_limit e.end1 ≡ true))
    ends_asked n a x = (less {m = 6} (omega arith) a, cut_coords x)

    module _ (after : Pen) (o : List ℕ) (g : Gives (marked_ends ring pen e out) after o) where
      pub cut_asked : are_coords (record { p0 = pen.raw; p1 = p }) ≡ true → Able 6 pen (length out) → length o ≡ length out → (q : Pt) → q ≡ clamped b p → Able 2 after (length o) × Coord q
      cut_asked x a l q f =
          let (c0, c1) = cut_coords x in
          let r : Able 2 after (length out) = subst (λ (x : Pen). Able 2 x (length out)) (sym g.answer) (ends_able 2 (length out) ring pen a e out c0 c1) in
          (rw l r, made_coord b p q h f)

      pub draw_cut : (q : Pt) → q ≡ clamped b p → (last : Pen) (m : List ℕ) → Gives (marked ring after q o) last m → (r : Pen) → r ≡ with_raw last p → Gives (drawn_by b ring pen p out) r m
      unfolding drawn_by
      draw_cut q f last m d r k =
          let d' : Gives (marked ring after (clamped b p) o) last m = subst (λ (x : Pt). Gives (marked ring after x o) last m) f d in
          let v : marks b ring pen (ends b pen.raw p) out ≡ kept after o =
          ends_is b ring pen (record { p0 = pen.raw; p1 = p }) out h ∙ ap (λ (x : Ends). marked_ends ring pen x out) (sym c) ∙ (λ i. kept (sym g.answer i) (sym g.memory i)) in
          let w : marks b ring pen (ends b pen.raw p ++ (p ∷ [])) out ≡ marked ring after (clamped b p) o =
          marks_then b ring (ends b pen.raw p) (p ∷ []) pen out ∙ ap (λ (x : Written Pen (List ℕ)). marks b ring x.answer (p ∷ []) x.memory) v in
          rw w (record { answer = k ∙ ap (λ (x : Pen). with_raw x p) d'.answer; memory = d'.memory })

-- ---- a pen's emission is the state's
abbrev emission_of : GeomEncoder → Mark → Emission
emission_of s m = record { next = state_of s m.pen; at = m.at; run = m.run }

-- enough is used to take a point out
pub record Begun (pen : Pen) : Type 0 where
  pub two : 2 ≤ pen.count
  pub some : 2 ≤ pen.used

no_command : (kind count : ℕ) → 2 ≤ count → command kind count ≡ []
no_command kind count h = rw (ne_eqb count 0 (λ e. omega arith), ne_eqb count 1 (λ e. omega arith))

begun_next : (ring : Bool) (pen : Pen) (q : Pt) (out : List ℕ) → Begun pen → Begun (marked ring pen q out).answer
unfolding marked
begun_next ring pen q out B = by (same_pt pen.pt1 q) (ring && between pen.pt0 pen.pt1 q)
  where
    by : (t u : Bool) → Begun (cond t (still pen) (onward (cond u (taken pen) pen) q)).pen
    by true u = record { two = B.two; some = B.some }
    by false true = record { two = omega (arith, B.two); some = omega arith }
    by false false = record { two = omega (arith, B.two); some = omega (arith, B.some) }

marks_begun : (b : BBox) (ring : Bool) (ps : List Pt) (pen : Pen) (out : List ℕ) → Begun pen → Begun (marks b ring pen ps out).answer
marks_begun b ring [] pen out B = B
marks_begun b ring (p ∷ ps) pen out B = marks_begun b ring ps (marked ring pen (clamped b p) out).answer (marked ring pen (clamped b p) out).memory (begun_next ring pen (clamped b p) out B)

pub drawn_raw : (b : BBox) (ring : Bool) (pen : Pen) (p : Pt) (out : List ℕ) → (drawn_by b ring pen p out).answer.raw ≡ p
unfolding drawn_by
drawn_raw b ring pen p out = refl

pub drawn_begun : (b : BBox) (ring : Bool) (pen : Pen) (p : Pt) (out : List ℕ) → Begun pen → 2 ≤ (drawn_by b ring pen p out).answer.count
unfolding drawn_by
drawn_begun b ring pen p out B = (marks_begun b ring (ends b pen.raw p ++ (p ∷ [])) pen out B).two

module _ (s : GeomEncoder) where
  mark_is : (pen : Pen) (q : Pt) → Begun pen → emitted_at (state_of s pen) q ≡ emission_of s (mark (eqb s.kind 3) pen q)
  mark_is pen q B =
      let n = no_command s.kind pen.count B.two in
      let z : eqb pen.count 0 ≡ false = ne_eqb pen.count 0 (λ e. omega (arith, B.two)) in
      let l : leb 2 pen.count ≡ true = le-leb 2 pen.count B.two in
      rw (n, z, l) (by (same_pt pen.pt1 q) (eqb s.kind 3) (between pen.pt0 pen.pt1 q))
    where
      by : (t k w : Bool) → cond t (record { next = state_of s (again pen); at = pen.used; run = [] }) (pushed [] (cond (k && true && w) (popped (state_of s pen)) (state_of s pen)) q)
          ≡ emission_of s (cond t (still pen) (onward (cond (k && w) (taken pen) pen) q))
      by true k w = refl
      by false true true = refl
      by false true false = refl
      by false false w = refl

  abbrev pub lifted : Written Pen (List ℕ) → Written GeomEncoder (List ℕ)
  lifted w = record { answer = state_of s w.answer; memory = w.memory }

  pub marks_emitted : (ps : List Pt) (pen : Pen) (out : List ℕ) → Begun pen → emitted (state_of s pen) ps out ≡ lifted (marks s.bbox (eqb s.kind 3) pen ps out)
  unfolding emission marked
  marks_emitted [] pen out B = refl
  marks_emitted (p ∷ ps) pen out B =
      let q = clamped s.bbox p in
      ap (λ (e : Emission). emitted e.next ps (lay e.at e.run out)) (mark_is pen q B) ∙
      marks_emitted ps (marked (eqb s.kind 3) pen q out).answer (marked (eqb s.kind 3) pen q out).memory (begun_next (eqb s.kind 3) pen q out B)

-- ---- each emission is a vertex more, a point skipped or one taken out
marked_sum : (ring : Bool) (pen : Pen) (q : Pt) (out : List ℕ) → Begun pen → emissions_by (marked ring pen q out).answer ≡ emissions_by pen + 1
unfolding marked
marked_sum ring pen q out B = by (same_pt pen.pt1 q) (ring && between pen.pt0 pen.pt1 q)
  where
    by : (t u : Bool) → emissions_by (cond t (still pen) (onward (cond u (taken pen) pen) q)).pen ≡ emissions_by pen + 1
    by true u = omega arith
    by false true = omega (arith, B.two)
    by false false = omega arith

marks_sum : (b : BBox) (ring : Bool) (ps : List Pt) (pen : Pen) (out : List ℕ) → Begun pen → emissions_by (marks b ring pen ps out).answer ≡ emissions_by pen + length ps
marks_sum b ring [] pen out B = omega arith
marks_sum b ring (p ∷ ps) pen out B =
    let m = marked ring pen (clamped b p) out in
    omega (arith, marks_sum b ring ps m.answer m.memory (begun_next ring pen (clamped b p) out B), marked_sum ring pen (clamped b p) out B)

pub drawn_sum : (b : BBox) (ring : Bool) (pen : Pen) (p : Pt) (out : List ℕ) → Begun pen → emissions_by (drawn_by b ring pen p out).answer ≡ emissions_by pen + length (ends b pen.raw p) + 1
unfolding drawn_by
drawn_sum b ring pen p out B =
    let n : length (ends b pen.raw p ++ (p ∷ [])) ≡ length (ends b pen.raw p) + 1 = length-append (ends b pen.raw p) (p ∷ []) in
    omega (arith, marks_sum b ring (ends b pen.raw p ++ (p ∷ [])) pen out B)

-- ---- at most two words for each emission
marked_used : (ring : Bool) (pen : Pen) (q : Pt) (out : List ℕ) → (marked ring pen q out).answer.used ≤ pen.used + 2
unfolding marked
marked_used ring pen q out = by (same_pt pen.pt1 q) (ring && between pen.pt0 pen.pt1 q)
  where
    by : (t u : Bool) → (cond t (still pen) (onward (cond u (taken pen) pen) q)).pen.used ≤ pen.used + 2
    by true u = omega arith
    by false true = let h : pen.used - 2 + 2 ≤ pen.used + 2 = omega arith in h
    by false false = omega arith

marks_used : (b : BBox) (ring : Bool) (ps : List Pt) (pen : Pen) (out : List ℕ) → (marks b ring pen ps out).answer.used ≤ pen.used + 2 * length ps
marks_used b ring [] pen out = omega arith
marks_used b ring (p ∷ ps) pen out =
    let h = marked_used ring pen (clamped b p) out in
    let k = marks_used b ring ps (marked ring pen (clamped b p) out).answer (marked ring pen (clamped b p) out).memory in
    omega arith

pub ends_two : (b : BBox) (raw p : Pt) → length (ends b raw p) ≤ 2
ends_two b raw p = moved_two (record { p0 = raw; p1 = p }) (clip b (record { p0 = raw; p1 = p })).seg

-- ---- at most one point lost for each emission
marked_lost : (ring : Bool) (pen : Pen) (q : Pt) (out : List ℕ) → (marked ring pen q out).answer.skipped + (marked ring pen q out).answer.taken_out ≤ pen.skipped + pen.taken_out + 1
unfolding marked
marked_lost ring pen q out = by (same_pt pen.pt1 q) (ring && between pen.pt0 pen.pt1 q)
  where
    by : (t u : Bool) → (cond t (still pen) (onward (cond u (taken pen) pen) q)).pen.skipped + (cond t (still pen) (onward (cond u (taken pen) pen) q)).pen.taken_out ≤ pen.skipped + pen.taken_out + 1
    by true u = omega arith
    by false true = omega arith
    by false false = omega arith

marks_lost : (b : BBox) (ring : Bool) (ps : List Pt) (pen : Pen) (out : List ℕ) → (marks b ring pen ps out).answer.skipped + (marks b ring pen ps out).answer.taken_out ≤ pen.skipped + pen.taken_out + length ps
marks_lost b ring [] pen out = omega arith
marks_lost b ring (p ∷ ps) pen out =
    let h = marked_lost ring pen (clamped b p) out in
    let k = marks_lost b ring ps (marked ring pen (clamped b p) out).answer (marked ring pen (clamped b p) out).memory in
    omega arith

pub drawn_lost : (b : BBox) (ring : Bool) (pen : Pen) (p : Pt) (out : List ℕ) → (drawn_by b ring pen p out).answer.skipped + (drawn_by b ring pen p out).answer.taken_out ≤ pen.skipped + pen.taken_out + 3
unfolding drawn_by
drawn_lost b ring pen p out =
    let n : length (ends b pen.raw p ++ (p ∷ [])) ≡ length (ends b pen.raw p) + 1 = length-append (ends b pen.raw p) (p ∷ []) in
    omega (arith, marks_lost b ring (ends b pen.raw p ++ (p ∷ [])) pen out, ends_two b pen.raw p)

pub drawn_used : (b : BBox) (ring : Bool) (pen : Pen) (p : Pt) (out : List ℕ) → (drawn_by b ring pen p out).answer.used ≤ pen.used + 6
unfolding drawn_by
drawn_used b ring pen p out =
    let n : length (ends b pen.raw p ++ (p ∷ [])) ≡ length (ends b pen.raw p) + 1 = length-append (ends b pen.raw p) (p ∷ []) in
    omega (arith, marks_used b ring (ends b pen.raw p ++ (p ∷ [])) pen out, ends_two b pen.raw p)

-- ---- two stores
pub steps_laid : (l : List ℕ) (at : ℕ) (p q : Pt) (a b : ℕ) → at + 2 ≤ length l → a ≡ param (q.x -ℤ p.x) → b ≡ param (q.y -ℤ p.y) → set (set l at a) (at + 1) b ≡ lay at (steps p q) l
steps_laid l at p q a b h e f = two_stores l at a b h ∙ rw (e, f)
