-- Laws of a call's plan: what planning and writing ask, and that the plan's drafts and words are those of the point's emissions.
use Rattle.std.specs.Prelude.{Option, Some, None}
use mathlib.Core.Path.{◌≡◌, refl, sym, ◌∙◌, ap, subst}
use mathlib.Core.Bool.{Bool, true, false, not}
use mathlib.Core.List.{List, [], ◌∷◌, ◌++◌}
use Prim.Native.Nat.{ℕ, ◌+◌, ◌≤◌, ◌<◌}
use native.Mathlib.Omega.{arith}
use borrow.Author.Tests.{le-leb, lt-leb}
use lib.Dec.{leb}
use lib.ListN.{length}
use Rattle.promise.specs.Answers.{Gives, kept}
use Rattle.promise.specs.Laid.{lay}
use Rattle.promise.proofs.Cases.{gives_kept}
use Rattle.refusal.specs.declared.Refusal.TheVariants.{Room}
use Rattle.clip.specs.declared.Pt.{Pt}
use Rattle.clip.specs.declared.BBox.{BBox}
use Rattle.clip.specs.Domain.{is_coord, is_good}
use Rattle.clip.proofs.Callers.{coord_is}
use Rattle.words.specs.Geometries.{max_words, room}
use Rattle.encoder.specs.declared.GeomEncoder.{GeomEncoder}
use Rattle.encoder.specs.declared.boundary.Ends.{Ends}
use Rattle.encoder.specs.declared.draft.Draft.{Draft}
use Rattle.encoder.specs.declared.plan.Plan.{Plan}
use Rattle.encoder.specs.States.{valid}
use Rattle.encoder.specs.Answers.{done, turned, roomy}
use Rattle.encoder.specs.Points.{in_limit, clamped}
use Rattle.encoder.specs.Boundary.{Brought}
use Rattle.encoder.specs.Emitting.{Emission, emitted_at, emission}
use Rattle.encoder.specs.Adding.{boundary, emitted, emissions, counted, drawn, ended, edges}
use Rattle.encoder.specs.declared.Edges.{Edges}
use Rattle.encoder.specs.Planning.{emission_if, plan_limit, Ready, Few}
use Rattle.encoder.specs.Tallies.{max_tally, counts_fit}
use Rattle.encoder.specs.Drafts.{draft_of, state_in, taken_by, emitted_if, Near, Planned, Writable, AllFit, laid_all, Alone}
use Rattle.words.proofs.Rooms.{room_length}
use Rattle.encoder.proofs.Tallies.{Counts}
use Rattle.encoder.proofs.States.{yes_of, no_of, valid_facts, valid_ready, counted_ready}
use Rattle.encoder.proofs.Coords.{clamped_coord}
use Rattle.encoder.proofs.Drafting.{whole, taken_state}
use Rattle.encoder.proofs.Steps.{Step, emitted_cases, at_step, if_step, same_box, emitted_three}

more : {n m : ℕ} {s : GeomEncoder} → n ≤ m → Ready n s → Ready m s
more h R = record { few = omega (arith, R.few); counted = R.counted; good = R.good; at0 = R.at0; at1 = R.at1 }

-- an emission loses at most one point
few_after : (n : ℕ) (s : GeomEncoder) (end : Option Pt) → Few (n + 1) s → Few n (emitted_if s end).next
few_after n s (Some q) F = emitted_cases (λ (e : Emission). Few n e.next) s q
    (λ e. record { skips = omega (arith, F.skips); outs = omega (arith, F.outs) })
    (λ e. record { skips = omega (arith, F.skips); outs = omega (arith, F.outs) })
    (record { skips = omega (arith, F.skips); outs = omega (arith, F.outs) })
few_after n s None F = record { skips = omega (arith, F.skips); outs = omega (arith, F.outs) }

fewer : {n m : ℕ} {s : GeomEncoder} → m ≤ n → Few n s → Few m s
fewer h F = record { skips = omega (arith, F.skips); outs = omega (arith, F.outs) }

-- ---- the three steps
module _ (d : Draft) (e : Ends) (q : Pt) (R : Ready max_words (state_in d)) (F : Few 3 (state_in d)) (N : Near e q) where
  ready0 : Ready plan_limit (state_in d)
  ready0 = more (omega arith) R

  step1 : Step max_words (state_in d) (emitted_if (state_in d) e.end0)
  step1 = if_step max_words (state_in d) R e.end0 N.end0

  module _ (first : Draft) (i : state_in first ≡ (emitted_if (state_in d) e.end0).next) where
    ready1' : Ready (max_words + 3) (state_in first)
    ready1' = subst (Ready (max_words + 3)) (sym i) step1.ready

    ready1 : Ready plan_limit (state_in first)
    ready1 = more (omega arith) ready1'

    few1 : Few 2 (state_in first)
    few1 = subst (Few 2) (sym i) (few_after 2 (state_in d) e.end0 F)

    pub asked1 : Ready plan_limit (state_in first) × Few 1 (state_in first)
    asked1 = (ready1, fewer (omega arith) few1)

    step2 : Step (max_words + 3) (state_in first) (emitted_if (state_in first) e.end1)
    step2 = if_step (max_words + 3) (state_in first) ready1' e.end1 N.end1

    module _ (second : Draft) (j : state_in second ≡ (emitted_if (state_in first) e.end1).next) where
      ready2 : Ready plan_limit (state_in second)
      ready2 = more (omega arith) (subst (Ready (max_words + 6)) (sym j) step2.ready)

      pub asked2 : Ready plan_limit (state_in second) × Few 1 (state_in second)
      asked2 = (ready2, subst (Few 1) (sym j) (few_after 1 (state_in first) e.end1 few1))

      step3 : Step plan_limit (state_in second) (emitted_at (state_in second) q)
      step3 = at_step plan_limit (state_in second) ready2 q N.last

module _ (d : Draft) (e : Ends) (q : Pt) (R : Ready max_words (state_in d)) (F : Few 3 (state_in d)) (N : Near e q) (plan : Plan) (P : Planned plan d e q) where
  grows1 : plan.first.pen.used ≤ plan.second.pen.used
  grows1 =
      let u : plan.second.pen.used ≡ (emitted_if (state_in plan.first) e.end1).next.used = ap (λ (s : GeomEncoder). s.used) P.second in
      omega (arith, (step2 d e q R F N plan.first P.first).grows)

  grows2 : plan.second.pen.used ≤ plan.last.pen.used
  grows2 =
      let u : plan.last.pen.used ≡ (emitted_at (state_in plan.second) q).next.used = ap (λ (s : GeomEncoder). s.used) P.last in
      omega (arith, (step3 d e q R F N plan.first P.first plan.second P.second).grows)

  -- what writing asks
  pub all_fit : (n : ℕ) → plan.last.pen.used ≤ n → AllFit d plan e q n
  all_fit n h = record {
    ends = record {
      first = λ c m. record { after = P.first ∙ ap (λ (x : Option Pt). (emitted_if (state_in d) x).next) m; fits = omega (arith, grows1, grows2); ready = ready0 d e q R F N; coord = sym (ap in_limit m) ∙ N.end0 };
      second = λ c m. record { after = P.second ∙ ap (λ (x : Option Pt). (emitted_if (state_in plan.first) x).next) m; fits = omega (arith, grows2); ready = ready1 d e q R F N plan.first P.first; coord = sym (ap in_limit m) ∙ N.end1 };
    };
    last = record { after = P.last; fits = h; ready = ready2 d e q R F N plan.first P.first plan.second P.second; coord = N.last };
  }

-- ---- an end that moved lies in the box, so it is emitted as it is
if_is : (end : Option Pt) (s : GeomEncoder) → ((q : Pt) → end ≡ Some q → clamped s.bbox q ≡ q) → emitted_if s end ≡ emission_if s end
unfolding emission
if_is (Some q) s f = ap (emitted_at s) (sym (f q refl))
if_is None s f = refl

module _ (d : Draft) (p : Pt) (l : List Pt) (e : Ends) (B : Brought d.bbox l e) (q : Pt) (c : q ≡ clamped d.bbox p) (plan : Plan) (P : Planned plan d e q) where
  abbrev e1 : Emission
  e1 = emitted_if (state_in d) e.end0

  abbrev e2 : Emission
  e2 = emitted_if (state_in plan.first) e.end1

  abbrev e3 : Emission
  e3 = emitted_at (state_in plan.second) q

  box1 : (state_in plan.first).bbox ≡ d.bbox
  box1 = ap (λ (s : GeomEncoder). s.bbox) P.first ∙ same_box e.end0 (state_in d)

  box2 : (state_in plan.second).bbox ≡ d.bbox
  box2 = ap (λ (s : GeomEncoder). s.bbox) P.second ∙ same_box e.end1 (state_in plan.first) ∙ box1

  is1 : e1 ≡ emission_if (state_in d) e.end0
  is1 = if_is e.end0 (state_in d) B.in0

  is2 : e2 ≡ emission_if e1.next e.end1
  is2 =
      if_is e.end1 (state_in plan.first) (λ c m. ap (λ (b : BBox). clamped b c) box1 ∙ B.in1 c m) ∙
      ap (λ (s : GeomEncoder). emission_if s e.end1) P.first

  is3 : e3 ≡ emission e2.next p
  unfolding emission
  is3 =
      ap (emitted_at (state_in plan.second)) (c ∙ ap (λ (b : BBox). clamped b p) (sym box2)) ∙
      ap (λ (s : GeomEncoder). emitted_at s (clamped s.bbox p)) P.second

  pub point_planned : (out : List ℕ) → emitted (state_in d) (l ++ (p ∷ [])) out ≡ kept (state_in plan.last) (laid_all d plan e q out)
  point_planned out =
      ap (λ (l : List Pt). emitted (state_in d) (l ++ (p ∷ [])) out) (sym B.list) ∙
      emitted_three (state_in d) e.end0 e.end1 p e1 e2 e3 is1 is2 is3 out ∙
      ap (λ (s : GeomEncoder). kept s (laid_all d plan e q out)) (sym P.last)

-- ---- what `draw` asks of a good state and a coordinate
module _ (s : GeomEncoder) (n : ℕ) (v : valid s n ≡ true) (p : Pt) (x : is_coord p ≡ true) (d : Draft) (h : d ≡ draft_of s) where
  drafted : state_in d ≡ s
  drafted = ap state_in h ∙ whole s

  ready : Ready max_words (state_in d)
  ready = rw drafted (valid_ready (valid_facts s n v))

  -- what the point passes on is reckoned from the draft
  pub edges_drafted : (m : Edges) → m ≡ edges (state_in d) p → m ≡ edges s p
  edges_drafted m f = f ∙ ap (λ (t : GeomEncoder). edges t p) drafted

  pub brought_asked : (is_good d.bbox ≡ true) × ((in_limit (state_in d).xy_end ≡ true) × (is_coord p ≡ true))
  brought_asked = (ready.good, (subst (λ (t : GeomEncoder). in_limit t.xy_end ≡ true) (sym drafted) (valid_facts s n v).end, x))

  -- the counts of a state are numbers of 32 bits
  module _ (k : Counts s.tally) where
    pub take_asked : (d.taken ≤ max_tally) × (d.boundary ≤ max_tally)
    take_asked =
        let a : d.taken ≡ s.tally.taken = ap (λ (x : Draft). x.taken) h in
        let b : d.boundary ≡ s.tally.boundary = ap (λ (x : Draft). x.boundary) h in
        (omega (arith, k.taken), omega (arith, k.bounds))

    module _ (e : Ends) (B : Brought d.bbox (boundary (state_in d) p) e) (q : Pt) (c : q ≡ clamped d.bbox p) (t : Draft) (f : t ≡ taken_by d e) where
      near_in : (end : Option Pt) → ((r : Pt) → end ≡ Some r → clamped d.bbox r ≡ r) → in_limit end ≡ true
      near_in None g = refl
      near_in (Some r) g = subst (λ (o : Pt). is_coord o ≡ true) (g r refl) (coord_is (clamped_coord d.bbox r ready.good))

      near : Near e q
      near = record {
        end0 = near_in e.end0 B.in0;
        end1 = near_in e.end1 B.in1;
        last = rw c (coord_is (clamped_coord d.bbox p ready.good));
      }

      -- the draft with the point counted is the state with the point counted
      taken_is : state_in t ≡ counted 1 (length (boundary s p)) s
      taken_is = ap state_in f ∙ taken_state d e (boundary (state_in d) p) B.list ∙ (λ i. counted 1 (length (boundary (drafted i) p)) (drafted i))

      taken_ready : Ready max_words (state_in t)
      taken_ready = rw taken_is (counted_ready 1 (length (boundary s p)) (valid_ready (valid_facts s n v)))

      taken_few : Few 3 (state_in t)
      taken_few = rw taken_is (record { skips = omega (arith, k.skips); outs = omega (arith, k.outs) })

      -- where no end moved, the point stands alone, and passes on no edge
      pub stands_alone : (e.end0 ≡ None) × (e.end1 ≡ None) → Alone s t p q
      stands_alone h =
          let l : boundary (state_in d) p ≡ [] = sym B.list ∙ rw (h.0, h.1) in
          record {
            taken = taken_is;
            none = ap (λ (x : GeomEncoder). boundary x p) (sym drafted) ∙ l;
            ready = taken_ready;
            few = fewer (omega arith) taken_few;
            at = subst (λ (x : Draft). q ≡ clamped x.bbox p) (sym f) c;
            coord = near.last;
          }

      pub plan_asked : Ready max_words (state_in t) × (Few 3 (state_in t) × Near e q)
      plan_asked = (taken_ready, (taken_few, near))

      module _ (plan : Plan) (P : Planned plan t e q) (out : List ℕ) where
        planned : emitted (counted 1 (length (boundary s p)) s) (emissions s p) out ≡ kept (state_in plan.last) (laid_all t plan e q out)
        planned =
            let B' : Brought t.bbox (boundary (state_in d) p) e = subst (λ (x : Draft). Brought x.bbox (boundary (state_in d) p) e) (sym f) B in
            let c' : q ≡ clamped t.bbox p = subst (λ (x : Draft). q ≡ clamped x.bbox p) (sym f) c in
            (λ i. emitted (sym taken_is i) (boundary (sym drafted i) p ++ (p ∷ [])) out) ∙ point_planned t p (boundary (state_in d) p) e B' q c' plan P out

        module _ (a : Bool) (fit : a ≡ counts_fit (state_in plan.last).tally) where
          pub draw_uncounted : not a ≡ true → Gives (roomy s out (drawn s p out)) (turned Room s) out
          draw_uncounted z = rw (planned, no_of a (counts_fit (state_in plan.last).tally) fit z) (gives_kept (turned Room s) out)

          module _ (z : not a ≡ false) (l : n ≡ length out) (m : ℕ) (y : m ≡ room n) where
            counts : counts_fit (state_in plan.last).tally ≡ true
            counts = yes_of a (counts_fit (state_in plan.last).tally) fit z

            pub draw_room : m < plan.last.pen.used → Gives (roomy s out (drawn s p out)) (turned Room s) out
            draw_room g =
                let b : leb plan.last.pen.used (room (length out)) ≡ false = lt-leb plan.last.pen.used (room (length out)) (rw (← l) (omega arith)) in
                rw (planned, counts, b) (gives_kept (turned Room s) out)

            module _ (g : plan.last.pen.used ≤ m) where
              pub write_asked : AllFit t plan e q n
              write_asked = all_fit t e q taken_ready taken_few near plan P n (omega (arith, room_length n))

              pub end_asked : (o : Draft) → state_in o ≡ ended (state_in plan.last) p → (o.pen.count ≤ plan_limit + 4) × (counts_fit (state_in o).tally ≡ true)
              end_asked o j =
                  let u : o.pen.count ≡ plan.last.pen.count = ap (λ (x : GeomEncoder). x.count) j in
                  let w : plan.last.pen.count ≡ (emitted_at (state_in plan.second) q).next.count = ap (λ (x : GeomEncoder). x.count) P.last in
                  let R = (step3 t e q taken_ready taken_few near plan.first P.first plan.second P.second).ready in
                  (omega (arith, R.counted, R.few), ap (λ (x : GeomEncoder). counts_fit x.tally) j ∙ counts)

              pub draw_done : (o : List ℕ) → o ≡ laid_all t plan e q out → (u : Draft) → state_in u ≡ ended (state_in plan.last) p → (r : GeomEncoder) → r ≡ state_in u → Gives (roomy s out (drawn s p out)) (done r) o
              draw_done o w u j r i =
                  let b : leb plan.last.pen.used (room (length out)) ≡ true = le-leb plan.last.pen.used (room (length out)) (rw (← l) (omega arith)) in
                  rw (planned, counts, b) (record { answer = ap done (i ∙ j); memory = w })

-- ---- a point without boundary points: the one emission
module _ (s : GeomEncoder) (d : Draft) (p q : Pt) (A : Alone s d p q) where
  pub alone_asked : Ready plan_limit (state_in d) × Few 1 (state_in d)
  alone_asked = (more (omega arith) A.ready, A.few)

  module _ (last : Draft) (P : state_in last ≡ (emitted_at (state_in d) q).next) (out : List ℕ) where
    abbrev laid : List ℕ
    laid = lay (emitted_at (state_in d) q).at (emitted_at (state_in d) q).run out

    alone : emitted (counted 1 (length (boundary s p)) s) (emissions s p) out ≡ kept (state_in last) laid
    unfolding emission
    alone =
        (λ i. emitted (sym A.taken i) (A.none i ++ (p ∷ [])) out) ∙
        ap (λ (r : Pt). kept (emitted_at (state_in d) r).next (lay (emitted_at (state_in d) r).at (emitted_at (state_in d) r).run out)) (sym A.at) ∙
        ap (λ (t : GeomEncoder). kept t laid) (sym P)

    module _ (a : Bool) (fit : a ≡ counts_fit (state_in last).tally) where
      pub alone_uncounted : not a ≡ true → Gives (roomy s out (drawn s p out)) (turned Room s) out
      alone_uncounted z = rw (alone, no_of a (counts_fit (state_in last).tally) fit z) (gives_kept (turned Room s) out)

      module _ (z : not a ≡ false) (m : ℕ) (y : m ≡ room (length out)) where
        alone_counts : counts_fit (state_in last).tally ≡ true
        alone_counts = yes_of a (counts_fit (state_in last).tally) fit z

        pub alone_room : m < last.pen.used → Gives (roomy s out (drawn s p out)) (turned Room s) out
        alone_room g =
            let b : leb last.pen.used (room (length out)) ≡ false = lt-leb last.pen.used (room (length out)) (omega arith) in
            rw (alone, alone_counts, b) (gives_kept (turned Room s) out)

        module _ (g : last.pen.used ≤ m) where
          pub alone_writable : Writable d last q (length out)
          alone_writable = record { after = P; fits = omega (arith, room_length (length out)); ready = alone_asked.0; coord = A.coord }

          pub alone_ended : (o : Draft) → state_in o ≡ ended (state_in last) p → (o.pen.count ≤ plan_limit + 4) × (counts_fit (state_in o).tally ≡ true)
          alone_ended o j =
              let u : o.pen.count ≡ last.pen.count = ap (λ (x : GeomEncoder). x.count) j in
              let w : last.pen.count ≡ (emitted_at (state_in d) q).next.count = ap (λ (x : GeomEncoder). x.count) P in
              let R = (at_step max_words (state_in d) A.ready q A.coord).ready in
              (omega (arith, R.counted, R.few), ap (λ (x : GeomEncoder). counts_fit x.tally) j ∙ alone_counts)

          pub alone_done : (o : List ℕ) → o ≡ laid → (u : Draft) → state_in u ≡ ended (state_in last) p → (r : GeomEncoder) → r ≡ state_in u → Gives (roomy s out (drawn s p out)) (done r) o
          alone_done o w u j r i =
              let b : leb last.pen.used (room (length out)) ≡ true = le-leb last.pen.used (room (length out)) (omega arith) in
              rw (alone, alone_counts, b) (record { answer = ap done (i ∙ j); memory = w })
