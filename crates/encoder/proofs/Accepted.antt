-- What an accepted call tells: the checks that it passed, and the state and the list that it leaves.
--     added_accepted completed_accepted
--     refused_keeps                        a refused call writes nowhere
--     emitted_run                          what a run of emissions keeps: kind, box, raw end, readiness, the list's length
--     emitted_lost                         what it loses: at most one point an emission
use mathlib.Core.Path.{◌≡◌, refl, sym, ◌∙◌, ap}
use mathlib.Core.Bool.{Bool, true, false, cond}
use mathlib.Core.List.{List, [], ◌∷◌}
use Prim.Native.Nat.{ℕ, ◌+◌, ◌≤◌}
use native.Mathlib.Omega.{arith}
use borrow.Author.Tests.{leb-true}
use lib.Dec.{leb}
use lib.ListN.{length}
use Rattle.promise.specs.Answers.{Written, kept}
use Rattle.promise.specs.Laid.{lay}
use Rattle.promise.proofs.Laying.{length_lay}
use Rattle.refusal.specs.declared.Refusal.{Refusal}
use Rattle.refusal.specs.declared.Refusal.TheVariants.{State, Coord, Empty, Room}
use Rattle.refusal.specs.Said.{Said}
use Rattle.refusal.proofs.Laws.{never_both}
use Rattle.clip.specs.declared.Pt.{Pt}
use Rattle.clip.specs.Domain.{is_coord}
use Rattle.words.specs.Geometries.{room}
use Rattle.encoder.specs.declared.GeomEncoder.{GeomEncoder}
use Rattle.encoder.specs.States.{valid}
use Rattle.encoder.specs.Answers.{Counted, done, turned, fitting, roomy}
use Rattle.encoder.specs.Tallies.{counts_fit}
use Rattle.encoder.specs.Emitting.{Emission, emission}
use Rattle.encoder.specs.Adding.{emitted, drawn, added}
use Rattle.encoder.specs.Completing.{is_empty, closed, completed}
use Rattle.encoder.specs.Calls.{Call, add, complete, call}
use Rattle.encoder.specs.Planning.{Ready}
use Rattle.encoder.proofs.Steps.{emission_step, emission_cases}

abbrev Answered : Type 0
Answered = Written (Said Counted) (List ℕ)

-- a refused answer is no accepted one
refused_not : {X : Type 0} (r : Refusal) (s t : GeomEncoder) (out l : List ℕ) → kept (turned r s) out ≡ kept (done t) l → X
refused_not r s t out l e = absurd (never_both r (sym (ap (λ (w : Answered). w.answer) e)))

-- the result w fits, and is what the call leaves
pub record Fits (w : Written GeomEncoder (List ℕ)) (out : List ℕ) (t : GeomEncoder) (l : List ℕ) : Type 0 where
  pub room : w.answer.used ≤ room (length out)
  pub state : t ≡ w.answer
  pub list : l ≡ w.memory

fitting_accepted : (s t : GeomEncoder) (out l : List ℕ) (w : Written GeomEncoder (List ℕ)) → fitting s out w ≡ kept (done t) l → Fits w out t l
fitting_accepted s t out l w = by (leb w.answer.used (room (length out))) refl
  where
    by : (b : Bool) → leb w.answer.used (room (length out)) ≡ b → cond b (record { answer = done w.answer; memory = w.memory }) (kept (turned Room s) out) ≡ kept (done t) l → Fits w out t l
    by true f e = record {
      room = leb-true w.answer.used (room (length out)) f;
      state = sym (ap (λ (x : Answered). x.answer.values.state) e);
      list = sym (ap (λ (x : Answered). x.memory) e);
    }
    by false f e = refused_not Room s t out l e

pub record AddAccepted (s : GeomEncoder) (p : Pt) (out : List ℕ) (t : GeomEncoder) (l : List ℕ) : Type 0 where
  pub valid : valid s (length out) ≡ true
  pub coord : is_coord p ≡ true
  pub counts : counts_fit (drawn s p out).answer.tally ≡ true
  pub fits : Fits (drawn s p out) out t l

module _ (s : GeomEncoder) (p : Pt) (out : List ℕ) (t : GeomEncoder) (l : List ℕ) where
  by_counts : valid s (length out) ≡ true → is_coord p ≡ true → (n : Bool) → counts_fit (drawn s p out).answer.tally ≡ n → cond n (fitting s out (drawn s p out)) (kept (turned Room s) out) ≡ kept (done t) l → AddAccepted s p out t l
  by_counts v f true g e = record { valid = v; coord = f; counts = g; fits = fitting_accepted s t out l (drawn s p out) e }
  by_counts v f false g e = refused_not Room s t out l e

  by_coord : valid s (length out) ≡ true → (c : Bool) → is_coord p ≡ c → cond c (roomy s out (drawn s p out)) (kept (turned Coord s) out) ≡ kept (done t) l → AddAccepted s p out t l
  by_coord v true f e = by_counts v f (counts_fit (drawn s p out).answer.tally) refl e
  by_coord v false f e = refused_not Coord s t out l e

  by_valid : (b : Bool) → valid s (length out) ≡ b → cond b (cond (is_coord p) (roomy s out (drawn s p out)) (kept (turned Coord s) out)) (kept (turned State s) out) ≡ kept (done t) l → AddAccepted s p out t l
  by_valid true v e = by_coord v (is_coord p) refl e
  by_valid false v e = refused_not State s t out l e

  pub added_accepted : added s p out ≡ kept (done t) l → AddAccepted s p out t l
  unfolding added
  added_accepted e = by_valid (valid s (length out)) refl e

pub record EndAccepted (s : GeomEncoder) (out : List ℕ) (t : GeomEncoder) (l : List ℕ) : Type 0 where
  pub valid : valid s (length out) ≡ true
  pub some : is_empty s ≡ false
  pub fits : Fits (closed s out) out t l

module _ (s : GeomEncoder) (out : List ℕ) (t : GeomEncoder) (l : List ℕ) where
  by_empty : valid s (length out) ≡ true → (b : Bool) → is_empty s ≡ b → cond b (kept (turned Empty s) out) (fitting s out (closed s out)) ≡ kept (done t) l → EndAccepted s out t l
  by_empty v true f e = refused_not Empty s t out l e
  by_empty v false f e = record { valid = v; some = f; fits = fitting_accepted s t out l (closed s out) e }

  by_state : (b : Bool) → valid s (length out) ≡ b → cond b (cond (is_empty s) (kept (turned Empty s) out) (fitting s out (closed s out))) (kept (turned State s) out) ≡ kept (done t) l → EndAccepted s out t l
  by_state true v e = by_empty v (is_empty s) refl e
  by_state false v e = refused_not State s t out l e

  pub completed_accepted : completed s out ≡ kept (done t) l → EndAccepted s out t l
  unfolding completed
  completed_accepted e = by_state (valid s (length out)) refl e

-- ---- a run of emissions
pub same_emission : (s : GeomEncoder) (p : Pt) → ((emission s p).next.kind ≡ s.kind) × ((emission s p).next.xy_end ≡ s.xy_end)
same_emission s p = emission_cases (λ (e : Emission). (e.next.kind ≡ s.kind) × (e.next.xy_end ≡ s.xy_end)) s p (λ e. (refl, refl)) (λ e. (refl, refl)) (refl, refl)

pub record Run (n : ℕ) (s : GeomEncoder) (out : List ℕ) (w : Written GeomEncoder (List ℕ)) : Type 0 where
  pub kind : w.answer.kind ≡ s.kind
  pub end : w.answer.xy_end ≡ s.xy_end
  pub grows : s.used ≤ w.answer.used
  pub ready : Ready n w.answer
  pub long : w.answer.used ≤ length out → length w.memory ≡ length out

-- so many words more for so many emissions
abbrev pub after : List Pt → ℕ → ℕ
after [] n = n
after (p ∷ ps) n = after ps (n + 3)

pub emitted_run : (n : ℕ) (s : GeomEncoder) (ps : List Pt) (out : List ℕ) → Ready n s → Run (after ps n) s out (emitted s ps out)
emitted_run n s [] out R = record { kind = refl; end = refl; grows = omega arith; ready = R; long = λ h. refl }
emitted_run n s (p ∷ ps) out R =
    let S = emission_step n s R p in
    let e = emission s p in
    let I = emitted_run (n + 3) e.next ps (lay e.at e.run out) S.ready in
    let (k, x) = same_emission s p in
    record {
      kind = I.kind ∙ k;
      end = I.end ∙ x;
      grows = omega (arith, S.grows, I.grows);
      ready = I.ready;
      long = λ h.
          let f : e.at + length e.run ≤ length out = omega (arith, S.ends, I.grows) in
          let m : length (lay e.at e.run out) ≡ length out = length_lay e.at e.run out f in
          I.long (omega arith) ∙ m;
    }

-- ---- what it loses: an emission loses at most one point, and counts no other
pub record Lost (n : ℕ) (s t : GeomEncoder) : Type 0 where
  pub taken : t.tally.taken ≡ s.tally.taken
  pub bounds : t.tally.boundary ≡ s.tally.boundary
  pub lost : t.tally.skipped + t.tally.taken_out ≤ s.tally.skipped + s.tally.taken_out + n

emission_lost : (s : GeomEncoder) (p : Pt) → Lost 1 s (emission s p).next
emission_lost s p = emission_cases (λ (e : Emission). Lost 1 s e.next) s p
    (λ e. record { taken = refl; bounds = refl; lost = omega arith })
    (λ e. record { taken = refl; bounds = refl; lost = omega arith })
    (record { taken = refl; bounds = refl; lost = omega arith })

pub emitted_lost : (s : GeomEncoder) (ps : List Pt) (out : List ℕ) → Lost (length ps) s (emitted s ps out).answer
emitted_lost s [] out = record { taken = refl; bounds = refl; lost = omega arith }
emitted_lost s (p ∷ ps) out =
    let E = emission_lost s p in
    let I = emitted_lost (emission s p).next ps (lay (emission s p).at (emission s p).run out) in
    record { taken = I.taken ∙ E.taken; bounds = I.bounds ∙ E.bounds; lost = omega (arith, I.lost, E.lost) }

-- ---- a refused call writes nowhere
fitting_keeps : (s : GeomEncoder) (out : List ℕ) (w : Written GeomEncoder (List ℕ)) → ((fitting s out w).answer.number ≡ 0 → ⊥) → (fitting s out w).memory ≡ out
fitting_keeps s out w = by (leb w.answer.used (room (length out)))
  where
    by : (b : Bool) → ((cond b (record { answer = done w.answer; memory = w.memory }) (kept (turned Room s) out)).answer.number ≡ 0 → ⊥) → (cond b (record { answer = done w.answer; memory = w.memory }) (kept (turned Room s) out)).memory ≡ out
    by true h = absurd (h refl)
    by false h = refl

roomy_keeps : (s : GeomEncoder) (out : List ℕ) (w : Written GeomEncoder (List ℕ)) → ((roomy s out w).answer.number ≡ 0 → ⊥) → (roomy s out w).memory ≡ out
roomy_keeps s out w = by (counts_fit w.answer.tally)
  where
    by : (b : Bool) → ((cond b (fitting s out w) (kept (turned Room s) out)).answer.number ≡ 0 → ⊥) → (cond b (fitting s out w) (kept (turned Room s) out)).memory ≡ out
    by true h = fitting_keeps s out w h
    by false h = refl

added_keeps : (s : GeomEncoder) (p : Pt) (out : List ℕ) → ((added s p out).answer.number ≡ 0 → ⊥) → (added s p out).memory ≡ out
unfolding added
added_keeps s p out = by (valid s (length out)) (is_coord p)
  where
    by : (b c : Bool) → ((cond b (cond c (roomy s out (drawn s p out)) (kept (turned Coord s) out)) (kept (turned State s) out)).answer.number ≡ 0 → ⊥) → (cond b (cond c (roomy s out (drawn s p out)) (kept (turned Coord s) out)) (kept (turned State s) out)).memory ≡ out
    by true true h = roomy_keeps s out (drawn s p out) h
    by true false h = refl
    by false c h = refl

completed_keeps : (s : GeomEncoder) (out : List ℕ) → ((completed s out).answer.number ≡ 0 → ⊥) → (completed s out).memory ≡ out
unfolding completed
completed_keeps s out = by (valid s (length out)) (is_empty s)
  where
    by : (b c : Bool) → ((cond b (cond c (kept (turned Empty s) out) (fitting s out (closed s out))) (kept (turned State s) out)).answer.number ≡ 0 → ⊥) → (cond b (cond c (kept (turned Empty s) out) (fitting s out (closed s out))) (kept (turned State s) out)).memory ≡ out
    by true true h = refl
    by true false h = fitting_keeps s out (closed s out) h
    by false c h = refl

pub refused_keeps : (c : Call) (s : GeomEncoder) (out : List ℕ) → ((call c s out).answer.number ≡ 0 → ⊥) → (call c s out).memory ≡ out
refused_keeps (add p) s out h = added_keeps s p out h
refused_keeps complete s out h = completed_keeps s out h
