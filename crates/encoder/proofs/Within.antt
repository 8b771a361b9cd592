-- An accepted job uses no more words than its list has.
use mathlib.Core.Path.{◌≡◌, refl, sym, ap, subst}
use mathlib.Core.Bool.{Bool, true, false, cond}
use mathlib.Core.List.{List, [], ◌∷◌}
use Prim.Native.Nat.{ℕ, ◌≤◌}
use native.Mathlib.Omega.{arith}
use borrow.Author.Tests.{eqb-true, eqb-false}
use lib.Dec.{leb, eqb}
use lib.IntN.{ℤ}
use lib.ListN.{length}
use Rattle.promise.specs.Answers.{Written, kept}
use Rattle.refusal.specs.declared.Refusal.TheVariants.{Job, Kind, Box, State, Coord, Empty, Room}
use Rattle.refusal.specs.Said.{Said, accepted, refused}
use Rattle.refusal.proofs.Laws.{never_both}
use Rattle.clip.specs.declared.Pt.{Pt}
use Rattle.clip.specs.declared.BBox.{BBox}
use Rattle.clip.specs.Domain.{is_coord, is_good}
use Rattle.words.specs.Geometries.{is_kind, room}
use Rattle.encoder.specs.declared.GeomEncoder.{GeomEncoder}
use Rattle.encoder.specs.States.{fresh, valid, Sound}
use Rattle.encoder.specs.Answers.{Counted, done, turned, fitting, roomy}
use Rattle.encoder.specs.Tallies.{counts_fit}
use Rattle.encoder.specs.Adding.{drawn, added}
use Rattle.encoder.specs.Completing.{is_empty, closed, completed}
use Rattle.encoder.specs.Calls.{Call, add, complete, call}
use Rattle.words.proofs.Rooms.{room_length}
use Rattle.encoder.proofs.Courses.{never_on, same_state}
use Rattle.encoder.proofs.Reached.{fresh_sound, add_sound, complete_sound}
use Rattle.encoder.specs.Jobs.{on, off, points_of, is_job, job_calls, taken, stopped, go, outcome, run, encoded_job}

-- ---- a call whose number is zero says that it is done
abbrev pub Answered : Type 0
Answered = Written (Said Counted) (List ℕ)

abbrev pub IsDone : Answered → Type 0
IsDone w = w ≡ kept (done w.answer.values.state) w.memory

fitting_done : (s : GeomEncoder) (out : List ℕ) (w : Written GeomEncoder (List ℕ)) → (fitting s out w).answer.number ≡ 0 → IsDone (fitting s out w)
fitting_done s out w = by (leb w.answer.used (room (length out)))
  where
    by : (b : Bool) → (cond b (record { answer = done w.answer; memory = w.memory }) (kept (turned Room s) out)).answer.number ≡ 0
        → IsDone (cond b (record { answer = done w.answer; memory = w.memory }) (kept (turned Room s) out))
    by true e = refl
    by false e = absurd (omega arith)

roomy_done : (s : GeomEncoder) (out : List ℕ) (w : Written GeomEncoder (List ℕ)) → (roomy s out w).answer.number ≡ 0 → IsDone (roomy s out w)
roomy_done s out w = by (counts_fit w.answer.tally)
  where
    by : (b : Bool) → (cond b (fitting s out w) (kept (turned Room s) out)).answer.number ≡ 0 → IsDone (cond b (fitting s out w) (kept (turned Room s) out))
    by true e = fitting_done s out w e
    by false e = absurd (omega arith)

added_done : (s : GeomEncoder) (p : Pt) (out : List ℕ) → (added s p out).answer.number ≡ 0 → IsDone (added s p out)
unfolding added
added_done s p out = by (valid s (length out)) (is_coord p)
  where
    by : (b c : Bool) → (cond b (cond c (roomy s out (drawn s p out)) (kept (turned Coord s) out)) (kept (turned State s) out)).answer.number ≡ 0
        → IsDone (cond b (cond c (roomy s out (drawn s p out)) (kept (turned Coord s) out)) (kept (turned State s) out))
    by true true e = roomy_done s out (drawn s p out) e
    by true false e = absurd (omega arith)
    by false c e = absurd (omega arith)

completed_done : (s : GeomEncoder) (out : List ℕ) → (completed s out).answer.number ≡ 0 → IsDone (completed s out)
unfolding completed
completed_done s out = by (valid s (length out)) (is_empty s)
  where
    by : (b c : Bool) → (cond b (cond c (kept (turned Empty s) out) (fitting s out (closed s out))) (kept (turned State s) out)).answer.number ≡ 0
        → IsDone (cond b (cond c (kept (turned Empty s) out) (fitting s out (closed s out))) (kept (turned State s) out))
    by true true e = absurd (omega arith)
    by true false e = fitting_done s out (closed s out) e
    by false c e = absurd (omega arith)

pub call_done : (c : Call) (s : GeomEncoder) (out : List ℕ) → (call c s out).answer.number ≡ 0 → IsDone (call c s out)
call_done (add p) s out e = added_done s p out e
call_done complete s out e = completed_done s out e

-- so it keeps the state sound, and the list its length
sound_call : (c : Call) (s : GeomEncoder) (out : List ℕ) → Sound s (length out) → (call c s out).answer.number ≡ 0
    → Sound (call c s out).answer.values.state (length (call c s out).memory) × (length (call c s out).memory ≡ length out)
sound_call (add p) s out S e = add_sound s p out _ _ S (added_done s p out e)
sound_call complete s out S e = complete_sound s out _ _ S (completed_done s out e)

-- ---- calls in order
pub go_sound : (cs : List Call) (n : ℕ) (s : GeomEncoder) (out : List ℕ) → Sound s (length out) → (m : ℕ) (t : GeomEncoder) → (go cs n s out).answer ≡ on m t → Sound t (length (go cs n s out).memory)
go_sound [] n s out S m t e = subst (λ (x : GeomEncoder). Sound x (length out)) (same_state e) S
go_sound (c ∷ cs) n s out S m t e =
    by (eqb (call c s out).answer.number 0) refl (λ T. go_sound cs (taken c n) (call c s out).answer.values.state (call c s out).memory T m t) e
  where
    by : (b : Bool) → eqb (call c s out).answer.number 0 ≡ b
        → (Sound (call c s out).answer.values.state (length (call c s out).memory)
        → (go cs (taken c n) (call c s out).answer.values.state (call c s out).memory).answer ≡ on m t → Sound t (length (go cs (taken c n) (call c s out).answer.values.state (call c s out).memory).memory))
        → (cond b (go cs (taken c n) (call c s out).answer.values.state (call c s out).memory) (kept (off (stopped n (call c s out).answer)) out)).answer ≡ on m t
        → Sound t (length (cond b (go cs (taken c n) (call c s out).answer.values.state (call c s out).memory) (kept (off (stopped n (call c s out).answer)) out)).memory)
    by true f r g = r (sound_call c s out S (eqb-true (call c s out).answer.number 0 f)).0 g
    by false f r g = absurd (never_on g)

within : (cs : List Call) (n : ℕ) (s : GeomEncoder) (out : List ℕ) → Sound s (length out) → (k : ℕ) → outcome (go cs n s out).answer ≡ accepted k → k ≤ length out
within [] n s out S k e =
    let u : s.used ≡ k = ap (λ (a : Said ℕ). a.values) e in
    omega (arith, S.valid.fits, room_length (length out))
within (c ∷ cs) n s out S k e =
    by (eqb (call c s out).answer.number 0) refl (λ T. within cs (taken c n) (call c s out).answer.values.state (call c s out).memory T k) e
  where
    by : (b : Bool) → eqb (call c s out).answer.number 0 ≡ b
        → (Sound (call c s out).answer.values.state (length (call c s out).memory)
        → outcome (go cs (taken c n) (call c s out).answer.values.state (call c s out).memory).answer ≡ accepted k → k ≤ length (call c s out).memory)
        → outcome (cond b (go cs (taken c n) (call c s out).answer.values.state (call c s out).memory) (kept (off (stopped n (call c s out).answer)) out)).answer ≡ accepted k → k ≤ length out
    by true f r g =
        let T = sound_call c s out S (eqb-true (call c s out).answer.number 0 f) in
        omega (arith, r T.0 g, T.1)
    by false f r g = absurd (eqb-false (call c s out).answer.number 0 f (ap (λ (a : Said ℕ). a.number) g))

pub encoded_within : (kind : ℕ) (bbox : BBox) (points : List ℤ) (ends out : List ℕ) (k : ℕ) → (encoded_job kind bbox points ends out).answer ≡ accepted k → k ≤ length out
unfolding encoded_job
encoded_within kind bbox points ends out k = by (is_job points ends) (is_kind kind) (is_good bbox) refl refl
  where
    by : (a b c : Bool) → is_kind kind ≡ b → is_good bbox ≡ c
        → (cond a (cond b (cond c (run (job_calls (points_of points) 0 ends) (fresh kind bbox) out) (kept (refused Box 0) out)) (kept (refused Kind 0) out)) (kept (refused Job 0) out)).answer ≡ accepted k
        → k ≤ length out
    by false b c f g e = absurd (never_both Job (sym e))
    by true false c f g e = absurd (never_both Kind (sym e))
    by true true false f g e = absurd (never_both Box (sym e))
    by true true true f g e = within (job_calls (points_of points) 0 ends) 0 (fresh kind bbox) out (fresh_sound kind bbox (length out) f g) k e
