-- What a caller may use of a stretch: it is accepted calls one after the other, so what each of them keeps, the stretch keeps.
use mathlib.Core.Path.{◌≡◌, refl, sym, subst}
use mathlib.Core.Bool.{Bool, true, false, cond}
use mathlib.Core.List.{List}
use Prim.Native.Nat.{ℕ, zero, suc, ◌+◌, ◌-◌, ◌*◌, ◌/◌, ◌≤◌, ◌<◌}
use native.Mathlib.Omega.{arith}
use borrow.Author.Tests.{leb-true, leb-false}
use lib.Dec.{leb, eqb}
use lib.IntN.{ℤ}
use lib.ListN.{length}
use Rattle.promise.specs.Answers.{Written, kept}
use Rattle.refusal.specs.Said.{Said}
use Rattle.clip.specs.Domain.{is_coord}
use Rattle.words.specs.Geometries.{room}
use Rattle.encoder.specs.declared.GeomEncoder.{GeomEncoder}
use Rattle.encoder.specs.Answers.{Counted, done}
use Rattle.encoder.specs.Adding.{counted, added}
use Rattle.promise.proofs.Joined.{both}
use Rattle.encoder.specs.declared.pen.Pen.{Pen}
use Rattle.encoder.specs.declared.stretch.Stretch.{Stretch}
use Rattle.encoder.specs.Stretches.{is_start, Ongoing, point_in, spare_of, is_plain, halted, run, last_point, stretched}
use Rattle.number.specs.Least.{smaller}
use Rattle.number.proofs.Least.{smaller_le}
use Rattle.encoder.specs.Tallies.{max_tally}
use Rattle.encoder.specs.States.{Sound}
use Rattle.encoder.specs.Drafts.{draft_of}
use Rattle.encoder.specs.Pens.{pen_of, state_of, drawn_by}
use Rattle.encoder.proofs.Tests.{pen_whole}
use Rattle.encoder.proofs.Plain.{ongoing_start, brings, next_is}
use Rattle.encoder.proofs.Marks.{ends_two}

abbrev Answered : Type 0
Answered = Written (Said Counted) (List ℕ)

module _ (l : List ℤ) (end : ℕ) (P : ℕ → GeomEncoder → List ℕ → Type 0)
    (step : (i : ℕ) (s t : GeomEncoder) (out m : List ℕ) → i < end → added s (point_in l i) out ≡ kept (done t) m → length m ≡ length out → P i s out → P (i + 1) t m) where
  abbrev Ends : Written Stretch (List ℕ) → Type 0
  Ends w = P w.answer.reached w.answer.state w.memory

  abbrev Spare : GeomEncoder → ℕ → Type 0
  Spare s n = 0 < n → s.tally.taken + s.tally.boundary + 3 * n ≤ max_tally

  run_keeps : (s : GeomEncoder) (n i : ℕ) (pen : Pen) (out : List ℕ) → n ≤ end - i → Spare s n → Ongoing s pen (length out) → P i (state_of s pen) out → Ends (run n l i (state_of s pen) out)
  run_keeps s zero i pen out h r O x = x
  run_keeps s (suc n) i pen out h r O x =
      let w = drawn_by s.bbox (eqb s.kind 3) pen (point_in l i) out in
      by (is_plain (state_of s pen) (point_in l i) (length out)) refl
      (run_keeps (counted 1 (brings s pen (point_in l i)) s) n (i + 1) w.answer w.memory (omega arith) (λ z. omega (arith, r (omega arith), ends_two s.bbox pen.raw (point_in l i))))
    where
      by : (b : Bool) → is_plain (state_of s pen) (point_in l i) (length out) ≡ b →
          (Ongoing (counted 1 (brings s pen (point_in l i)) s) (drawn_by s.bbox (eqb s.kind 3) pen (point_in l i) out).answer (length (drawn_by s.bbox (eqb s.kind 3) pen (point_in l i) out).memory) →
          P (i + 1) (state_of (counted 1 (brings s pen (point_in l i)) s) (drawn_by s.bbox (eqb s.kind 3) pen (point_in l i) out).answer) (drawn_by s.bbox (eqb s.kind 3) pen (point_in l i) out).memory →
          Ends (run n l (i + 1) (state_of (counted 1 (brings s pen (point_in l i)) s) (drawn_by s.bbox (eqb s.kind 3) pen (point_in l i) out).answer) (drawn_by s.bbox (eqb s.kind 3) pen (point_in l i) out).memory)) →
          Ends (cond b (run n l (i + 1) (added (state_of s pen) (point_in l i) out).answer.values.state (added (state_of s pen) (point_in l i) out).memory) (kept (halted (state_of s pen) i) out))
      by true e go =
          let w = drawn_by s.bbox (eqb s.kind 3) pen (point_in l i) out in
          let (a, f) = both (leb (pen.used + 6) (room (length out))) (is_coord (point_in l i)) e in
          let N = next_is s pen (point_in l i) out O f (leb-true (pen.used + 6) (room (length out)) a) (omega (arith, r (omega arith))) in
          subst (λ (a : Answered). Ends (run n l (i + 1) a.answer.values.state a.memory)) (sym N.accepted)
          (go N.ongoing (step i (state_of s pen) (state_of (counted 1 (brings s pen (point_in l i)) s) w.answer) out w.memory (omega arith) N.accepted N.long x))
      by false e go = x

last_before : (n to : ℕ) → last_point n to ≤ to
last_before n to = by (leb to (n / 2)) refl
  where
    by : (b : Bool) → leb to (n / 2) ≡ b → cond b to (n / 2) ≤ to
    by true e = omega arith
    by false e = omega (arith, leb-false to (n / 2) e)

-- whatever holds of the place, the state and the list at the start, and is kept by each accepted point before `to`, holds at the end
pub stretch_keeps : (l : List ℤ) (to : ℕ) (P : ℕ → GeomEncoder → List ℕ → Type 0) →
    ((i : ℕ) (s t : GeomEncoder) (out m : List ℕ) → i < to → added s (point_in l i) out ≡ kept (done t) m → length m ≡ length out → P i s out → P (i + 1) t m) →
    (s : GeomEncoder) (from : ℕ) (out : List ℕ) → Sound s (length out) → P from s out → P (stretched s l from to out).answer.reached (stretched s l from to out).answer.state (stretched s l from to out).memory
unfolding stretched
stretch_keeps l to P step s from out S x = by (is_start (draft_of s)) refl
  where
    step' : (i : ℕ) (s t : GeomEncoder) (out m : List ℕ) → i < last_point (length l) to → added s (point_in l i) out ≡ kept (done t) m → length m ≡ length out → P i s out → P (i + 1) t m
    step' i s t out m h = step i s t out m (omega (arith, last_before (length l) to))

    by : (b : Bool) → is_start (draft_of s) ≡ b → Ends l (last_point (length l) to) P step' (cond b (run (smaller (last_point (length l) to - from) (spare_of s.tally)) l from s out) (kept (halted s from) out))
    by true e =
        let w = pen_whole s e in
        subst (λ (t : GeomEncoder). Ends l (last_point (length l) to) P step' (run (smaller (last_point (length l) to - from) (spare_of s.tally)) l from t out)) w
        (run_keeps l (last_point (length l) to) P step' s (smaller (last_point (length l) to - from) (spare_of s.tally)) from (pen_of s) out (smaller_le (last_point (length l) to - from) (spare_of s.tally)).0
        (λ z. omega (arith, (smaller_le (last_point (length l) to - from) (spare_of s.tally)).1)) (ongoing_start s (length out) S e) (rw w x))
    by false e = x
