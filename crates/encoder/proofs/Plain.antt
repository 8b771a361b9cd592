-- A plain point is accepted, and leaves what the pen says.
use mathlib.Core.Path.{◌≡◌, ◌∙◌, ap}
use mathlib.Core.Bool.{true}
use mathlib.Core.List.{List, [], ◌∷◌, ◌++◌}
use Prim.Native.Nat.{ℕ, ◌+◌, ◌≤◌}
use native.Mathlib.Omega.{arith}
use borrow.Author.Tests.{le-leb, ne_eqb}
use lib.Dec.{eqb}
use lib.ListN.{length}
use Rattle.promise.specs.Answers.{Written, kept}
use Rattle.clip.specs.declared.Pt.{Pt}
use Rattle.clip.specs.Domain.{is_coord}
use Rattle.words.specs.Geometries.{room}
use Rattle.encoder.specs.declared.GeomEncoder.{GeomEncoder}
use Rattle.encoder.specs.States.{valid, Sound}
use Rattle.encoder.specs.Answers.{done, roomy}
use Rattle.encoder.specs.Adding.{boundary, emitted, ended, counted, drawn, added}
use Rattle.encoder.specs.declared.pen.Pen.{Pen}
use Rattle.encoder.specs.Stretches.{is_start, emissions_by, Ongoing}
use Rattle.encoder.specs.Tallies.{max_tally, counts_fit}
use Rattle.encoder.specs.Drafts.{draft_of}
use Rattle.encoder.specs.Pens.{pen_of, state_of, with_raw, marks, ends, drawn_by}
use Rattle.encoder.proofs.Tallies.{counts_fit_lem}
use Rattle.encoder.proofs.Reached.{valid_is, add_sound}
use Rattle.encoder.proofs.Marks.{Begun, lifted, marks_emitted, drawn_used, drawn_begun, drawn_sum, drawn_lost, ends_two}
use Rattle.encoder.proofs.Tests.{start_facts, pen_whole}

module _ (s : GeomEncoder) (pen : Pen) (p : Pt) (out : List ℕ) (k : s.kind ≡ 1 → ⊥) (B : Begun pen) where
  boundary_is : boundary (state_of s pen) p ≡ ends s.bbox pen.raw p
  unfolding boundary
  boundary_is = rw (ne_eqb s.kind 1 k)

  abbrev by_pen : Written Pen (List ℕ)
  by_pen = marks s.bbox (eqb s.kind 3) pen (ends s.bbox pen.raw p ++ (p ∷ [])) out

  -- the state with the point counted
  abbrev c : GeomEncoder
  c = counted 1 (length (ends s.bbox pen.raw p)) s

  end_is : (w : Written Pen (List ℕ)) → ◌≡◌ {A = Written GeomEncoder (List ℕ)} (record { answer = ended (state_of c w.answer) p; memory = w.memory }) (lifted c (record { answer = with_raw w.answer p; memory = w.memory }))
  end_is w = rw (ne_eqb s.kind 1 k)

  drawn_is : drawn (state_of s pen) p out ≡ lifted c (drawn_by s.bbox (eqb s.kind 3) pen p out)
  unfolding drawn_by
  drawn_is =
      ap (λ (l : List Pt). after (emitted (counted 1 (length l) (state_of s pen)) (l ++ (p ∷ [])) out)) boundary_is ∙
      ap after (marks_emitted c (ends s.bbox pen.raw p ++ (p ∷ [])) pen out B) ∙
      end_is by_pen
    where
      after : Written GeomEncoder (List ℕ) → Written GeomEncoder (List ℕ)
      after w = record { answer = ended w.answer p; memory = w.memory }

  added_is : valid (state_of s pen) (length out) ≡ true → is_coord p ≡ true → pen.used + 6 ≤ room (length out) →
      counts_fit (state_of c (drawn_by s.bbox (eqb s.kind 3) pen p out).answer).tally ≡ true →
      added (state_of s pen) p out ≡ kept (done (state_of c (drawn_by s.bbox (eqb s.kind 3) pen p out).answer)) (drawn_by s.bbox (eqb s.kind 3) pen p out).memory
  unfolding added
  added_is v x h t =
      let u = drawn_used s.bbox (eqb s.kind 3) pen p out in
      let f = le-leb (drawn_by s.bbox (eqb s.kind 3) pen p out).answer.used (room (length out)) (omega arith) in
      rw (v, x) (ap (roomy (state_of s pen) out) drawn_is ∙ rw (t, f))

-- ---- the pen of a state that a stretch starts from, and what a plain point makes of one
pub ongoing_start : (s : GeomEncoder) (n : ℕ) → Sound s n → is_start (draft_of s) ≡ true → Ongoing s (pen_of s) n
ongoing_start s n S e = let F = start_facts s e in record { kind = F.kind; two = F.two; sound = rw (pen_whole s e) S }

-- b boundary points came with the point
pub record Next (s : GeomEncoder) (pen : Pen) (p : Pt) (out : List ℕ) (b : ℕ) (next : Pen) (o : List ℕ) : Type 0 where
  pub accepted : added (state_of s pen) p out ≡ kept (done (state_of (counted 1 b s) next)) o
  pub long : length o ≡ length out
  pub ongoing : Ongoing (counted 1 b s) next (length o)
  pub fits : counts_fit (state_of (counted 1 b s) next).tally ≡ true
  pub sum : emissions_by next ≡ emissions_by pen + b + 1
  pub few : b ≤ 2

abbrev pub brings : GeomEncoder → Pen → Pt → ℕ
brings s pen p = length (ends s.bbox pen.raw p)

pub next_is : (s : GeomEncoder) (pen : Pen) (p : Pt) (out : List ℕ) → Ongoing s pen (length out) → is_coord p ≡ true → pen.used + 6 ≤ room (length out) → s.tally.taken + s.tally.boundary + 3 ≤ max_tally →
    Next s pen p out (brings s pen p) (drawn_by s.bbox (eqb s.kind 3) pen p out).answer (drawn_by s.bbox (eqb s.kind 3) pen p out).memory
next_is s pen p out O c h r =
    let w = drawn_by s.bbox (eqb s.kind 3) pen p out in
    let e = ends_two s.bbox pen.raw p in
    let d : GeomEncoder = counted 1 (brings s pen p) s in
    let B : Begun pen = record { two = O.two; some = omega (arith, O.two, O.sound.valid.counted) } in
    let n = O.sound.valid.balanced in
    let m = drawn_lost s.bbox (eqb s.kind 3) pen p out in
    let f = counts_fit_lem (state_of d w.answer).tally (record { taken = omega arith; bounds = omega arith; skips = omega arith; outs = omega arith }) in
    let a = added_is s pen p out O.kind B (valid_is (state_of s pen) (length out) O.sound.valid) c h f in
    let S = add_sound (state_of s pen) p out (state_of d w.answer) w.memory O.sound a in
    record {
      accepted = a;
      long = S.1;
      ongoing = record { kind = O.kind; two = drawn_begun s.bbox (eqb s.kind 3) pen p out B; sound = S.0 };
      fits = f;
      sum = drawn_sum s.bbox (eqb s.kind 3) pen p out B;
      few = e;
    }
