-- Laws of one emission, by its cases: where its run ends, how the figures grow, and that the state stays ready.
--     emitted_cases emission_cases command_cases    what holds in each case holds of an emission, and of the command that is pushed
--     Step at_step emission_step if_step    the run ends at the words used, which never fall; the state stays ready; the count is not zero
--     emitted_three    three emissions, one after the other, as three runs laid
use Rattle.std.specs.Prelude.{Option, Some, None}
use mathlib.Core.Path.{◌≡◌, refl, sym, ◌∙◌, ap}
use mathlib.Core.Bool.{Bool, true, false, cond}
use mathlib.Core.List.{List, [], ◌∷◌, ◌++◌}
use Prim.Native.Nat.{ℕ, ◌+◌, ◌/◌, ◌≤◌}
use native.Mathlib.Omega.{arith}
use borrow.Author.Tests.{eqb-true, eqb-false, ne_eqb}
use lib.Dec.{eqb}
use lib.ListN.{length, length-append}
use Rattle.promise.specs.Answers.{Written, kept}
use Rattle.promise.specs.Laid.{lay}
use Rattle.promise.proofs.Laying.{lay_nothing}
use Rattle.clip.specs.declared.Pt.{Pt}
use Rattle.clip.specs.Domain.{is_coord}
use Rattle.clip.proofs.Callers.{coord_is}
use Rattle.words.specs.Commands.{command_word}
use Rattle.encoder.specs.declared.GeomEncoder.{GeomEncoder}
use Rattle.encoder.specs.Points.{in_limit, clamped, is_last, last_of}
use Rattle.encoder.specs.Boundary.{list_of}
use Rattle.encoder.proofs.Coords.{clamped_coord}
use Rattle.encoder.specs.Pushed.{command, move_to, line_to}
use Rattle.encoder.specs.Emitting.{taken_out, popped, steps, pushed, begun, skipped, emitted_at, emission, Emission}
use Rattle.encoder.specs.Adding.{emitted}
use Rattle.encoder.specs.Planning.{emission_if, Ready}
use Rattle.encoder.specs.Drafts.{emitted_if}
use Rattle.encoder.proofs.Pushing.{out_count, out_used, popped_ready}

-- ---- the cases
pub command_cases : (P : List ℕ → Type 0) (kind count : ℕ) →
    (count ≡ 0 → P (command_word move_to 1 ∷ [])) →
    (count ≡ 1 → (kind ≡ 1 → ⊥) → P (command_word line_to 1 ∷ [])) →
    ((count ≡ 0 → ⊥) → ((kind ≡ 1 → ⊥) → 2 ≤ count) → P []) → P (command kind count)
command_cases P kind count zero one more = at_0 (eqb count 0) refl
  where
    at_kind : count ≡ 1 → (t : Bool) → eqb kind 1 ≡ t → P (cond t [] (command_word line_to 1 ∷ []))
    at_kind e true k = more (λ z. omega arith) (λ n. absurd (n (eqb-true kind 1 k)))
    at_kind e false k = one e (eqb-false kind 1 k)

    at_1 : (count ≡ 0 → ⊥) → (t : Bool) → eqb count 1 ≡ t → P (cond t (cond (eqb kind 1) [] (command_word line_to 1 ∷ [])) [])
    at_1 z true e = at_kind (eqb-true count 1 e) (eqb kind 1) refl
    at_1 z false e = more z (λ n. let o = eqb-false count 1 e in two z o)
      where
        two : (count ≡ 0 → ⊥) → (count ≡ 1 → ⊥) → 2 ≤ count
        two a b = omega arith

    at_0 : (t : Bool) → eqb count 0 ≡ t → P (cond t (command_word move_to 1 ∷ []) (cond (eqb count 1) (cond (eqb kind 1) [] (command_word line_to 1 ∷ [])) []))
    at_0 true e = zero (eqb-true count 0 e)
    at_0 false e = at_1 (eqb-false count 0 e) (eqb count 1) refl

no_command : (kind count : ℕ) → 2 ≤ count → command kind count ≡ []
no_command kind count h = rw (ne_eqb count 0 (λ e. omega arith), ne_eqb count 1 (λ e. omega arith))

pub emitted_cases : (P : Emission → Type 0) (s : GeomEncoder) (q : Pt) →
    (is_last s.pt1 q ≡ true → P (skipped s)) → (taken_out s q ≡ true → P (pushed [] (popped s) q)) → P (pushed (command s.kind s.count) s q) → P (emitted_at s q)
emitted_cases P s q skip out push = at_last (is_last s.pt1 q) refl
  where
    at_out : (t : Bool) → taken_out s q ≡ t → P (pushed (command s.kind s.count) (cond t (popped s) s) q)
    at_out true e = rw (no_command s.kind s.count (out_count s q e)) (out e)
    at_out false e = push

    at_last : (t : Bool) → is_last s.pt1 q ≡ t → P (cond t (skipped s) (pushed (command s.kind s.count) (cond (taken_out s q) (popped s) s) q))
    at_last true e = skip e
    at_last false e = at_out (taken_out s q) refl

pub emission_cases : (P : Emission → Type 0) (s : GeomEncoder) (p : Pt) →
    (is_last s.pt1 (clamped s.bbox p) ≡ true → P (skipped s)) →
    (taken_out s (clamped s.bbox p) ≡ true → P (pushed [] (popped s) (clamped s.bbox p))) →
    P (pushed (command s.kind s.count) s (clamped s.bbox p)) → P (emission s p)
unfolding emission
emission_cases P s p skip out push = emitted_cases P s (clamped s.bbox p) skip out push

-- ---- one step
pub record Step (n : ℕ) (s : GeomEncoder) (e : Emission) : Type 0 where
  pub ends : e.at + length e.run ≡ e.next.used
  pub grows : s.used ≤ e.next.used
  pub ready : Ready (n + 3) e.next

begun_small : (count n : ℕ) → count ≤ n + 1 → begun count ≤ n + 1
begun_small count n h = go (eqb count 0)
  where
    go : (t : Bool) → cond t 1 count ≤ n + 1
    go true = omega arith
    go false = h

module _ (n : ℕ) (s : GeomEncoder) (R : Ready n s) where
  skip_step : Step n s (skipped s)
  skip_step = record { ends = omega arith; grows = omega arith; ready = record { few = omega (arith, R.few); counted = begun_small s.count (s.used / 2) R.counted; good = R.good; at0 = R.at0; at1 = R.at1 } }

  push_step : (cmd : List ℕ) (q : Pt) → length cmd ≤ 1 → is_coord q ≡ true → Step n s (pushed cmd s q)
  push_step cmd q h c =
      let l : length (cmd ++ steps (last_of s.pt1) q) ≡ length cmd + 2 = simp length-append in
      record { ends = refl; grows = omega arith; ready = record { few = omega (arith, R.few); counted = omega (arith, R.counted); good = R.good; at0 = R.at1; at1 = c } }

  short : length (command s.kind s.count) ≤ 1
  short = command_cases (λ (c : List ℕ). length c ≤ 1) s.kind s.count (λ e. omega arith) (λ e f. omega arith) (λ e f. omega arith)

  pub at_step : (q : Pt) → is_coord q ≡ true → Step n s (emitted_at s q)
  at_step q c =
      emitted_cases (Step n s) s q
      (λ e. skip_step)
      (λ e. let h = out_count s q e in out_step h)
      (push_step (command s.kind s.count) q short c)
    where
      out_step : 2 ≤ s.count → Step n s (pushed [] (popped s) q)
      out_step h =
          let u : 2 ≤ s.used = out_used R h in
          let Q : Ready n (popped s) = popped_ready R h in
          record { ends = refl; grows = omega arith; ready = record { few = omega (arith, R.few); counted = omega (arith, R.counted); good = R.good; at0 = R.at0; at1 = c } }

  pub emission_step : (p : Pt) → Step n s (emission s p)
  unfolding emission
  emission_step p = at_step (clamped s.bbox p) (coord_is (clamped_coord s.bbox p R.good))

  pub if_step : (end : Option Pt) → in_limit end ≡ true → Step n s (emitted_if s end)
  if_step (Some q) c = at_step q c
  if_step None c = record { ends = omega arith; grows = omega arith; ready = record { few = omega (arith, R.few); counted = R.counted; good = R.good; at0 = R.at0; at1 = R.at1 } }

pub same_box : (end : Option Pt) (s : GeomEncoder) → (emitted_if s end).next.bbox ≡ s.bbox
same_box (Some q) s = emitted_cases (λ (e : Emission). e.next.bbox ≡ s.bbox) s q (λ e. refl) (λ e. refl) refl
same_box None s = refl

-- ---- three emissions
abbrev three : Emission → Emission → Emission → List ℕ → Written GeomEncoder (List ℕ)
three e f g out = kept g.next (lay g.at g.run (lay f.at f.run (lay e.at e.run out)))

three_by : (s : GeomEncoder) (a b : Option Pt) (p : Pt) (out : List ℕ) →
    emitted s (list_of a ++ list_of b ++ (p ∷ [])) out ≡ three (emission_if s a) (emission_if (emission_if s a).next b) (emission (emission_if (emission_if s a).next b).next p) out
three_by s None None p out =
    let z = lay_nothing s.used out in
    ap (λ (l : List ℕ). kept (emission s p).next (lay (emission s p).at (emission s p).run l)) (sym (ap (lay s.used []) z ∙ z))
three_by s None (Some b) p out =
    let f = emission s b in
    let g = emission f.next p in
    ap (λ (l : List ℕ). kept g.next (lay g.at g.run (lay f.at f.run l))) (sym (lay_nothing s.used out))
three_by s (Some a) None p out =
    let e = emission s a in
    let g = emission e.next p in
    ap (λ (l : List ℕ). kept g.next (lay g.at g.run l)) (sym (lay_nothing e.next.used (lay e.at e.run out)))
three_by s (Some a) (Some b) p out = refl

pub emitted_three : (s : GeomEncoder) (a b : Option Pt) (p : Pt) (e f g : Emission) → e ≡ emission_if s a → f ≡ emission_if e.next b → g ≡ emission f.next p → (out : List ℕ) →
    emitted s (list_of a ++ list_of b ++ (p ∷ [])) out ≡ kept g.next (lay g.at g.run (lay f.at f.run (lay e.at e.run out)))
emitted_three s a b p e f g i j k out =
    let j' = j ∙ ap (λ (x : Emission). emission_if x.next b) i in
    let k' = k ∙ ap (λ (x : Emission). emission x.next p) j' in
    three_by s a b p out ∙ (λ t. three (sym i t) (sym j' t) (sym k' t) out)
