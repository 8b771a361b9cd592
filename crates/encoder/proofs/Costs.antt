-- "A part of n ≥ 1 points costs at most 6n - 2 words for a line, 6n - 1 for a polygon": the first point is one emission, each later one at most three, of two words each; two commands, and ClosePath for a polygon.
--     line_cost polygon_cost    for any state where a part starts: count 0 and no raw end
--     reached_starts            a state reached from a fresh one has no raw end where its count is 0
use Rattle.std.specs.Prelude.{Option, Some, None}
use mathlib.Core.Path.{◌≡◌, refl, sym, ◌∙◌, ap, subst}
use mathlib.Core.Bool.{Bool, true, false, cond, ◌&&◌}
use mathlib.Core.List.{List, [], ◌∷◌, ◌++◌}
use Prim.Native.Nat.{ℕ, ◌+◌, ◌-◌, ◌*◌, ◌≤◌}
use native.Mathlib.Omega.{arith}
use borrow.Author.Tests.{eq-eqb, ne_eqb, eqb-false}
use lib.Dec.{ltb, eqb}
use lib.ListN.{length, length-append}
use Rattle.promise.specs.Answers.{kept}
use Rattle.promise.specs.Laid.{lay}
use Rattle.clip.specs.declared.Pt.{Pt}
use Rattle.clip.specs.declared.BBox.{BBox}
use Rattle.clip.specs.Cutting.{clip}
use Rattle.words.specs.Geometries.{max_words}
use Rattle.words.specs.Commands.{command_word}
use Rattle.encoder.specs.declared.GeomEncoder.{GeomEncoder}
use Rattle.encoder.specs.States.{fresh}
use Rattle.encoder.specs.Answers.{done}
use Rattle.encoder.specs.Points.{clamped, last_of}
use Rattle.encoder.specs.Pushed.{close_path}
use Rattle.encoder.specs.Emitting.{Emission, emission, steps, place_of, begun}
use Rattle.encoder.specs.Adding.{cut_from, boundary, emissions, emitted, counted, added}
use Rattle.encoder.specs.Completing.{closing, cleared, finished, completed}
use Rattle.encoder.specs.Calls.{Call, add, complete, part_calls, After, none, next}
use Rattle.encoder.specs.Planning.{Ready}
use Rattle.encoder.proofs.Pushing.{out_count, out_used}
use Rattle.encoder.proofs.Steps.{emission_cases, command_cases, emission_step}
use Rattle.encoder.proofs.States.{valid_facts, valid_ready, counted_ready}
use Rattle.encoder.proofs.Boundaries.{moved_two}
use Rattle.encoder.proofs.Calls.{finished_used}
use Rattle.encoder.proofs.Accepted.{added_accepted, completed_accepted, emitted_run, same_emission}

-- ---- the commands that are still to come at a count
left : ℕ → ℕ
left count = cond (eqb count 0) 2 (cond (eqb count 1) 1 0)

left_small : (count : ℕ) → left count ≤ 2
unfolding left
left_small count = by (eqb count 0) (eqb count 1)
  where
    by : (t u : Bool) → cond t 2 (cond u 1 0) ≤ 2
    by true u = omega arith
    by false true = omega arith
    by false false = omega arith

left_0 : (count : ℕ) → count ≡ 0 → left count ≡ 2
unfolding left
left_0 count e = rw (eq-eqb count 0 e)

left_1 : (count : ℕ) → count ≡ 1 → left count ≡ 1
unfolding left
left_1 count e = rw (ne_eqb count 0 (λ z. omega arith), eq-eqb count 1 e)

left_2 : (count : ℕ) → 2 ≤ count → left count ≡ 0
unfolding left
left_2 count h = rw (ne_eqb count 0 (λ z. omega arith), ne_eqb count 1 (λ z. omega arith))

-- ---- an emission costs two words, and the commands that it uses up
module _ (n : ℕ) (s : GeomEncoder) (p : Pt) (R : Ready n s) (k : s.kind ≡ 1 → ⊥) where
  emission_cost : (emission s p).next.used + left (emission s p).next.count ≤ s.used + left s.count + 2
  emission_cost = emission_cases (λ (e : Emission). e.next.used + left e.next.count ≤ s.used + left s.count + 2) s p
      (λ e. omega (arith, left_small (begun s.count)))
      (λ e. let u = out_used R (out_count s (clamped s.bbox p) e) in omega (arith, left_small (s.count - 1 + 1)))
      (command_cases (λ (cmd : List ℕ). s.used + length (cmd ++ steps (last_of s.pt1) (clamped s.bbox p)) + left (s.count + 1) ≤ s.used + left s.count + 2) s.kind s.count
      (λ e. omega (arith, left_0 s.count e, left_1 (s.count + 1) (omega arith)))
      (λ e f. omega (arith, left_1 s.count e, left_2 (s.count + 1) (omega arith)))
      (λ e f. let h : 2 ≤ s.count = f k in omega (arith, left_2 s.count h, left_2 (s.count + 1) (omega arith))))

emitted_cost : (n : ℕ) (s : GeomEncoder) (ps : List Pt) (out : List ℕ) → Ready n s → (s.kind ≡ 1 → ⊥) →
    (emitted s ps out).answer.used + left (emitted s ps out).answer.count ≤ s.used + left s.count + 2 * length ps
emitted_cost n s [] out R k = omega arith
emitted_cost n s (p ∷ ps) out R k =
    let I = emitted_cost (n + 3) (emission s p).next ps (lay (emission s p).at (emission s p).run out) (emission_step n s R p).ready (λ e. k (sym (same_emission s p).0 ∙ e)) in
    omega (arith, emission_cost n s p R k)

-- ---- how many emissions a point is
cut_two : (b : BBox) (m : Option Pt) (p : Pt) → length (cut_from b m p) ≤ 2
cut_two b None p = omega arith
cut_two b (Some q) p = moved_two (record { p0 = q; p1 = p }) (clip b (record { p0 = q; p1 = p })).seg

boundary_two : (s : GeomEncoder) (p : Pt) → length (boundary s p) ≤ 2
unfolding boundary
boundary_two s p = by (eqb s.kind 1)
  where
    by : (t : Bool) → length (cond t [] (cut_from s.bbox s.xy_end p)) ≤ 2
    by true = omega arith
    by false = cut_two s.bbox s.xy_end p

boundary_none : (s : GeomEncoder) (p : Pt) → s.xy_end ≡ None → length (boundary s p) ≡ 0
unfolding boundary
boundary_none s p e = rw e (by (eqb s.kind 1))
  where
    by : (t : Bool) → length (cond t [] (cut_from s.bbox None p)) ≡ 0
    by true = refl
    by false = refl

-- ---- the calls
module _ (s : GeomEncoder) (p : Pt) (out : List ℕ) (t : GeomEncoder) (l : List ℕ) (k : s.kind ≡ 1 → ⊥) (e : added s p out ≡ kept (done t) l) where
  abbrev c : GeomEncoder
  c = counted 1 (length (boundary s p)) s

  R : Ready max_words c
  R = counted_ready 1 (length (boundary s p)) (valid_ready (valid_facts s (length out) (added_accepted s p out t l e).valid))

  add_kind : t.kind ≡ s.kind
  add_kind = ap (λ (x : GeomEncoder). x.kind) (added_accepted s p out t l e).fits.state ∙ (emitted_run max_words c (emissions s p) out R).kind

  add_cost : t.used + left t.count ≤ s.used + left s.count + 2 * (length (boundary s p) + 1)
  add_cost =
      let f = (added_accepted s p out t l e).fits.state in
      let u : t.used ≡ (emitted c (emissions s p) out).answer.used = ap (λ (x : GeomEncoder). x.used) f in
      let v : t.count ≡ (emitted c (emissions s p) out).answer.count = ap (λ (x : GeomEncoder). x.count) f in
      let n : length (emissions s p) ≡ length (boundary s p) + 1 = length-append (boundary s p) (p ∷ []) in
      let h = emitted_cost max_words c (emissions s p) out R k in
      rw (u, v, ← n) h

closes : ℕ → ℕ
closes kind = cond (eqb kind 3) 1 0

closing_cost : (s : GeomEncoder) → length (closing s) ≤ closes s.kind
unfolding closes
closing_cost s = by (eqb s.kind 3) (ltb 1 s.count)
  where
    by : (t u : Bool) → length (cond (t && u) (command_word close_path 1 ∷ []) []) ≤ cond t 1 0
    by true true = omega arith
    by true false = omega arith
    by false u = omega arith

-- the points after the first, and completing
rest_cost : (ps : List Pt) {s t : GeomEncoder} {out l : List ℕ} → (s.kind ≡ 1 → ⊥) → After (part_calls ps) s out t l → t.used ≤ s.used + left s.count + 6 * length ps + closes s.kind
rest_cost [] {s} {t} {out} {l} k (next {t = m} {l = o} e none) =
    let u : t.used ≡ (finished s).used = ap (λ (x : GeomEncoder). x.used) (completed_accepted s out t l e).fits.state in
    omega (arith, finished_used s, closing_cost s)
rest_cost (p ∷ ps) {s} {t} {out} {l} k (next {t = m} {l = o} e r) =
    let g = add_kind s p out m o k e in
    let I = rest_cost ps (λ z. k (sym g ∙ z)) r in
    let c : closes m.kind ≡ closes s.kind = ap closes g in
    omega (arith, add_cost s p out m o k e, boundary_two s p)

module _ (p : Pt) (ps : List Pt) {s t : GeomEncoder} {out l : List ℕ} (z : s.count ≡ 0) (x : s.xy_end ≡ None) where
  part_cost : (s.kind ≡ 1 → ⊥) → After (part_calls (p ∷ ps)) s out t l → t.used + 2 ≤ s.used + 6 * length (p ∷ ps) + closes s.kind
  part_cost k (next {t = m} {l = o} e r) =
      let g = add_kind s p out m o k e in
      let I = rest_cost ps (λ i. k (sym g ∙ i)) r in
      let c : closes m.kind ≡ closes s.kind = ap closes g in
      omega (arith, add_cost s p out m o k e, boundary_none s p x, left_0 s.count z)

  pub line_cost : s.kind ≡ 2 → After (part_calls (p ∷ ps)) s out t l → t.used + 2 ≤ s.used + 6 * length (p ∷ ps)
  unfolding closes
  line_cost k r = let h : closes s.kind ≡ 0 = rw k in omega (arith, part_cost (λ i. omega arith) r)

  pub polygon_cost : s.kind ≡ 3 → After (part_calls (p ∷ ps)) s out t l → t.used + 1 ≤ s.used + 6 * length (p ∷ ps)
  unfolding closes
  polygon_cost k r = let h : closes s.kind ≡ 1 = rw k in omega (arith, part_cost (λ i. omega arith) r)

-- ---- where a part starts
emission_some : (s : GeomEncoder) (p : Pt) → 1 ≤ (emission s p).next.count
emission_some s p = emission_cases (λ (e : Emission). 1 ≤ e.next.count) s p (λ e. begun_some (eqb s.count 0) refl) (λ e. omega arith) (omega arith)
  where
    begun_some : (t : Bool) → eqb s.count 0 ≡ t → 1 ≤ cond t 1 s.count
    begun_some true e = omega arith
    begun_some false e = some (eqb-false s.count 0 e)
      where
        some : (s.count ≡ 0 → ⊥) → 1 ≤ s.count
        some h = omega arith

emitted_some : (s : GeomEncoder) (ps : List Pt) (p : Pt) (out : List ℕ) → 1 ≤ (emitted s (ps ++ (p ∷ [])) out).answer.count
emitted_some s [] p out = emission_some s p
emitted_some s (q ∷ ps) p out = emitted_some (emission s q).next ps p (lay (emission s q).at (emission s q).run out)

abbrev Starts : GeomEncoder → Type 0
Starts s = s.count ≡ 0 → s.xy_end ≡ None

add_starts : (s : GeomEncoder) (p : Pt) (out : List ℕ) (t : GeomEncoder) (l : List ℕ) → added s p out ≡ kept (done t) l → Starts t
add_starts s p out t l e z =
    let c : GeomEncoder = counted 1 (length (boundary s p)) s in
    let v : t.count ≡ (emitted c (emissions s p) out).answer.count = ap (λ (x : GeomEncoder). x.count) (added_accepted s p out t l e).fits.state in
    absurd (omega (arith, emitted_some c (boundary s p) p out))

complete_starts : (s : GeomEncoder) (out : List ℕ) (t : GeomEncoder) (l : List ℕ) → Starts s → completed s out ≡ kept (done t) l → Starts t
unfolding finished
complete_starts s out t l h e = subst Starts (sym (completed_accepted s out t l e).fits.state) (by (eqb s.kind 1))
  where
    by : (b : Bool) → Starts (cond b s (cleared s (place_of (closing s) s) (s.used + length (closing s))))
    by true = h
    by false = λ z. refl

after_starts : {cs : List Call} {s t : GeomEncoder} {out l : List ℕ} → After cs s out t l → Starts s → Starts t
after_starts none h = h
after_starts (next {c = add p} e r) h = after_starts r (add_starts _ p _ _ _ e)
after_starts (next {c = complete} e r) h = after_starts r (complete_starts _ _ _ _ h e)

pub reached_starts : (kind : ℕ) (bbox : BBox) (t : GeomEncoder) (cs : List Call) (out l : List ℕ) → After cs (fresh kind bbox) out t l → t.count ≡ 0 → t.xy_end ≡ None
reached_starts kind bbox t cs out l r z = after_starts r (λ i. refl) z
