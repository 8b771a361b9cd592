-- The equation of request (ix): each emission is a pair of steps more, a point skipped, or a pair that takes another one's place.
--     emission_laid            one emission
--     equation                 the theorem, for every run of accepted calls from a fresh state
use mathlib.Core.Path.{◌≡◌, refl, sym, ◌∙◌, ap, subst}
use mathlib.Core.Bool.{Bool, true, false, cond, ◌&&◌}
use mathlib.Core.List.{List, [], ◌∷◌, ◌++◌, append-nil, append_assoc}
use Prim.Native.Nat.{ℕ, ◌+◌, ◌-◌, ◌*◌, ◌/◌, ◌≤◌}
use native.Mathlib.Omega.{arith}
use borrow.Author.Tests.{ne_eqb, eqb-true}
use lib.Dec.{eqb, ltb}
use lib.ListN.{length, take, length-append}
use lib.Seq.{take_at}
use Rattle.promise.specs.Answers.{kept}
use Rattle.promise.specs.Laid.{lay}
use Rattle.clip.specs.declared.Pt.{Pt}
use Rattle.clip.specs.declared.BBox.{BBox}
use Rattle.words.specs.Commands.{command_word}
use Rattle.encoder.specs.declared.GeomEncoder.{GeomEncoder}
use Rattle.encoder.specs.States.{fresh}
use Rattle.encoder.specs.Answers.{done}
use Rattle.encoder.specs.Points.{clamped, last_of}
use Rattle.encoder.specs.Pushed.{command, move_to, line_to, close_path}
use Rattle.encoder.specs.Emitting.{Emission, popped, pushed, steps, skipped, begun, place_of, emission}
use Rattle.encoder.specs.Adding.{boundary, emissions, emitted, counted, ended, added}
use Rattle.encoder.specs.Completing.{closing, cleared, finished, completed}
use Rattle.encoder.specs.Calls.{Call, add, complete, call, After, none, next}
use Rattle.encoder.proofs.Pushing.{out_count}
use Rattle.encoder.proofs.Steps.{command_cases, emission_cases}
use Rattle.encoder.proofs.Calls.{finished_used}
use Rattle.encoder.proofs.Accepted.{added_accepted, completed_accepted, emitted_lost}
use Rattle.counted.specs.Vertices.{Sort, a_command, a_step, sorts_of, sorted, sorted_all, commands, sorted_by, sorts, steps_in, vertices_in}

-- ---- lists of sorts
steps_append : (l m : List Sort) → steps_in (l ++ m) ≡ steps_in l + steps_in m
steps_append [] m = omega arith
steps_append (a_command ∷ l) m = steps_append l m
steps_append (a_step ∷ l) m = let I = steps_append l m in omega arith

abbrev pair : List Sort
pair = a_step ∷ a_step ∷ []

-- ---- a list of sorts beside the used words of a state
pub record Beside (s : GeomEncoder) (l : List Sort) : Type 0 where
  pub long : length l ≡ s.used
  pub half : steps_in l ≡ 2 * (steps_in l / 2)
  pub front : List Sort
  pub ends : 2 ≤ s.count → l ≡ front ++ pair

-- what n emissions make of it
pub record Laid (n : ℕ) (s : GeomEncoder) (l : List Sort) (t : GeomEncoder) (m : List Sort) : Type 0 where
  pub beside : Beside t m
  pub sum : steps_in m + 2 * (t.tally.skipped + t.tally.taken_out) ≡ steps_in l + 2 * (s.tally.skipped + s.tally.taken_out) + 2 * n

-- the words of a push: the command, if there is one, and the two steps
record Run (cmd : List ℕ) (p q : Pt) : Type 0 where
  pub front : List Sort
  pub is : sorts_of (cmd ++ steps p q) ≡ front ++ pair
  pub none : steps_in front ≡ 0

push_run : (kind count : ℕ) (p q : Pt) → Run (command kind count) p q
push_run kind count p q = command_cases (λ (cmd : List ℕ). Run cmd p q) kind count
    (λ e. record { front = a_command ∷ []; is = refl; none = refl })
    (λ e f. record { front = a_command ∷ []; is = refl; none = refl })
    (λ e f. record { front = []; is = refl; none = refl })

sorts_long : (ws : List ℕ) → length (sorts_of ws) ≡ length ws
sorts_long [] = refl
sorts_long (w ∷ ws) = let I = sorts_long ws in omega arith

all_kept : (l : List Sort) (n : ℕ) → length l ≡ n → take n l ≡ l
all_kept l n e = ap (take n) (sym (append-nil l)) ∙ take_at l [] n e

module _ (s : GeomEncoder) (l : List Sort) (B : Beside s l) where
  skip_laid : Laid 1 s l (skipped s).next (sorted l (skipped s))
  skip_laid = rw (all_kept l s.used B.long, append-nil l) (record {
    beside = record { long = B.long; half = B.half; front = B.front; ends = λ h. B.ends (some h) };
    sum = omega arith;
  })
    where
      some : 2 ≤ begun s.count → 2 ≤ s.count
      some h = by (eqb s.count 0) h
        where
          by : (t : Bool) → 2 ≤ cond t 1 s.count → 2 ≤ s.count
          by true k = absurd (omega arith)
          by false k = k

  out_laid : (q : Pt) → 2 ≤ s.count → Laid 1 s l (pushed [] (popped s) q).next (sorted l (pushed [] (popped s) q))
  out_laid q h =
      let e = B.ends h in
      let n : length l ≡ length B.front + 2 = ap length e ∙ length-append B.front pair in
      let f : take (s.used - 2) l ≡ B.front = ap (take (s.used - 2)) e ∙ take_at B.front pair (s.used - 2) (omega (arith, B.long)) in
      let m : sorted l (pushed [] (popped s) q) ≡ l = rw f (sym e) in
      rw m (record { beside = record { long = omega (arith, B.long); half = B.half; front = B.front; ends = λ k. e }; sum = omega arith })

  push_laid : (q : Pt) → Laid 1 s l (pushed (command s.kind s.count) s q).next (sorted l (pushed (command s.kind s.count) s q))
  push_laid q =
      let cmd = command s.kind s.count in
      let R = push_run s.kind s.count (last_of s.pt1) q in
      let m : sorted l (pushed cmd s q) ≡ l ++ R.front ++ pair = rw (all_kept l s.used B.long, R.is) (sym (append_assoc l R.front pair)) in
      let a : steps_in (l ++ R.front ++ pair) ≡ steps_in l + 2 = steps_append (l ++ R.front) pair ∙ (let b = steps_append l R.front in omega (arith, R.none)) in
      let n : length (l ++ R.front ++ pair) ≡ s.used + length (cmd ++ steps (last_of s.pt1) q) =
      ap length (append_assoc l R.front pair) ∙ length-append l (R.front ++ pair) ∙ (let k = sym (ap length R.is) ∙ sorts_long (cmd ++ steps (last_of s.pt1) q) in omega (arith, B.long)) in
      rw m (record { beside = record { long = n; half = omega (arith, B.half); front = l ++ R.front; ends = λ k. refl }; sum = omega arith })

pub emission_laid : (s : GeomEncoder) (p : Pt) (l : List Sort) → Beside s l → Laid 1 s l (emission s p).next (sorted l (emission s p))
emission_laid s p l B = emission_cases (λ (e : Emission). Laid 1 s l e.next (sorted l e)) s p
    (λ e. skip_laid s l B)
    (λ e. out_laid s l B (clamped s.bbox p) (out_count s (clamped s.bbox p) e))
    (push_laid s l B (clamped s.bbox p))

emitted_laid : (s : GeomEncoder) (ps : List Pt) (out : List ℕ) (l : List Sort) → Beside s l → Laid (length ps) s l (emitted s ps out).answer (sorted_all l s ps)
emitted_laid s [] out l B = record { beside = B; sum = omega arith }
emitted_laid s (p ∷ ps) out l B =
    let e = emission s p in
    let E = emission_laid s p l B in
    let I = emitted_laid e.next ps (lay e.at e.run out) (sorted l e) E.beside in
    record { beside = I.beside; sum = omega (arith, I.sum, E.sum) }

-- ---- calls
pub record Holds (s : GeomEncoder) (l : List Sort) : Type 0 where
  pub beside : Beside s l
  pub sum : steps_in l + 2 * (s.tally.skipped + s.tally.taken_out) ≡ 2 * (s.tally.taken + s.tally.boundary)

point_holds : (s : GeomEncoder) (p : Pt) (out : List ℕ) (l : List Sort) → Holds s l → Holds (ended (emitted (counted 1 (length (boundary s p)) s) (emissions s p) out).answer p) (sorted_by (add p) s l)
point_holds s p out l H =
    let c : GeomEncoder = counted 1 (length (boundary s p)) s in
    let B = H.beside in
    let E = emitted_laid c (emissions s p) out l (record { long = B.long; half = B.half; front = B.front; ends = B.ends }) in
    let L = emitted_lost c (emissions s p) out in
    let n : length (emissions s p) ≡ length (boundary s p) + 1 = length-append (boundary s p) (p ∷ []) in
    let D = E.beside in
    record { beside = record { long = D.long; half = D.half; front = D.front; ends = D.ends }; sum = omega (arith, E.sum, H.sum, L.taken, L.bounds) }

commands_none : (ws : List ℕ) → steps_in (commands ws) ≡ 0
commands_none [] = refl
commands_none (w ∷ ws) = commands_none ws

commands_long : (ws : List ℕ) → length (commands ws) ≡ length ws
commands_long [] = refl
commands_long (w ∷ ws) = let I = commands_long ws in omega arith

module _ (s : GeomEncoder) (l : List Sort) (H : Holds s l) where
  same_steps : steps_in (l ++ commands (closing s)) ≡ steps_in l
  same_steps = let a = steps_append l (commands (closing s)) in omega (arith, commands_none (closing s))

  end_long : length (l ++ commands (closing s)) ≡ (finished s).used
  end_long = let a = length-append l (commands (closing s)) in omega (arith, commands_long (closing s), finished_used s, H.beside.long)

  end_holds : Holds (finished s) (sorted_by complete s l)
  unfolding finished
  end_holds = by (eqb s.kind 1) refl end_long
    where
      by : (t : Bool) → eqb s.kind 1 ≡ t → length (l ++ commands (closing s)) ≡ (cond t s (cleared s (place_of (closing s) s) (s.used + length (closing s)))).used →
          Holds (cond t s (cleared s (place_of (closing s) s) (s.used + length (closing s)))) (l ++ commands (closing s))
      by true e n =
          let k : s.kind ≡ 1 = eqb-true s.kind 1 e in
          let f : eqb s.kind 3 ≡ false = ne_eqb s.kind 3 (λ z. omega arith) in
          let z : commands (closing s) ≡ [] = rw f in
          rw (z, append-nil l) H
      by false e n = record {
        beside = record { long = n; half = let a = H.beside.half in rw same_steps a; front = []; ends = λ h. absurd (omega arith) };
        sum = omega (arith, same_steps, H.sum);
      }

-- any accepted calls
run_holds : {cs : List Call} {s t : GeomEncoder} {out m : List ℕ} → After cs s out t m → (l : List Sort) → Holds s l → Holds t (sorts cs s out l)
run_holds none l H = H
run_holds {s = s} {out = out} (next {c = add p} {cs} {t = u} {l = o} e r) l H =
    rw e (run_holds r (sorted_by (add p) s l) (subst (λ (x : GeomEncoder). Holds x (sorted_by (add p) s l)) (sym (added_accepted s p out u o e).fits.state) (point_holds s p out l H)))
run_holds {s = s} {out = out} (next {c = complete} {cs} {t = u} {l = o} e r) l H =
    rw e (run_holds r (sorted_by complete s l) (subst (λ (x : GeomEncoder). Holds x (sorted_by complete s l)) (sym (completed_accepted s out u o e).fits.state) (end_holds s l H)))

-- ---- the theorem, at any moment, in mid-part too
pub record Equation (t : GeomEncoder) (l : List Sort) : Type 0 where
  pub each_word : length l ≡ t.used
  pub pairs : steps_in l ≡ 2 * vertices_in l
  pub equation : t.tally.taken + t.tally.boundary ≡ vertices_in l + t.tally.skipped + t.tally.taken_out

pub equation : (kind : ℕ) (b : BBox) (cs : List Call) (t : GeomEncoder) (out m : List ℕ) → After cs (fresh kind b) out t m → Equation t (sorts cs (fresh kind b) out [])
equation kind b cs t out m r =
    let H = run_holds r [] (record { beside = record { long = refl; half = refl; front = []; ends = λ h. absurd (omega arith) }; sum = refl }) in
    record { each_word = H.beside.long; pairs = H.beside.half; equation = omega (arith, H.beside.half, H.sum) }
