-- States reached from a fresh one by accepted calls are never refused as STATE.
-- STATE alone is not kept: a carried state may have a last point, count 0 and a last command's place that is not below the used words; a point equal to that last one is then accepted and makes the count 1,
-- which the next call refuses. `Sound` adds the one rule that is missing, "where there is a last point, the last command's place is below the used words". A fresh state is sound, and each accepted call keeps it.
--     Sound fresh_sound add_sound complete_sound after_sound    the rule, and that it is kept
--     reached_valid                                             the theorem
--     odd_valid odd_accepted odd_refused                        the example
use Rattle.std.specs.Prelude.{Option, Some, None}
use mathlib.Core.Path.{◌≡◌, refl, sym, ◌∙◌, ap, subst}
use mathlib.Core.Bool.{Bool, true, false, cond, ◌&&◌, ◌||◌}
use mathlib.Core.List.{List, [], ◌∷◌, ◌++◌}
use Prim.Native.Nat.{ℕ, ◌+◌, ◌/◌, ◌≤◌, ◌<◌}
use native.Mathlib.Omega.{arith}
use native.Mathlib.Decide.{ℕ_discrete}
use borrow.Author.Tests.{le-leb, lt-ltb, eq-eqb, ne_eqb}
use lib.Dec.{ltb, eqb}
use lib.IntN.{pos}
use lib.ListN.{length, length-append}
use Rattle.promise.specs.Answers.{kept}
use Rattle.promise.specs.Laid.{lay}
use Rattle.promise.proofs.Laying.{length_lay, lay_nothing}
use Rattle.refusal.specs.Said.{Said, accepted, refused}
use Rattle.refusal.specs.declared.Refusal.TheVariants.{Kind, Box}
use Rattle.refusal.proofs.Laws.{never_both}
use Rattle.clip.specs.declared.Pt.{Pt}
use Rattle.clip.specs.declared.BBox.{BBox}
use Rattle.clip.specs.Domain.{is_coord, is_good}
use Rattle.words.specs.Geometries.{is_kind, max_words, room}
use Rattle.words.specs.Commands.{command_word}
use Rattle.encoder.specs.declared.GeomEncoder.{GeomEncoder}
use Rattle.encoder.specs.States.{fresh, valid, Valid, is_there, Sound}
use Rattle.encoder.specs.Answers.{done, started}
use Rattle.encoder.specs.Points.{in_limit, clamped, is_last, last_of}
use Rattle.encoder.specs.Pushed.{close_path}
use Rattle.encoder.specs.Emitting.{Emission, emission, steps, place_of}
use Rattle.encoder.specs.Adding.{point_at, boundary, emissions, emitted, ended, counted, added}
use Rattle.encoder.specs.Completing.{counting, closing, cleared, finished, completed}
use Rattle.encoder.specs.Calls.{Call, add, complete, After, none, next}
use Rattle.encoder.specs.Planning.{Ready}
use Rattle.encoder.proofs.Pushing.{out_count, out_used}
use Rattle.encoder.proofs.Steps.{emission_cases, command_cases, emission_step}
use Rattle.encoder.proofs.Calls.{one_word, counted_some, finished_used}
use Rattle.words.proofs.Rooms.{room_length}
use Rattle.encoder.proofs.States.{valid_ready, counted_ready}
use Rattle.encoder.proofs.Accepted.{added_accepted, completed_accepted, emitted_run, emitted_lost}

-- ---- STATE from its rules
either_is : (count place used : ℕ) → ((count ≡ 0 → ⊥) → place < used) → Dec (count ≡ 0) → (eqb count 0 || ltb place used) ≡ true
either_is count place used h (yes e) = rw (eq-eqb count 0 e)
either_is count place used h (no e) = rw (ne_eqb count 0 e) (lt-ltb place used (h e))

pub valid_is : (s : GeomEncoder) (n : ℕ) → Valid s n → valid s n ≡ true
unfolding valid
valid_is s n v = rw (
  le-leb s.used (room n) v.fits,
  le-leb s.count (s.used / 2 + 1) v.counted,
  either_is s.count s.cmd_offset s.used v.placed (ℕ_discrete s.count 0),
  v.kind,
  v.good,
  v.end,
  v.at0,
  v.at1,
  le-leb (s.tally.skipped + s.tally.taken_out) (s.tally.taken + s.tally.boundary) v.balanced,
)

-- where the last command stands below the used words: wherever there is a count or a last point
pub record Placed (s : GeomEncoder) : Type 0 where
  pub counts : (s.count ≡ 0 → ⊥) → s.cmd_offset < s.used
  pub points : is_there s.pt1 ≡ true → s.cmd_offset < s.used

-- ---- an emission leaves it so
last_there : (m : Option Pt) (q : Pt) → is_last m q ≡ true → is_there m ≡ true
last_there None q e = e
last_there (Some p) q e = refl

emission_placed : (n : ℕ) (s : GeomEncoder) (p : Pt) → Ready n s → Placed s → (emission s p).next.cmd_offset < (emission s p).next.used
emission_placed n s p R P = emission_cases (λ (e : Emission). e.next.cmd_offset < e.next.used) s p
    (λ e. P.points (last_there s.pt1 (clamped s.bbox p) e))
    (λ e. let h = out_count s (clamped s.bbox p) e in let u = out_used R h in let c = P.counts (λ z. omega arith) in omega arith)
    (command_cases (λ (cmd : List ℕ). place_of cmd s < s.used + length (cmd ++ steps (last_of s.pt1) (clamped s.bbox p))) s.kind s.count
    (λ e. omega arith) (λ e f. omega arith) (λ e f. let c = P.counts e in omega arith))

emitted_placed : (n : ℕ) (s : GeomEncoder) (ps : List Pt) (out : List ℕ) → Ready n s → Placed s → Placed (emitted s ps out).answer
emitted_placed n s [] out R P = P
emitted_placed n s (p ∷ ps) out R P =
    let h = emission_placed n s p R P in
    emitted_placed (n + 3) (emission s p).next ps (lay (emission s p).at (emission s p).run out) (emission_step n s R p).ready (record { counts = λ z. h; points = λ z. h })

-- ---- a fresh state
pub fresh_sound : (kind : ℕ) (bbox : BBox) (n : ℕ) → is_kind kind ≡ true → is_good bbox ≡ true → Sound (fresh kind bbox) n
fresh_sound kind bbox n k g = record {
  valid = record { fits = omega arith; counted = omega arith; placed = λ z. absurd (z refl); kind = k; good = g; end = refl; at0 = refl; at1 = refl; balanced = omega arith };
  points = λ e. absurd (let z : ◌≡◌ {A = ℕ} 0 1 = cc in omega arith);
}

-- the state that an accepted `new` answers
began_sound : (kind : ℕ) (bbox : BBox) (s : GeomEncoder) (n : ℕ) → started kind bbox ≡ accepted (s ∷ []) → Sound s n
began_sound kind bbox s n = by (is_kind kind) (is_good bbox) refl refl
  where
    by : (k g : Bool) → is_kind kind ≡ k → is_good bbox ≡ g → cond k (cond g (accepted (fresh kind bbox ∷ [])) (refused Box [])) (refused Kind []) ≡ accepted (s ∷ []) → Sound s n
    by true true i j e = subst (λ (x : GeomEncoder). Sound x n) (let l : fresh kind bbox ∷ [] ≡ s ∷ [] = ap (λ (x : Said (List GeomEncoder)). x.values) e in cc) (fresh_sound kind bbox n i j)
    by true false i j e = absurd (never_both Box (sym e))
    by false g i j e = absurd (never_both Kind (sym e))

-- ---- adding a point
end_limit : (s t : GeomEncoder) (p : Pt) → t.xy_end ≡ s.xy_end → in_limit s.xy_end ≡ true → is_coord p ≡ true → in_limit (ended t p).xy_end ≡ true
end_limit s t p e h c = by (eqb t.kind 1)
  where
    by : (b : Bool) → in_limit (cond b t.xy_end (Some p)) ≡ true
    by true = rw e h
    by false = c

pub add_sound : (s : GeomEncoder) (p : Pt) (out : List ℕ) (t : GeomEncoder) (l : List ℕ) → Sound s (length out) → added s p out ≡ kept (done t) l → Sound t (length l) × (length l ≡ length out)
add_sound s p out t l S e =
    let A = added_accepted s p out t l e in
    let c : GeomEncoder = counted 1 (length (boundary s p)) s in
    let w = emitted c (emissions s p) out in
    let v = S.valid in
    let W = emitted_run max_words c (emissions s p) out (counted_ready 1 (length (boundary s p)) (valid_ready v)) in
    let P = emitted_placed max_words c (emissions s p) out (counted_ready 1 (length (boundary s p)) (valid_ready v)) (record { counts = v.placed; points = S.points }) in
    let B = emitted_lost c (emissions s p) out in
    let n' : length (emissions s p) ≡ length (boundary s p) + 1 = length-append (boundary s p) (p ∷ []) in
    let u : w.answer.used ≤ room (length out) = A.fits.room in
    let m : length w.memory ≡ length out = W.long (omega (arith, room_length (length out))) in
    let n : length l ≡ length out = ap length A.fits.list ∙ m in
    let G : Sound (ended w.answer p) (length out) = record {
      valid = record {
        fits = u;
        counted = W.ready.counted;
        placed = P.counts;
        kind = rw W.kind v.kind;
        good = W.ready.good;
        end = end_limit s w.answer p W.end v.end A.coord;
        at0 = W.ready.at0;
        at1 = W.ready.at1;
        balanced = omega (arith, B.lost, B.taken, B.bounds, v.balanced);
      };
      points = P.points;
    } in
    (rw n (subst (λ (x : GeomEncoder). Sound x (length out)) (sym A.fits.state) G), n)

-- ---- completing
lay_long : (at : ℕ) (run l : List ℕ) → (0 < length run → at + length run ≤ length l) → length (lay at run l) ≡ length l
lay_long at [] l h = ap length (lay_nothing at l)
lay_long at (x ∷ run) l h = length_lay at (x ∷ run) l (h (omega arith))

closing_place : (s : GeomEncoder) → (is_there s.pt1 ≡ true → s.cmd_offset < s.used) → is_there s.pt1 ≡ true → place_of (closing s) s < s.used + length (closing s)
closing_place s h t = by (eqb s.kind 3 && ltb 1 s.count)
  where
    by : (b : Bool) → place_of (cond b (command_word close_path 1 ∷ []) []) s < s.used + length (cond b (command_word close_path 1 ∷ []) [])
    by true = omega arith
    by false = omega (arith, h t)

finished_sound : (s : GeomEncoder) (n : ℕ) → Sound s n → (finished s).used ≤ room n → Sound (finished s) n
unfolding finished
finished_sound s n S u = by (eqb s.kind 1) u
  where
    by : (b : Bool) → (cond b s (cleared s (place_of (closing s) s) (s.used + length (closing s)))).used ≤ room n → Sound (cond b s (cleared s (place_of (closing s) s) (s.used + length (closing s)))) n
    by true h = S
    by false h = record {
      valid = record { fits = h; counted = omega arith; placed = λ z. absurd (z refl); kind = S.valid.kind; good = S.valid.good; end = refl; at0 = refl; at1 = S.valid.at1; balanced = S.valid.balanced };
      points = closing_place s S.points;
    }

pub complete_sound : (s : GeomEncoder) (out : List ℕ) (t : GeomEncoder) (l : List ℕ) → Sound s (length out) → completed s out ≡ kept (done t) l → Sound t (length l) × (length l ≡ length out)
complete_sound s out t l S e =
    let A = completed_accepted s out t l e in
    let v = S.valid in
    let g = room_length (length out) in
    let u : (finished s).used ≤ room (length out) = A.fits.room in
    let i : length (lay s.cmd_offset (counting s) out) ≡ length out = lay_long s.cmd_offset (counting s) out (λ z. omega (arith, v.placed (counted_some s A.some z), v.fits, one_word s)) in
    let j : length (lay s.used (closing s) (lay s.cmd_offset (counting s) out)) ≡ length (lay s.cmd_offset (counting s) out) = lay_long s.used (closing s) (lay s.cmd_offset (counting s) out) (λ z. omega (arith, finished_used s)) in
    let n : length l ≡ length out = ap length A.fits.list ∙ (j ∙ i) in
    (rw n (subst (λ (x : GeomEncoder). Sound x (length out)) (sym A.fits.state) (finished_sound s (length out) S u)), n)

-- ---- any calls that are accepted
pub after_sound : {cs : List Call} {s t : GeomEncoder} {out l : List ℕ} → After cs s out t l → Sound s (length out) → Sound t (length l)
after_sound none S = S
after_sound (next {c = add p} e r) S = after_sound r (add_sound _ p _ _ _ S e).0
after_sound (next {c = complete} e r) S = after_sound r (complete_sound _ _ _ _ S e).0

-- a state reached from a fresh one is never refused as STATE
pub reached_valid : (kind : ℕ) (bbox : BBox) (s t : GeomEncoder) (cs : List Call) (out l : List ℕ) → started kind bbox ≡ accepted (s ∷ []) → After cs s out t l → valid t (length l) ≡ true
reached_valid kind bbox s t cs out l e r = valid_is t (length l) (after_sound r (began_sound kind bbox s (length out) e)).valid

-- ---- why `Sound` and not STATE alone: an odd carried state that is valid, a point that it accepts, and the state after, which is refused
abbrev odd : ℕ → ℕ → GeomEncoder
odd count n = record {
  tally = record { taken = n; boundary = 0; skipped = n; taken_out = 0 };
  kind = 2;
  bbox = record { x_min = pos 0; x_max = pos 10; y_min = pos 0; y_max = pos 10 };
  xy_end = None;
  pt0 = None;
  pt1 = Some (point_at (pos 5) (pos 5));
  cmd_offset = 0;
  count = count;
  used = 0;
}

pub odd_valid : valid (odd 0 0) 0 ≡ true
unfolding valid is_coord is_good
odd_valid = refl

pub odd_accepted : added (odd 0 0) (point_at (pos 5) (pos 5)) [] ≡ kept (done (ended (odd 1 1) (point_at (pos 5) (pos 5)))) []
unfolding added valid is_coord is_good boundary emission
odd_accepted = refl

pub odd_refused : valid (ended (odd 1 1) (point_at (pos 5) (pos 5))) 0 ≡ false
unfolding valid is_coord is_good
odd_refused = refl
