-- Laws of document 01's reading, for those who reason about it without its turns.
--     unknown miscounts no_params cut_params draws closes
--                                     the first command by its kind: its fault, or its vertices and the rest (Commands has one_command for all of them)
--     after                           the words of one accepted reading, and then others: read on from its cursor
--     drawn_count drawn_fault drawn_nothing drawn_after drawn_step
--                                     how many vertices a MoveTo or a LineTo gives, its only fault; pairs after pairs; the vertex of a step that was written as parameters
--     is_read is_accepted one_reading the call both ways, and one value for each answer
use Prim.Native.Nat.{ℕ, zero, suc, ◌+◌, ◌*◌, ◌/◌, ◌%◌, ◌<◌, ◌≤◌}
use mathlib.Core.Path.{◌≡◌, refl, sym, ◌∙◌, ap}
use mathlib.Core.Bool.{Bool, true, false, cond, not}
use mathlib.Core.List.{List, [], ◌∷◌, ◌++◌}
use native.Mathlib.Nat.{le_refl}
use native.Mathlib.Omega.{arith}
use borrow.Author.Tests.{ltb-false, le-ltb, lt-ltb, ne_eqb}
use lib.Dec.{ltb, eqb}
use lib.IntN.{ℤ, ◌+ℤ◌, ◌-ℤ◌}
use lib.ListN.{length, take, drop, length-append, length-drop}
use lib.Seq.{take_at, drop_at, take-append-le, drop-append-le}
use Rattle.promise.specs.Answers.{Gives}
use Rattle.promise.specs.Laid.{lay}
use Rattle.refusal.specs.declared.Fault.{Fault}
use Rattle.refusal.specs.declared.Refusal.TheVariants.{Command as NoCommand, Count, NoParams, CutParams, Step, Room}
use Rattle.refusal.specs.Said.{Said, accepted, plain, placed}
use Rattle.refusal.proofs.Laws.{one_fault, never_fault, never_both}
use Rattle.whole.proofs.Auto.{ring!, reads}
use Rattle.words.specs.Commands.{command_word, is_id}
use Rattle.words.specs.Geometries.{max_words}
use Rattle.words.specs.Params.{param}
use Rattle.words.proofs.Params.{unparam_param}
use Rattle.decoder.specs.Vertices.{Cursor, Vertex, Trace, traced, faulty, vertex, onto, and_then, numbers}
use Rattle.decoder.specs.ReadingWords.{params, miscounted, unless_faulty, moved, within, drawn, command, trace_from, trace, laid_out, reading, said_reading}
use Rattle.decoder.proofs.Traces.{onto_nil, onto_onto, then_test}
use Rattle.decoder.proofs.Commands.{nothing_read, one_command}
use Rattle.std.specs.Prelude.{Result, Ok, Err}

pub unknown : (at : ℕ) (c : Cursor) (word : ℕ) (ws : List ℕ) → is_id (word % 8) ≡ false → trace_from at c (word ∷ ws) ≡ faulty (plain NoCommand)
unknown at c word ws h = rw (one_command, h)

-- a count that the command cannot have
pub miscounts : (at : ℕ) (c : Cursor) (word : ℕ) (ws : List ℕ) → is_id (word % 8) ≡ true → miscounted word ≡ true → trace_from at c (word ∷ ws) ≡ faulty (plain Count)
miscounts at c word ws h k = rw (one_command, h, k)

pub closes : (at : ℕ) (c : Cursor) (ws : List ℕ) → trace_from at c (command_word 7 1 ∷ ws) ≡ onto (vertex 7 c ∷ []) (trace_from (at + 1) c ws)
closes at c ws =
    let e : at + 1 + 0 ≡ at + 1 = omega arith in
    one_command at c (command_word 7 1) ws ∙ rw (le-ltb (length ws) 0 (omega arith), e)

-- MoveTo is 1 and LineTo 2: `refl refl` at either
module _ (id : ℕ) (known : is_id id ≡ true) (open_id : eqb id 7 ≡ false) (small : id < 8) (at : ℕ) (c : Cursor) (count : ℕ) (some : 0 < count) where
  id_part : command_word id count % 8 ≡ id
  id_part = omega arith

  count_part : command_word id count / 8 ≡ count
  count_part = omega arith

  counts : eqb count 0 ≡ false
  counts = ne_eqb count 0 (λ z. omega arith)

  pub no_params : trace_from at c (command_word id count ∷ []) ≡ faulty (placed NoParams at)
  no_params = rw (one_command, id_part, known, open_id, count_part, counts, lt-ltb 0 (2 * count) (omega arith))

  pub cut_params : (p : ℕ) (ps : List ℕ) → suc (length ps) < 2 * count → trace_from at c (command_word id count ∷ p ∷ ps) ≡ faulty (placed CutParams at)
  cut_params p ps h = rw (one_command, id_part, known, open_id, count_part, counts, lt-ltb (suc (length ps)) (2 * count) h, ne_eqb (suc (length ps)) 0 (λ z. omega arith))

  pub draws : (ps ws : List ℕ) → length ps ≡ 2 * count → trace_from at c (command_word id count ∷ (ps ++ ws)) ≡ and_then (drawn id c ps) (λ c'. trace_from (at + 1 + 2 * count) c' ws)
  draws ps ws e =
      let h : 2 * count ≤ length (ps ++ ws) = simp length-append (omega arith) in
      rw (one_command, id_part, known, open_id, count_part, counts, le-ltb (length (ps ++ ws)) (2 * count) h, take_at ps ws (2 * count) e, drop_at ps ws (2 * count) e)

-- ---- one reading after another
never : {f : Fault} {vs : List Vertex} {c : Cursor} → faulty f ≡ traced vs c → ⊥
never e = let z : ◌≡◌ {A = ℕ} 0 1 = cc in omega arith

then_after : (t : Trace) (go go' tail : Cursor → Trace) (vs : List Vertex) (c' : Cursor) →
    ((d : Cursor) (us : List Vertex) (d' : Cursor) → go d ≡ traced us d' → go' d ≡ onto us (tail d')) →
    and_then t go ≡ traced vs c' → and_then t go' ≡ onto vs (tail c')
then_after (faulty f) go go' tail vs c' rest q = absurd (never q)
then_after (traced us d) go go' tail vs c' rest q = by (go d) refl q
  where
    by : (x : Trace) → go d ≡ x → onto us x ≡ traced vs c' → onto us (go' d) ≡ onto vs (tail c')
    by (faulty f) e q = absurd (never q)
    by (traced ts d') e q =
        let l : us ++ ts ≡ vs = cc in
        let k : d' ≡ c' = cc in
        ap (onto us) (rest d ts d' e) ∙ onto_onto us ts (tail d') ∙ (λ i. onto (l i) (tail (k i)))

module _ (b : List ℕ) where
  -- the words of one command are not among those that follow
  module _ (at : ℕ) (c : Cursor) (word : ℕ) (a : List ℕ) (vs : List Vertex) (c' : Cursor) where
    abbrev Goes : Trace → Type 0
    Goes t = unless_faulty at word a faulty t ≡ traced vs c'

    abbrev go : List ℕ → Cursor → Trace
    go l d = trace_from (at + 1 + params word) d l

    command_after : (t m s : Bool) → is_id (word % 8) ≡ t → miscounted word ≡ m → ltb (length a) (params word) ≡ s →
        ((d : Cursor) (us : List Vertex) (d' : Cursor) → params word ≤ length a → go (drop (params word) a) d ≡ traced us d' →
        go (drop (params word) a ++ b) d ≡ onto us (trace_from (at + suc (length a)) d' b)) →
        Goes (and_then (command word c (take (params word) a)) (go (drop (params word) a))) →
        trace_from at c (word ∷ (a ++ b)) ≡ onto vs (trace_from (at + suc (length a)) c' b)
    command_after false m s e f g rest q = absurd (never (rw e at q))
    command_after true true s e f g rest q = absurd (never (rw (e, f) at q))
    command_after true false true e f g rest q = absurd (never (rw (e, f, g) at q))
    command_after true false false e f g rest q =
        let h : params word ≤ length a = ltb-false (length a) (params word) g in
        let k : params word ≤ length (a ++ b) = simp length-append (omega arith) in
        one_command at c word (a ++ b)
        ∙ rw (e, f, le-ltb (length (a ++ b)) (params word) k, take-append-le (params word) a b h, drop-append-le (params word) a b h)
        (then_after (command word c (take (params word) a)) (go (drop (params word) a)) (go (drop (params word) a ++ b)) (λ d. trace_from (at + suc (length a)) d b) vs c'
        (λ d us d' r. rest d us d' h r) (rw (e, f, g) at q))

  after_nothing : (at : ℕ) (c : Cursor) (vs : List Vertex) (c' : Cursor) → traced [] c ≡ traced vs c' → trace_from at c b ≡ onto vs (trace_from (at + 0) c' b)
  after_nothing at c vs c' q =
      let l : [] ≡ vs = cc in
      let k : c ≡ c' = cc in
      let z : at + 0 ≡ at = omega arith in
      rw (← l, ← k, z) (sym (onto_nil (trace_from at c b)))

  after_in : (turns at : ℕ) (c : Cursor) (a : List ℕ) (vs : List Vertex) (c' : Cursor) → length a ≤ turns → trace_from at c a ≡ traced vs c' →
      trace_from at c (a ++ b) ≡ onto vs (trace_from (at + length a) c' b)
  after_in zero at c [] vs c' h e = after_nothing at c vs c' (sym (nothing_read at c) ∙ e)
  after_in zero at c (word ∷ a) vs c' h e = absurd (omega arith)
  after_in (suc turns) at c [] vs c' h e = after_nothing at c vs c' (sym (nothing_read at c) ∙ e)
  after_in (suc turns) at c (word ∷ a) vs c' h e =
      command_after at c word a vs c' (is_id (word % 8)) (miscounted word) (ltb (length a) (params word)) refl refl refl
      (λ d us d' k r.
      let l : length (drop (params word) a) ≤ turns = rw length-drop (omega arith) in
      let i : at + 1 + params word + length (drop (params word) a) ≡ at + suc (length a) = rw length-drop (omega arith) in
      rw (← i) (after_in turns (at + 1 + params word) d (drop (params word) a) us d' l r))
      (sym (one_command at c word a) ∙ e)

-- the words of one accepted reading, and then others: read on from its cursor
pub after : (at : ℕ) (c : Cursor) (a b : List ℕ) (vs : List Vertex) (c' : Cursor) → trace_from at c a ≡ traced vs c' →
    trace_from at c (a ++ b) ≡ onto vs (trace_from (at + length a) c' b)
after at c a b vs c' e = after_in b (length a) at c a vs c' (le_refl (length a)) e

-- ---- one command's parameters
pub drawn_count : (id n : ℕ) (c : Cursor) (ps : List ℕ) (vs : List Vertex) (c' : Cursor) → length ps ≡ 2 * n → drawn id c ps ≡ traced vs c' → length vs ≡ n
unfolding drawn
drawn_count id zero c [] vs c' h e = let f : [] ≡ vs = cc in rw (← f)
drawn_count id (suc n) c [] vs c' h e = absurd (omega arith)
drawn_count id n c (dx ∷ []) vs c' h e = absurd (omega arith)
drawn_count id zero c (dx ∷ dy ∷ ps) vs c' h e = absurd (omega arith)
drawn_count id (suc n) c (dx ∷ dy ∷ ps) vs c' h e = by (within (moved c dx dy)) (drawn id (moved c dx dy) ps) (λ us d f. drawn_count id n (moved c dx dy) ps us d (omega arith) f) e
  where
    by : (b : Bool) (t : Trace) → ((us : List Vertex) (d : Cursor) → t ≡ traced us d → length us ≡ n) → cond b (onto (vertex id (moved c dx dy) ∷ []) t) (faulty (plain Step)) ≡ traced vs c' → length vs ≡ suc n
    by true (traced us d) rec e = let f : vertex id (moved c dx dy) ∷ us ≡ vs = cc in rw (← f) (ap suc (rec us d refl))
    by true (faulty r) rec e = let z : ◌≡◌ {A = ℕ} 0 1 = cc in absurd (omega arith)
    by false t rec e = let z : ◌≡◌ {A = ℕ} 0 1 = cc in absurd (omega arith)

-- the only fault among them is STEP
pub drawn_fault : (id : ℕ) (c : Cursor) (ps : List ℕ) (f : Fault) → drawn id c ps ≡ faulty f → f ≡ plain Step
unfolding drawn
drawn_fault id c [] f e = let z : ◌≡◌ {A = ℕ} 0 1 = cc in absurd (omega arith)
drawn_fault id c (dx ∷ []) f e = let z : ◌≡◌ {A = ℕ} 0 1 = cc in absurd (omega arith)
drawn_fault id c (dx ∷ dy ∷ ps) f e = by (within (moved c dx dy)) (drawn id (moved c dx dy) ps) (drawn_fault id (moved c dx dy) ps f) e
  where
    by : (b : Bool) (t : Trace) → (t ≡ faulty f → f ≡ plain Step) → cond b (onto (vertex id (moved c dx dy) ∷ []) t) (faulty (plain Step)) ≡ faulty f → f ≡ plain Step
    by true (traced us d) rec e = let z : ◌≡◌ {A = ℕ} 0 1 = cc in absurd (omega arith)
    by true (faulty g) rec e = rec e
    by false t rec e = let g : plain Step ≡ f = cc in sym g

pub drawn_nothing : (id : ℕ) (c : Cursor) → drawn id c [] ≡ traced [] c
unfolding drawn
drawn_nothing id c = refl

-- pairs after pairs
pub drawn_after : (id n : ℕ) (c : Cursor) (ps qs : List ℕ) → length ps ≡ 2 * n → drawn id c (ps ++ qs) ≡ and_then (drawn id c ps) (λ c'. drawn id c' qs)
unfolding drawn
drawn_after id n c [] qs h = sym (onto_nil (drawn id c qs))
drawn_after id n c (dx ∷ []) qs h = absurd (omega arith)
drawn_after id zero c (dx ∷ dy ∷ ps) qs h = absurd (omega arith)
drawn_after id (suc n) c (dx ∷ dy ∷ ps) qs h =
    then_test (within (moved c dx dy)) (vertex id (moved c dx dy) ∷ []) (plain Step) (drawn id (moved c dx dy) ps) (drawn id (moved c dx dy) (ps ++ qs))
    (λ c'. drawn id c' qs) (drawn_after id n (moved c dx dy) ps qs (omega arith))

there_again : (a b : ℤ) → a +ℤ (b -ℤ a) ≡ b
there_again a b = ring! (a ∷ b ∷ []) (search reads depth 30) tt

-- the parameters of the way to p lead to p
pub drawn_step : (id : ℕ) (c p : Cursor) (ps : List ℕ) → within p ≡ true →
    drawn id c (param (p.x -ℤ c.x) ∷ param (p.y -ℤ c.y) ∷ ps) ≡ onto (vertex id p ∷ []) (drawn id p ps)
unfolding drawn
drawn_step id c p ps h = rw (unparam_param (p.x -ℤ c.x), unparam_param (p.y -ℤ c.y), there_again c.x p.x, there_again c.y p.y, h)

-- ---- the call: what the definition accepts within the limits is not refused
pub is_accepted : (ws : List ℕ) (out : List ℤ) (vs : List Vertex) (c : Cursor) → trace ws ≡ traced vs c → length ws ≤ max_words → 3 * length vs ≤ length out →
    reading ws out ≡ record { answer = accepted (length vs); memory = lay 0 (numbers vs) out }
is_accepted ws out vs c e h k = rw (e, le-ltb max_words (length ws) h, le-ltb (length out) (3 * length vs) k)

-- and what is accepted is read to these vertices
pub record IsRead (ws : List ℕ) (out : List ℤ) (n : ℕ) (m : List ℤ) : Type 0 where
  pub vs : List Vertex
  pub end : Cursor
  pub is : trace ws ≡ traced vs end
  pub count : n ≡ length vs
  pub words : length ws ≤ max_words
  pub room : 3 * n ≤ length out
  pub memory : m ≡ lay 0 (numbers vs) out

pub is_read : (ws : List ℕ) (out : List ℤ) (n : ℕ) (m : List ℤ) → Gives (reading ws out) (accepted n) m → IsRead ws out n m
is_read ws out n m g = by (trace ws) refl g
  where
    by_room : (vs : List Vertex) (c : Cursor) → trace ws ≡ traced vs c → (t u : Bool) → ltb max_words (length ws) ≡ t → ltb (length out) (3 * length vs) ≡ u → Gives (laid_out (traced vs c) (length ws) out) (accepted n) m → IsRead ws out n m
    by_room vs c e false false h k g =
        let g' : Gives (record { answer = accepted (length vs); memory = lay 0 (numbers vs) out }) (accepted n) m = rw (h, k) at g in
        let a : n ≡ length vs = ap (λ (s : Said ℕ). s.values) g'.answer in
        record { vs = vs; end = c; is = e; count = a; words = ltb-false max_words (length ws) h; room = rw a (ltb-false (length out) (3 * length vs) k); memory = g'.memory }
    by_room vs c e false true h k g = absurd (never_both Room (rw (h, k) at g.answer))
    by_room vs c e true u h k g = absurd (never_both Room (rw h at g.answer))

    by : (t : Trace) → trace ws ≡ t → Gives (laid_out t (length ws) out) (accepted n) m → IsRead ws out n m
    by (traced vs c) e g = by_room vs c e (ltb max_words (length ws)) (ltb (length out) (3 * length vs)) refl refl g
    by (faulty f) e g = absurd (never_fault f g.answer)

pub one_reading : (r r' : Result ℕ Fault) → said_reading r ≡ said_reading r' → r ≡ r'
one_reading (Ok n) (Ok n') e = ap (λ (s : Said ℕ). Ok s.values) e
one_reading (Ok n) (Err f) e = absurd (never_fault f e)
one_reading (Err f) (Ok n) e = absurd (never_fault f (sym e))
one_reading (Err f) (Err f') e = ap Err (one_fault f f' e)
