-- Crate `decoder`: wrong readings of words. (The cursor put back to the ring's start is in ByName.)
use Rattle.std.specs.Prelude.{ℕ, suc, ◌+◌, ◌*◌, ◌/◌, ◌%◌, ◌<◌, ◌≡◌, refl, true, false, cond, not, ◌&&◌, List, [], ◌∷◌, leb, ltb, eqb, ℤ, pos, neg_ℤ, ◌+ℤ◌, length, take, drop, replicate}
use Rattle.std.proofs.Common.{ap, arith}
use Rattle.std.specs.Int.Signed.{le_z}
use Rattle.promise.specs.Answers.{kept}
use Rattle.promise.specs.Laid.{lay}
use Rattle.refusal.specs.declared.Fault.{Fault}
use Rattle.refusal.specs.declared.Refusal.TheVariants.{Command as NoCommand, Count, NoParams, CutParams, Room}
use Rattle.refusal.specs.Refusals.{number_of}
use Rattle.refusal.specs.Said.{accepted, refused, refused_at, placed, plain}
use Rattle.words.specs.Commands.{is_id}
use Rattle.words.specs.Geometries.{max_words}
use Rattle.words.specs.Params.{unparam}
use Rattle.decoder.specs.Vertices.{Cursor, Vertex, Trace, traced, faulty, origin, vertex, and_then, numbers}
use Rattle.decoder.specs.ReadingWords.{is_close, params, miscounted, cut_at, unless_faulty, moved, in_i32, drawn, command, commands, trace_from, laid_out, reading}
use Rattle.ruled_out.specs.Inputs.{bit, size, size_of, vertices, cursor_x, fault_of, place_of}

abbrev spot : ℤ → ℤ → Cursor
spot x y = record { x = x; y = y }

-- ---- a step
-- the two steps exchanged
pub steps_exchanged : ((c : Cursor) (dx dy : ℕ) → moved c dx dy ≡ spot (c.x +ℤ unparam dy) (c.y +ℤ unparam dx)) → ⊥
unfolding unparam
steps_exchanged h = let e : ◌≡◌ {A = ℕ} 1 2 = ap (λ (c : Cursor). size c.x) (h origin 2 4) in omega arith

-- a step is a place
pub steps_as_places : ((c : Cursor) (dx dy : ℕ) → moved c dx dy ≡ spot (unparam dx) (unparam dy)) → ⊥
unfolding unparam
steps_as_places h = let e : ◌≡◌ {A = ℕ} 6 1 = ap (λ (c : Cursor). size c.x) (h (spot (pos 5) (pos 5)) 2 2) in omega arith

-- STEP at the limit of coordinates
pub step_at_limit : ((z : ℤ) → in_i32 z ≡ (le_z (neg_ℤ (pos 2147483648)) z && le_z z (pos 1073741823))) → ⊥
step_at_limit h = let e : ◌≡◌ {A = ℕ} 1 0 = ap bit (h (pos 1073741824)) in omega arith

-- one number beyond i32 is taken
pub step_bound_high : ((z : ℤ) → in_i32 z ≡ (le_z (neg_ℤ (pos 2147483648)) z && le_z z (pos 2147483648))) → ⊥
step_bound_high h = let e : ◌≡◌ {A = ℕ} 0 1 = ap bit (h (pos 2147483648)) in omega arith

-- ---- a command
-- half of the parameters are asked for
pub cut_half : ((word : ℕ) → params word ≡ cond (is_close word) 0 (word / 8)) → ⊥
cut_half h = let e : ◌≡◌ {A = ℕ} 2 1 = h 9 in omega arith

-- ClosePath puts the cursor back to (0, 0)
pub close_to_the_origin : ((word : ℕ) (c : Cursor) (ps : List ℕ)
    → command word c ps ≡ cond (is_close word) (traced (vertex 7 c ∷ []) origin) (drawn (word % 8) c ps)) → ⊥
close_to_the_origin h = let e : ◌≡◌ {A = ℕ} 5 0 = ap cursor_x (h 15 (spot (pos 5) (pos 5)) []) in omega arith

-- ClosePath gives no vertex
pub close_unseen : ((word : ℕ) (c : Cursor) (ps : List ℕ) → command word c ps ≡ cond (is_close word) (traced [] c) (drawn (word % 8) c ps)) → ⊥
close_unseen h = let e : ◌≡◌ {A = ℕ} 3 0 = ap (λ t. length (vertices t)) (h 15 origin []) in omega arith

-- a MoveTo counts its steps from (0, 0)
pub move_starts_anew : ((word : ℕ) (c : Cursor) (ps : List ℕ) → command word c ps
    ≡ cond (is_close word) (traced (vertex 7 c ∷ []) c) (drawn (word % 8) (cond (eqb (word % 8) 1) origin c) ps)) → ⊥
unfolding drawn unparam
move_starts_anew h = let e : ◌≡◌ {A = ℕ} 6 1 = ap cursor_x (h 9 (spot (pos 5) (pos 5)) (2 ∷ 2 ∷ [])) in omega arith

-- ---- command after command
-- a command without a fault at its word, and those behind it
abbrev goes : ℕ → ℕ → Cursor → ℕ → List ℕ → Trace
goes turns at c word ws = and_then (command word c (take (params word) ws)) (λ c'. commands turns (at + 1 + params word) c' (drop (params word) ws))

-- a cut is asked before COMMAND
pub cut_before_command : ((turns at word : ℕ) (c : Cursor) (ws : List ℕ) → commands (suc turns) at c (word ∷ ws)
    ≡ cond (ltb (length ws) (params word)) (faulty (cut_at at ws)) (cond (not (is_id (word % 8))) (faulty (plain NoCommand))
    (cond (miscounted word) (faulty (plain Count)) (goes turns at c word ws)))) → ⊥
unfolding commands
cut_before_command h = let e : ◌≡◌ {A = ℕ} 8 17 = ap fault_of (h 0 0 11 origin []) in omega arith

-- COUNT is asked before COMMAND
pub count_before_command : ((turns at word : ℕ) (c : Cursor) (ws : List ℕ) → commands (suc turns) at c (word ∷ ws)
    ≡ cond (miscounted word) (faulty (plain Count)) (cond (not (is_id (word % 8))) (faulty (plain NoCommand))
    (cond (ltb (length ws) (params word)) (faulty (cut_at at ws)) (goes turns at c word ws)))) → ⊥
unfolding commands
count_before_command h = let e : ◌≡◌ {A = ℕ} 8 16 = ap fault_of (h 0 0 3 origin []) in omega arith

-- STEP is asked before the cuts, of the pairs that are there
pub step_before_cut : ((turns at word : ℕ) (c : Cursor) (ws : List ℕ) → commands (suc turns) at c (word ∷ ws)
    ≡ cond (not (is_id (word % 8))) (faulty (plain NoCommand)) (cond (miscounted word) (faulty (plain Count))
    (and_then (command word c (take (params word) ws))
    (λ c'. cond (ltb (length ws) (params word)) (faulty (cut_at at ws)) (commands turns (at + 1 + params word) c' (drop (params word) ws)))))) → ⊥
unfolding commands drawn unparam
step_before_cut h = let e : ◌≡◌ {A = ℕ} 18 10 = ap fault_of (h 0 0 25 origin (4294967294 ∷ 0 ∷ 2 ∷ 0 ∷ [])) in omega arith

-- an unknown command is a cut
pub command_said_cut : ((turns at word : ℕ) (c : Cursor) (ws : List ℕ) → commands (suc turns) at c (word ∷ ws)
    ≡ cond (not (is_id (word % 8))) (faulty (cut_at at ws)) (unless_faulty at word ws faulty (goes turns at c word ws))) → ⊥
unfolding commands
command_said_cut h = let e : ◌≡◌ {A = ℕ} 8 17 = ap fault_of (h 0 0 3 origin []) in omega arith

-- a wrong count is COMMAND
pub count_said_command : ((turns at word : ℕ) (c : Cursor) (ws : List ℕ) → commands (suc turns) at c (word ∷ ws)
    ≡ cond (miscounted word) (faulty (plain NoCommand)) (unless_faulty at word ws faulty (goes turns at c word ws))) → ⊥
unfolding commands
count_said_command h = let e : ◌≡◌ {A = ℕ} 16 8 = ap fault_of (h 0 0 7 origin []) in omega arith

-- ---- the count that a command must have
-- a ClosePath's count is not looked at, as before request (iii): a ClosePath of any count is read once
pub close_count_unasked : ((at : ℕ) (c : Cursor) (count : ℕ) → trace_from at c ((8 * count + 7) ∷ []) ≡ traced (vertex 7 c ∷ []) c) → ⊥
unfolding trace_from commands
close_count_unasked h = let e : ◌≡◌ {A = ℕ} 16 0 = ap fault_of (h 0 origin 0) in omega arith

-- a ClosePath of a count above 1 is read once
pub close_of_two_once : ((word : ℕ) → miscounted word ≡ eqb (word / 8) 0) → ⊥
close_of_two_once h = let e : ◌≡◌ {A = ℕ} 1 0 = ap bit (h 23) in omega arith

-- ClosePath gives a vertex for each of its count
pub close_by_count : ((at : ℕ) (c : Cursor) (count : ℕ) → trace_from at c ((8 * count + 7) ∷ []) ≡ traced (replicate count (vertex 7 c)) c) → ⊥
unfolding trace_from commands
close_by_count h = let e : ◌≡◌ {A = ℕ} 16 0 = ap fault_of (h 0 origin 2) in omega arith

-- a MoveTo or LineTo of count 0 is read as nothing, as before request (iii)
pub empty_as_nothing : ((at id : ℕ) (c : Cursor) (ws : List ℕ) → is_id id ≡ true → id < 7 → trace_from at c (id ∷ ws) ≡ trace_from (at + 1) c ws) → ⊥
unfolding trace_from commands
empty_as_nothing h = let e : ◌≡◌ {A = ℕ} 16 0 = ap fault_of (h 0 1 origin (15 ∷ []) refl (omega arith)) in omega arith

-- one that stands last, with nothing to read behind it, is NOPARAMS
pub empty_without_params : ((at id : ℕ) (c : Cursor) → is_id id ≡ true → id < 7 → trace_from at c (id ∷ []) ≡ faulty (placed NoParams at)) → ⊥
unfolding trace_from commands
empty_without_params h = let e : ◌≡◌ {A = ℕ} 16 17 = ap fault_of (h 0 1 origin refl (omega arith)) in omega arith

-- COUNT tells a place
pub count_placed : ((turns at word : ℕ) (c : Cursor) (ws : List ℕ) → commands (suc turns) at c (word ∷ ws)
    ≡ cond (not (is_id (word % 8))) (faulty (plain NoCommand)) (cond (miscounted word) (faulty (placed Count at))
    (cond (ltb (length ws) (params word)) (faulty (cut_at at ws)) (goes turns at c word ws)))) → ⊥
unfolding commands
count_placed h = let e : ◌≡◌ {A = ℕ} 0 3 = ap place_of (h 0 3 7 origin []) in omega arith

-- ---- the two cuts and their place
-- each is said for the other
pub cuts_exchanged : ((at : ℕ) (ws : List ℕ) → cut_at at ws ≡ cond (eqb (length ws) 0) (placed CutParams at) (placed NoParams at)) → ⊥
cuts_exchanged h = let e : ◌≡◌ {A = ℕ} 17 18 = ap (λ f. number_of f.refusal) (h 0 []) in omega arith

-- both are one, as CUT was
pub cuts_as_one : ((at : ℕ) (ws : List ℕ) → cut_at at ws ≡ placed CutParams at) → ⊥
cuts_as_one h = let e : ◌≡◌ {A = ℕ} 17 18 = ap (λ f. number_of f.refusal) (h 0 []) in omega arith

-- the place is that of the next command, if all parameters were there
pub index_of_next : ((turns at word : ℕ) (c : Cursor) (ws : List ℕ) → commands (suc turns) at c (word ∷ ws)
    ≡ unless_faulty (at + 1 + params word) word ws faulty (goes turns at c word ws)) → ⊥
unfolding commands
index_of_next h = let e : ◌≡◌ {A = ℕ} 0 3 = ap place_of (h 0 0 9 origin (0 ∷ [])) in omega arith

-- the place counts from where the command before ends
pub place_from_here : ((turns at : ℕ) (c : Cursor) (ws : List ℕ) → commands turns at c ws ≡ commands turns 0 c ws) → ⊥
unfolding commands
place_from_here h = let e : ◌≡◌ {A = ℕ} 3 0 = ap place_of (h 1 3 origin (10 ∷ [])) in omega arith

-- it counts commands, and not their parameters
pub place_of_commands : ((turns at word : ℕ) (c : Cursor) (ws : List ℕ) → commands (suc turns) at c (word ∷ ws)
    ≡ unless_faulty at word ws faulty (and_then (command word c (take (params word) ws)) (λ c'. commands turns (at + 1) c' (drop (params word) ws)))) → ⊥
unfolding commands drawn unparam
place_of_commands h = let e : ◌≡◌ {A = ℕ} 3 1 = ap place_of (h 1 0 9 origin (0 ∷ 0 ∷ 10 ∷ [])) in omega arith

-- ---- a vertex's numbers
-- y before x
pub xy_exchanged : ((v : Vertex) (vs : List Vertex) → numbers (v ∷ vs) ≡ pos v.id ∷ v.y ∷ v.x ∷ numbers vs) → ⊥
xy_exchanged h = let e : ◌≡◌ {A = ℕ} 5 7 = ap (size_of 1) (h (record { id = 1; x = pos 5; y = pos 7 }) []) in omega arith

-- two numbers, without the id
pub two_numbers : ((v : Vertex) (vs : List Vertex) → numbers (v ∷ vs) ≡ v.x ∷ v.y ∷ numbers vs) → ⊥
two_numbers h = let e : ◌≡◌ {A = ℕ} 3 2 = ap length (h (record { id = 1; x = pos 5; y = pos 7 }) []) in omega arith

-- ---- decode
-- too many words are ROOM before their faults are looked at
pub room_before_faults : ((f : Fault) (words : ℕ) (out : List ℤ)
    → laid_out (faulty f) words out ≡ kept (refused_at (cond (ltb max_words words) (plain Room) f) 0) out) → ⊥
room_before_faults h = let e : ◌≡◌ {A = ℕ} 8 7 = ap (λ w. w.answer.number) (h (plain NoCommand) 1048577 []) in omega arith

-- the answer has no place
pub place_untold : ((f : Fault) (words : ℕ) (out : List ℤ) → laid_out (faulty f) words out ≡ kept (refused f.refusal 0) out) → ⊥
place_untold h = let e : ◌≡◌ {A = ℕ} 3 0 = ap (λ w. w.answer.place) (h (placed NoParams 3) 4 []) in omega arith

-- as many words as a geometry may have are refused
pub cap_refused : ((vs : List Vertex) (c : Cursor) (words : ℕ) (out : List ℤ) → laid_out (traced vs c) words out
    ≡ cond (leb max_words words) (kept (refused Room 0) out) (cond (ltb (length out) (3 * length vs)) (kept (refused Room 0) out)
    (record { answer = accepted (length vs); memory = lay 0 (numbers vs) out }))) → ⊥
cap_refused h = let e : ◌≡◌ {A = ℕ} 0 7 = ap (λ w. w.answer.number) (h [] origin 1048576 []) in omega arith

-- the numbers are counted, and not the vertices
pub numbers_counted : ((ws : List ℕ) (out : List ℤ) → (reading ws out).answer.values ≡ 3 * (reading ws out).answer.values) → ⊥
unfolding trace_from commands drawn unparam
numbers_counted h = let e : ◌≡◌ {A = ℕ} 1 3 = h (9 ∷ 4 ∷ 4 ∷ []) (replicate 3 (pos 0)) in omega arith

-- no words are refused
pub no_words_refused : ((out : List ℤ) → eqb (reading [] out).answer.number 0 ≡ false) → ⊥
unfolding trace_from commands
no_words_refused h = let e : ◌≡◌ {A = ℕ} 1 0 = ap bit (h []) in omega arith

-- a reading that writes no numbers
pub numbers_unwritten : ((ws : List ℕ) (out : List ℤ) → (reading ws out).memory ≡ out) → ⊥
unfolding trace_from commands drawn unparam
numbers_unwritten h = let e : ◌≡◌ {A = ℕ} 1 0 = ap (size_of 0) (h (9 ∷ 4 ∷ 4 ∷ []) (replicate 3 (pos 0))) in omega arith
