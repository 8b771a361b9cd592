-- Crate `decoder`: wrong steps from vertex to vertex. (Faults and the cursor are the reading's own: Reading.)
use Rattle.std.specs.Prelude.{ℕ, ◌+◌, ◌-◌, ◌*◌, ◌/◌, ◌%◌, ◌≡◌, refl, cond, List, [], ◌∷◌, ltb, eqb, length, drop, get_or, Option, Some, None, Result, Ok, Err}
use Rattle.std.proofs.Common.{ap, arith}
use Rattle.refusal.specs.declared.Refusal.TheVariants.{Step, CutParams}
use Rattle.refusal.specs.declared.Fault.{Fault}
use Rattle.refusal.specs.Refusals.{number_of}
use Rattle.refusal.specs.Said.{placed, plain}
use Rattle.words.specs.Params.{unparam}
use Rattle.decoder.specs.declared.pen.Pen.{Pen}
use Rattle.decoder.specs.Vertices.{Cursor, origin}
use Rattle.decoder.specs.ReadingWords.{is_close, unless_faulty, moved, within}
use Rattle.decoder.specs.Stepping.{pen_at, cursor_of, outset, pair_of, command_of, next_of}

-- the pen at a vertex
abbrev at_vertex : Pen → Result (Option Pen) Fault
at_vertex pen = Ok (Some pen)

-- ---- one number of what was found: of a vertex's pen, and the refusal's number
abbrev met : (Pen → ℕ) → Result (Option Pen) Fault → ℕ
met f (Ok (Some pen)) = f pen
met f (Ok None) = 0
met f (Err r) = 0

abbrev refused_as : Result (Option Pen) Fault → ℕ
refused_as (Ok (Some pen)) = 0
refused_as (Ok None) = 0
refused_as (Err f) = number_of f.refusal

-- ---- a pair
-- the next pair stands one word on
pub one_word_on : ((at left id dx dy : ℕ) (c : Cursor) (ps : List ℕ) → pair_of at left id c (dx ∷ dy ∷ ps)
    ≡ cond (within (moved c dx dy)) (at_vertex (pen_at (at + 1) (left - 1) id (moved c dx dy))) (Err (plain Step))) → ⊥
unfolding unparam
one_word_on h = let e : ◌≡◌ {A = ℕ} 3 2 = ap (met (λ pen. pen.at)) (h 1 1 1 2 2 origin []) in omega arith

-- a pair that was read is still to come
pub pair_uncounted : ((at left id dx dy : ℕ) (c : Cursor) (ps : List ℕ) → pair_of at left id c (dx ∷ dy ∷ ps)
    ≡ cond (within (moved c dx dy)) (at_vertex (pen_at (at + 2) left id (moved c dx dy))) (Err (plain Step))) → ⊥
unfolding unparam
pair_uncounted h = let e : ◌≡◌ {A = ℕ} 1 2 = ap (met (λ pen. pen.left)) (h 1 2 1 2 2 origin (2 ∷ 2 ∷ [])) in omega arith

-- ---- a command
-- the vertex of a ClosePath has the id of the command before
pub close_by_old_id : ((at id : ℕ) (c : Cursor) (ws : List ℕ) → get_or ws at 0 ≡ 15 → next_of (pen_at at 0 id c) ws ≡ at_vertex (pen_at (at + 1) 0 id c)) → ⊥
unfolding next_of unparam
close_by_old_id h = let e : ◌≡◌ {A = ℕ} 7 2 = ap (met (λ pen. pen.id)) (h 3 2 origin (10 ∷ 2 ∷ 2 ∷ 15 ∷ []) refl) in omega arith

-- a command word is a step by itself, and its first pair the next
pub word_by_itself : ((at word : ℕ) (c : Cursor) (ws : List ℕ) → command_of at c (word ∷ ws)
    ≡ unless_faulty at word ws Err (cond (is_close word) (at_vertex (pen_at (at + 1) 0 7 c)) (at_vertex (pen_at (at + 1) (word / 8) (word % 8) c)))) → ⊥
unfolding unparam
word_by_itself h = let e : ◌≡◌ {A = ℕ} 3 1 = ap (met (λ pen. pen.at)) (h 0 9 origin (2 ∷ 2 ∷ [])) in omega arith

-- ---- where the pen does not stand in the words
-- a pen that says more pairs than there are is read as far as they go
pub more_pairs_read : ((pen : Pen) (ws : List ℕ) → next_of pen ws
    ≡ cond (eqb pen.left 0) (command_of pen.at (cursor_of pen) (drop pen.at ws))
    (pair_of pen.at pen.left pen.id (cursor_of pen) (drop pen.at ws))) → ⊥
unfolding next_of unparam
more_pairs_read h = let e : ◌≡◌ {A = ℕ} 0 3 = ap (met (λ pen. pen.at)) (h (pen_at 1 2 1 origin) (17 ∷ 2 ∷ 2 ∷ [])) in omega arith

-- or is refused
pub more_pairs_refused : ((pen : Pen) (ws : List ℕ) → next_of pen ws
    ≡ cond (ltb (length (drop pen.at ws)) (2 * pen.left)) (Err (placed CutParams pen.at)) (next_of pen ws)) → ⊥
unfolding next_of
more_pairs_refused h = let e : ◌≡◌ {A = ℕ} 0 18 = ap refused_as (h (pen_at 1 2 1 origin) (17 ∷ 2 ∷ 2 ∷ [])) in omega arith

-- ---- the whole walk
-- the end is met before the words are read: of every list, at the outset
pub ends_at_once : ((ws : List ℕ) → next_of outset ws ≡ Ok None) → ⊥
unfolding next_of unparam
ends_at_once h = let e : ◌≡◌ {A = ℕ} 1 0 = ap (met (λ pen. pen.at)) (h (15 ∷ [])) in omega arith
