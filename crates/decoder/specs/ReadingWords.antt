-- Document 01, "Reading words (added, from MVT)", as request (iii) of document 02 amends it: command integers, their parameter integers and the cursor, as
-- MVT 4.3 has them.
use Rattle.std.specs.Prelude.{ℕ, zero, suc, ◌+◌, ◌*◌, ◌/◌, ◌%◌, Bool, cond, not, ◌&&◌, List, [], ◌∷◌, ltb, eqb, ℤ, pos, neg_ℤ, ◌+ℤ◌, length, take, drop}
use Rattle.std.specs.Int.Signed.{le_z}
use Rattle.promise.specs.Answers.{Written, kept}
use Rattle.promise.specs.Laid.{lay}
use Rattle.refusal.specs.declared.Fault.{Fault}
use Rattle.refusal.specs.declared.Refusal.TheVariants.{Command as NoCommand, Count, NoParams, CutParams, Step, Room}
use Rattle.refusal.specs.Said.{Said, accepted, refused, refused_at, placed, plain}
use Rattle.words.specs.Commands.{is_id}
use Rattle.words.specs.Geometries.{max_words}
use Rattle.words.specs.Params.{unparam}
use Rattle.decoder.specs.Vertices.{Cursor, Trace, traced, faulty, origin, vertex, onto, and_then, numbers}
use Rattle.std.specs.Prelude.{Result, Ok, Err}

-- ---- command integers: the id in the low three bits, the count above them
abbrev pub is_close : ℕ → Bool
is_close word = eqb (word % 8) 7

-- how many parameter integers follow: two for each repetition of a MoveTo or a LineTo, none after a ClosePath
abbrev pub params : ℕ → ℕ
params word = cond (is_close word) 0 (2 * (word / 8))

-- "ClosePath must have count 1, and the geometry rules give the others a count above 0"
abbrev pub miscounted : ℕ → Bool
miscounted word = cond (is_close word) (not (eqb (word / 8) 1)) (eqb (word / 8) 0)

-- "NOPARAMS (no word follows) and CUTPARAMS (some do, too few)", with "the command's word index"
abbrev pub cut_at : ℕ → List ℕ → Fault
cut_at at ws = cond (eqb (length ws) 0) (placed NoParams at) (placed CutParams at)

-- a command word at index `at`, and all words behind it: "at one command COMMAND, then COUNT, then NOPARAMS or CUTPARAMS"; without such a fault it goes on
abbrev pub unless_faulty : {X : Type 0} → ℕ → ℕ → List ℕ → (Fault → X) → X → X
unless_faulty at word ws fault go =
    cond (not (is_id (word % 8))) (fault (plain NoCommand)) (
    cond (miscounted word) (fault (plain Count)) (
    cond (ltb (length ws) (params word)) (fault (cut_at at ws)) go))

-- ---- MoveTo and LineTo: each pair of parameter integers is a step from the cursor, and moves the cursor there
abbrev pub moved : Cursor → ℕ → ℕ → Cursor
moved c dx dy = record { x = c.x +ℤ unparam dx; y = c.y +ℤ unparam dy }

abbrev pub in_i32 : ℤ → Bool
in_i32 z = le_z (neg_ℤ (pos 2147483648)) z && le_z z (pos 2147483647)

abbrev pub within : Cursor → Bool
within c = in_i32 c.x && in_i32 c.y

-- a position that leaves i32 is STEP; a parameter integer without a second one gives nothing, and never comes to stand here
unfoldable pub drawn : ℕ → Cursor → List ℕ → Trace
drawn id c [] = traced [] c
drawn id c (dx ∷ []) = traced [] c
drawn id c (dx ∷ dy ∷ ps) = cond (within (moved c dx dy)) (onto (vertex id (moved c dx dy) ∷ []) (drawn id (moved c dx dy) ps)) (faulty (plain Step))

-- ---- one command: "ClosePath gives 7 and the unmoved cursor once"
abbrev pub command : ℕ → Cursor → List ℕ → Trace
command word c ps = cond (is_close word) (traced (vertex 7 c ∷ []) c) (drawn (word % 8) c ps)

-- ---- command after command: "Faults are taken left to right", and a command's STEP after its other faults
-- `at` is the index of the first of these words in the list that was given. Each command takes a word at least, so as many turns as there are words are
-- enough.
unfoldable pub commands : ℕ → ℕ → Cursor → List ℕ → Trace
commands zero at c ws = traced [] c
commands (suc turns) at c [] = traced [] c
commands (suc turns) at c (word ∷ ws) =
    unless_faulty at word ws faulty
    (and_then (command word c (take (params word) ws)) (λ c'. commands turns (at + 1 + params word) c' (drop (params word) ws)))

unfoldable pub trace_from : ℕ → Cursor → List ℕ → Trace
trace_from at c ws = commands (length ws) at c ws

abbrev pub trace : List ℕ → Trace
trace ws = trace_from 0 origin ws

-- ---- the call: "ROOM comes last", for more words than a geometry may have and for a lent list that is too short
abbrev pub laid_out : Trace → ℕ → List ℤ → Written (Said ℕ) (List ℤ)
laid_out (faulty f) words out = kept (refused_at f 0) out
laid_out (traced vs c) words out =
    cond (ltb max_words words) (kept (refused Room 0) out) (
    cond (ltb (length out) (3 * length vs)) (kept (refused Room 0) out) (
    record { answer = accepted (length vs); memory = lay 0 (numbers vs) out }))

abbrev pub reading : List ℕ → List ℤ → Written (Said ℕ) (List ℤ)
reading ws out = laid_out (trace ws) (length ws) out

-- an accepted reading returns how many vertices there are
abbrev pub said_reading : Result ℕ Fault → Said ℕ
said_reading (Ok vertices) = accepted vertices
said_reading (Err f) = refused_at f 0
