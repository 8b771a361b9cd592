-- The same reading, a vertex at a time, for those who go through the words without a list for the vertices (requests (iv) and (vii)).
use Rattle.std.specs.Prelude.{ℕ, ◌+◌, ◌-◌, ◌*◌, ◌/◌, ◌%◌, ◌≤◌, cond, List, [], ◌∷◌, ltb, eqb, pos, length, take, drop}
use Rattle.refusal.specs.declared.Refusal.TheVariants.{Step}
use Rattle.refusal.specs.Said.{plain}
use Rattle.decoder.specs.declared.pen.Pen.{Pen}
use Rattle.decoder.specs.Vertices.{Cursor, Trace, traced, faulty, vertex, onto, and_then}
use Rattle.decoder.specs.ReadingWords.{is_close, unless_faulty, moved, within, drawn, trace_from}
use Rattle.std.specs.Prelude.{Option, Some, None, Result, Ok, Err}
use Rattle.refusal.specs.declared.Fault.{Fault}

-- ---- where a reading stands: at the word with index `at`, with `left` pairs of the command `id` still to come
abbrev pub pen_at : ℕ → ℕ → ℕ → Cursor → Pen
pen_at at left id c = record { at = at; left = left; id = id; x = c.x; y = c.y }

abbrev pub cursor_of : Pen → Cursor
cursor_of pen = record { x = pen.x; y = pen.y }

-- before the first word
abbrev pub outset : Pen
outset = record { at = 0; left = 0; id = 0; x = pos 0; y = pos 0 }

-- the pairs still to come are there
pub record Stands (pen : Pen) (ws : List ℕ) : Type 0 where
  pub there : pen.at + 2 * pen.left ≤ length ws

-- ---- the next vertex, the end, or a refusal; these are the words from the pen's place on
-- of a pair; a parameter integer without a second one is no pair
abbrev pub pair_of : ℕ → ℕ → ℕ → Cursor → List ℕ → Result (Option Pen) Fault
pair_of at left id c [] = Ok None
pair_of at left id c (dx ∷ []) = Ok None
pair_of at left id c (dx ∷ dy ∷ ps) = cond (within (moved c dx dy)) (Ok (Some (pen_at (at + 2) (left - 1) id (moved c dx dy)))) (Err (plain Step))

-- of a command word: ClosePath's own, or the first pair's
abbrev pub command_of : ℕ → Cursor → List ℕ → Result (Option Pen) Fault
command_of at c [] = Ok None
command_of at c (word ∷ ws) = unless_faulty at word ws Err (cond (is_close word) (Ok (Some (pen_at (at + 1) 0 7 c))) (pair_of (at + 1) (word / 8) (word % 8) c ws))

-- a pen that says more pairs than there are is at the end
abbrev pub next_from : Pen → List ℕ → Result (Option Pen) Fault
next_from pen ws =
    cond (eqb pen.left 0) (command_of pen.at (cursor_of pen) ws) (
    cond (ltb (length ws) (2 * pen.left)) (Ok None) (pair_of pen.at pen.left pen.id (cursor_of pen) ws))

unfoldable pub next_of : Pen → List ℕ → Result (Option Pen) Fault
next_of pen ws = next_from pen (drop pen.at ws)

-- ---- what is ahead of a pen: its command's pairs, and then the commands behind them; before the first word that is the whole reading. `next_goes` of
-- proofs/Stepping: where a pen stands in the words, it is what `next_of` gives, and then what is ahead of the pen after that
abbrev pub pairs_of : Pen → List ℕ → Trace
pairs_of pen ws = drawn pen.id (cursor_of pen) (take (2 * pen.left) (drop pen.at ws))

abbrev pub ahead : Pen → List ℕ → Trace
ahead pen ws = and_then (pairs_of pen ws) (λ c. trace_from (pen.at + 2 * pen.left) c (drop (pen.at + 2 * pen.left) ws))

abbrev pub gone : Result (Option Pen) Fault → Cursor → List ℕ → Trace
gone (Ok (Some pen)) c ws = onto (vertex pen.id (cursor_of pen) ∷ []) (ahead pen ws)
gone (Ok None) c ws = traced [] c
gone (Err f) c ws = faulty f
