-- What the private functions promise: one word by itself, a command word with those behind it, the two passes. No public promise cites it.
use Rattle.std.specs.Prelude.{ℕ, ◌+◌, ◌-◌, ◌*◌, ◌/◌, ◌%◌, ◌≤◌, ◌≡◌, true, cond, List, ℤ, length, get_or}
use Rattle.promise.specs.Laid.{lay}
use Rattle.words.specs.Commands.{is_id}
use Rattle.decoder.specs.declared.pen.Head.{Head}
use Rattle.decoder.specs.declared.pen.Head.TheVariants.{Draw as Drawing, Close as Closing, Miscounted, Unknown}
use Rattle.decoder.specs.declared.pen.Pen.{Pen}
use Rattle.decoder.specs.declared.command.Asked.{Asked}
use Rattle.decoder.specs.declared.command.Asked.TheVariants.{Draw, Close}
use Rattle.decoder.specs.Vertices.{Cursor, Trace, traced, faulty, numbers}
use Rattle.decoder.specs.ReadingWords.{is_close, miscounted, unless_faulty, moved, within}
use Rattle.decoder.specs.Stepping.{pen_at, cursor_of, Stands}
use Rattle.std.specs.Prelude.{Option, Some, None, Result, Ok, Err}
use Rattle.refusal.specs.declared.Fault.{Fault}

-- ---- one word
abbrev pub head_of : ℕ → Head
head_of word = cond (is_id (word % 8)) (cond (miscounted word) Miscounted (cond (is_close word) Closing (Drawing (word % 8) (word / 8)))) Unknown

-- ---- a command word with the words behind it
abbrev pub asked_of : ℕ → ℕ → List ℕ → Result Asked Fault
asked_of at word ws = unless_faulty at word ws Err (cond (is_close word) (Ok Close) (Ok (Draw (word % 8) (word / 8))))

-- ---- the pairs of one command, by what they give: the pen behind them
abbrev pub ran_of : Pen → Trace → Option Pen
ran_of pen (traced vs c) = Some (pen_at (pen.at + 2 * pen.left) 0 pen.id c)
ran_of pen (faulty f) = None

-- where the next pair leads, and the pen behind it
abbrev pub led_to : Pen → List ℕ → Cursor
led_to pen ws = moved (cursor_of pen) (get_or ws pen.at 0) (get_or ws (pen.at + 1) 0)

abbrev pub behind : Pen → List ℕ → Pen
behind pen ws = pen_at (pen.at + 2) (pen.left - 1) pen.id (led_to pen ws)

-- it is there, and leads to a position within i32
pub record Leads (pen : Pen) (ws : List ℕ) : Type 0 where
  pub some : pen.left ≡ 0 → ⊥
  pub stands : Stands pen ws
  pub inside : within (led_to pen ws) ≡ true

-- ---- the two passes
abbrev pub size_of : Trace → Result ℕ Fault
size_of (traced vs c) = Ok (length vs)
size_of (faulty f) = Err f

-- read whole, with room for three numbers a vertex from a place on
abbrev pub HasRoom : Trace → ℕ → ℕ → Type 0
HasRoom (traced vs c) at room = at + 3 * length vs ≤ room
HasRoom (faulty f) at room = ⊥

abbrev pub filled : Trace → ℕ → List ℤ → List ℤ
filled (traced vs c) at out = lay at (numbers vs) out
filled (faulty f) at out = out

-- the pairs of a command, laid from a place on: the pen behind them, and the list
pub record Filled (pen : Pen) (t : Trace) (at : ℕ) (out : List ℤ) (r : Pen) (out' : List ℤ) : Type 0 where
  pub pen_after : Some r ≡ ran_of pen t
  pub memory : out' ≡ filled t at out
