-- Document 01, "Words", and MVT 4.3.1: "Command word: id + 8 × count; MoveTo 1, LineTo 2, ClosePath 7."
use Rattle.std.specs.Prelude.{ℕ, ◌+◌, ◌*◌, ◌/◌, ◌%◌, Bool, cond, ◌||◌, leb, eqb, Result, Ok, Err}
use Rattle.refusal.specs.declared.Refusal.{Refusal}
use Rattle.refusal.specs.declared.Refusal.TheVariants.{Command as NoCommand, Room}
use Rattle.refusal.specs.Said.{Said, accepted, refused}
use Rattle.words.specs.declared.command.Command.{Command}
use Rattle.words.specs.declared.command.Command.TheVariants.{MoveTo, LineTo, ClosePath}
use Rattle.words.specs.declared.command.CommandInt.{CommandInt}

abbrev pub id_of : Command → ℕ
id_of MoveTo = 1
id_of LineTo = 2
id_of ClosePath = 7

abbrev pub command_word : ℕ → ℕ → ℕ
command_word id count = id + 8 * count

-- what fits beside the id in 32 bits
abbrev pub max_count : ℕ
max_count = 536870911

-- ---- encoding: a larger count is ROOM
abbrev pub encoded : ℕ → ℕ → Said ℕ
encoded id count = cond (leb count max_count) (accepted (command_word id count)) (refused Room 0)

abbrev pub said_word : Result ℕ Refusal → Said ℕ
said_word (Ok w) = accepted w
said_word (Err r) = refused r 0

-- ---- decoding: an id that is not 1, 2 or 7 is COMMAND
pub record IdCount : Type 0 where
  pub id : ℕ
  pub count : ℕ

abbrev pub is_id : ℕ → Bool
is_id n = eqb n 1 || eqb n 2 || eqb n 7

abbrev pub decoded : ℕ → Said IdCount
decoded w = cond (is_id (w % 8)) (accepted (record { id = w % 8; count = w / 8 })) (refused NoCommand (record { id = 0; count = 0 }))

abbrev pub said_command : Result CommandInt Refusal → Said IdCount
said_command (Ok c) = accepted (record { id = id_of c.id; count = c.count })
said_command (Err r) = refused r (record { id = 0; count = 0 })
