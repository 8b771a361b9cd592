-- What is printed of a refusal, where some are told with their place: `refused K at I` for those, `refused K` for the others.
use Rattle.std.specs.Prelude.{ℕ, Bool, cond, ◌||◌, List, ◌++◌, eqb}
use Rattle.refusal.specs.declared.Refusal.TheVariants.{NoParams, CutParams}
use Rattle.refusal.specs.Refusals.{number_of}
use Rattle.printed.specs.Decimal.{ended}
use Rattle.printed.specs.Printed.{newline, refused_head, refused_text}

-- the refusals that have a place, which may be 0 as well: "give the command's word index"
abbrev pub has_place : ℕ → Bool
has_place number = eqb number (number_of NoParams) || eqb number (number_of CutParams)

unfoldable pub fault_text : ℕ → ℕ → List ℕ
fault_text number place = cond (has_place number) (refused_text number place) (refused_head ++ ended number newline)
