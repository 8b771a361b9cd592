-- Good by the reading message by message; else the fault's place by the automaton.
use mathlib.Core.Path.{sym, ◌∙◌}
use Rattle.tile_check.proofs.Checks.{check_good, check_not}
use Rattle.tile_check.proofs.check.Goals as goal

pub returns : goal.returns
returns c = check_good _ _ (sym c.in-Some.is ∙ c.layers_in.ensures)

pub returns-in_default : goal.returns-in_default
returns-in_default c = check_not _ (sym c.in_default.is ∙ c.layers_in.ensures) _ c.place_of.ensures
