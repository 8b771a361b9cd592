-- Each turn lays the next outcome's line behind those that are laid.
use Prim.Native.Nat.{◌-◌}
use lib.ListN.{length, drop}
use Rattle.printed.specs.Tiles.{outcome_lines}
use Rattle.printed.proofs.Pieces.{Pieces}
use Rattle.printed.proofs.append_outcomes.Given as goal

abbrev pub invariant-loop-outcome : goal.invariant-loop-outcome
invariant-loop-outcome l = Pieces 29 (length l.outcomes) l.at (outcome_lines l.outcomes) l.initial.text l.text l.next l.outcome-index (outcome_lines (drop l.outcome-index l.outcomes))
