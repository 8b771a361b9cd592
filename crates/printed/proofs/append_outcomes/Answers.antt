use borrow.Author.Rules.{rules}
use Prim.Native.Nat.{◌-◌}
use lib.ListN.{get_or}
use Rattle.printed.proofs.Pieces.{pieces_start, pieces_room, pieces_turn, pieces_done}
use Rattle.printed.proofs.Rows.{outcome_short, outcomes_turn, outcomes_done}
use Rattle.printed.proofs.append_outcomes.Goals as goal

pub loop-outcome-init : goal.loop-outcome-init
loop-outcome-init c = pieces_start c.requires

pub append_outcome-next-requires : goal.append_outcome-next-requires
append_outcome-next-requires c = pieces_room c.loop-outcome.invariant (search rules)

pub loop-outcome-preserved : goal.loop-outcome-preserved
loop-outcome-preserved c = let os = c.args.outcomes.now in pieces_turn c.loop-outcome.invariant _ _ _ _ (search rules) (outcome_short (get_or os c.loop-outcome.outcome-index 0)) (outcomes_turn os c.loop-outcome.outcome-index (search rules)) (search rules) c.append_outcome-next.ensures

pub returns : goal.returns
returns c = pieces_done c.loop-outcome.invariant (outcomes_done c.args.outcomes.now c.loop-outcome.outcome-index (search rules))
