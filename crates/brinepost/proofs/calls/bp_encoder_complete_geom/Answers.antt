-- By the flags; then what the encoder said of the state that C's stands for.
use Rattle.brinepost.proofs.Tellings.{complete_flagged, complete_told}
use borrow.Author.Rules.{rules}
use Rattle.brinepost.proofs.calls.bp_encoder_complete_geom.Goals as goal

pub returns-then-not-are_flags : goal.returns-then-not-are_flags
returns-then-not-are_flags c = search (rules, complete_flagged)

pub returns : goal.returns
returns c = search (rules, complete_told)
