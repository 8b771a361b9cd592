-- Figures that fit leave a difference to the room, and that is compared with the most that so many tags take.
use Rattle.layer.proofs.Fitting.{Within}
use Rattle.layer.proofs.Walking.{fitting, not_ample, ample_told}
use borrow.Author.Rules.{rules}
use Rattle.layer.proofs.need.is_ample.Goals as goal
use Rattle.layer.proofs.need.is_ample.Tie as tie
use Rattle.layer.proofs.need.is_ample.Reads as contract
use Rattle.layer.proofs.need.is_ample.Lts as places

-- the places on the way that the lemmas below speak of
abbrev Else-not-fits_in : Type 0
Else-not-fits_in = places.Else1 tie.the-claims contract.Pre contract.Post

at_within : (c : Else-not-fits_in) → Within c.args.w c.args.room
at_within c = fitting _ _ _ c.fits_in.ensures c.if-not-fits_in.false-raw

pub returns-then-not-fits_in : goal.returns-then-not-fits_in
returns-then-not-fits_in c = search (rules, not_ample)

pub overflow_sub-result : goal.overflow_sub-result
overflow_sub-result c = (at_within c.before.before).keys

pub overflow_sub-result-2 : goal.overflow_sub-result-2
overflow_sub-result-2 c = (at_within c.before.before.before.before).values

pub overflow_sub-result-3 : goal.overflow_sub-result-3
overflow_sub-result-3 c = (at_within c.before.before.before.before.before.before).texts

pub overflow_sub-result-4 : goal.overflow_sub-result-4
overflow_sub-result-4 c = (at_within c.before.before.before.before.before.before.before.before).features

pub returns : goal.returns
returns c = search (rules, ample_told)
