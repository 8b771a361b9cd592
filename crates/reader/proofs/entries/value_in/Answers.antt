use borrow.Author.Rules.{rules}
use Rattle.reader.proofs.Lowest.{keeping_first, keeping_done, keeping_broken, keeping_less, keeping_goes_on}
use Rattle.reader.proofs.entries.value_in.Goals as goal

pub loop-at-init : goal.loop-at-init
loop-at-init c = search (rules, keeping_first)

pub returns-in_default : goal.returns-in_default
returns-in_default c = search (rules, keeping_broken)

pub loop-at-smaller : goal.loop-at-smaller
loop-at-smaller c = search (rules, keeping_less)

pub loop-at-preserved : goal.loop-at-preserved
loop-at-preserved c = search (rules, keeping_goes_on)

pub returns : goal.returns
returns c = search (rules, keeping_done)
