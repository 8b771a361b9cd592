use borrow.Author.Rules.{rules}
use Rattle.reader.proofs.Heading.{heading_first, heading_done, heading_broken, with_taken, heading_less, heading_goes_on}
use Rattle.reader.proofs.layers.layer_in.Goals as goal

pub loop-at-init : goal.loop-at-init
loop-at-init c = search (rules, heading_first)

pub returns-in_default : goal.returns-in_default
returns-in_default c = search (rules, heading_broken)

pub with-h-requires : goal.with-h-requires
with-h-requires c = search (rules, with_taken)

pub loop-at-smaller : goal.loop-at-smaller
loop-at-smaller c = search (rules, heading_less)

pub loop-at-preserved : goal.loop-at-preserved
loop-at-preserved c = search (rules, heading_goes_on)

pub returns : goal.returns
returns c = search (rules, heading_done)
