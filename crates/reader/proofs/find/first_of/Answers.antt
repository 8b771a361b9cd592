use mathlib.Core.Path.{refl}
use borrow.Author.Rules.{rules}
use Rattle.reader.proofs.Finding.{none_left, cannot_read, found_here, goes_on, fewer_left}
use Rattle.reader.proofs.find.first_of.Goals as goal

pub loop-at-init : goal.loop-at-init
loop-at-init c = refl

pub returns-in_default : goal.returns-in_default
returns-in_default c = search (rules, cannot_read)

pub returns-then-f-key : goal.returns-then-f-key
returns-then-f-key c = search (rules, found_here)

pub loop-at-smaller : goal.loop-at-smaller
loop-at-smaller c = search (rules, fewer_left)

pub loop-at-preserved : goal.loop-at-preserved
loop-at-preserved c = search (rules, goes_on)

pub returns : goal.returns
returns c = search (rules, none_left)
