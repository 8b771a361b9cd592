use mathlib.Core.Path.{◌∙◌}
use borrow.Author.Rules.{rules}
use Rattle.messages.proofs.Reading.{far_start, far_cut, far_ends, far_turn, far_is, far_not}
use Rattle.messages.proofs.numbers.long_end.Goals as goal

pub loop-i-init : goal.loop-i-init
loop-i-init c = search (rules, far_start)

pub returns-in_err-c : goal.returns-in_err-c
returns-in_err-c c = c.from_residual.ensures ∙ far_cut _ _ _ c.loop-i.invariant (search rules)

pub returns-then-c-lt-MORE : goal.returns-then-c-lt-MORE
returns-then-c-lt-MORE c = far_ends _ _ _ c.loop-i.invariant (search rules) (search rules) (search rules)

pub loop-i-preserved : goal.loop-i-preserved
loop-i-preserved c = search (rules, far_turn)

pub returns : goal.returns
returns c = search (rules, far_is)

pub returns-in_err-next : goal.returns-in_err-next
returns-in_err-next c = search (rules, far_not)
