-- A message of one byte is none, so that its length has a unit more; the sum fits, since a unit is 2 to the 63rd at most.
use borrow.Author.Rules.{rules}
use Rattle.scanning.proofs.Living.{raised_fits, body_raised, body_plain}
use Rattle.scanning.proofs.alive.least_body.Goals as goal

pub overflow_add-result : goal.overflow_add-result
overflow_add-result c = search (rules, raised_fits)

pub returns-then-v-eq1 : goal.returns-then-v-eq1
returns-then-v-eq1 c = search (rules, body_raised)

pub returns-else-v-eq1 : goal.returns-else-v-eq1
returns-else-v-eq1 c = search (rules, body_plain)
