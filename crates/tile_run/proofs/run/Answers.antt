-- The tests are the definition's; then the run from the first operation on.
use Rattle.tile_run.proofs.Courses.{no_room, no_extent, whole_run}
use borrow.Author.Rules.{rules}
use Rattle.tile_run.proofs.run.Goals as goal

pub returns-then-outcomes-numbers : goal.returns-then-outcomes-numbers
returns-then-outcomes-numbers c =
    no_room _ c.args.numbers.now c.args.outcomes.now _ (search rules)

pub returns-then-numbers-eq0 : goal.returns-then-numbers-eq0
returns-then-numbers-eq0 c =
    no_extent _ c.args.numbers.now c.args.outcomes.now _ (search rules) (search rules)

pub returns : goal.returns
returns c =
    whole_run _ c.args.numbers.now c.args.outcomes.now _ c.if-outcomes-numbers.false _ _ _ c.if-numbers-eq0.false c.new.ensures c.run_from.ensures
