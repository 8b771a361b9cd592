-- Nothing that can be read, or what performing the operation gave.
use Rattle.tile_run.proofs.Courses.{step_bad, step_is}
use Rattle.tile_run.specs.Running.{stepped}
use borrow.Author.Rules.{rules}
use Rattle.tile_run.proofs.advance.Goals as goal

pub returns-in_err-op : goal.returns-in_err-op
returns-in_err-op c = search (rules, step_bad)

pub returns : goal.returns
unfolding stepped
returns c = search (rules, step_is)
