-- JOB, then what a fresh encoder answers.
use Rattle.encoder.proofs.Whole.{start_none, start_some}
use borrow.Author.Rules.{rules}
use Rattle.encoder.proofs.whole_job.start.Goals as goal

pub returns-then-not-is_job : goal.returns-then-not-is_job
returns-then-not-is_job c = search (rules, start_none)

pub returns : goal.returns
returns c = search (rules, start_some)
