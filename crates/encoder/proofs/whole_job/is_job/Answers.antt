-- JOB asks the length of the list of coordinates alone.
use borrow.Author.Rules.{rules}
use Rattle.encoder.specs.Jobs.{is_job}
use Rattle.encoder.proofs.whole_job.is_job.Goals as goal

pub returns : goal.returns
unfolding is_job
returns c = search rules
