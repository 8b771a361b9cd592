-- By the two cases of the answer; a refusal's number is never 0.
use Rattle.brinepost.proofs.Structs.{job_done, job_not}
use borrow.Author.Rules.{rules}
use Rattle.brinepost.proofs.work.answered.Goals as goal

pub returns-in-Ok : goal.returns-in-Ok
returns-in-Ok c = search (rules, job_done)

pub returns-in-Err : goal.returns-in-Err
returns-in-Err c = search (rules, job_not)
