-- What the start answers, then the calls.
use Rattle.encoder.proofs.Whole.{job_asked, job_start, job_ran}
use borrow.Author.Rules.{rules}
use Rattle.encoder.proofs.whole_job.finish.Goals as goal

pub add_parts-requires : goal.add_parts-requires
add_parts-requires c = let whole = job_asked c.args.kind c.args.bbox c.args.points.now c.args.ends.now c.args.words.now c.start.result c.start.ensures _ c.in-Ok.is in record { points_value = whole.0; sound = whole.1 }

pub returns-in-Ok : goal.returns-in-Ok
returns-in-Ok c = search (rules, job_ran)

pub returns-in-Err : goal.returns-in-Err
returns-in-Err c = search (rules, job_start)
