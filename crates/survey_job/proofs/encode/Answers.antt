-- JOB, then what a fresh encoder answers, then the calls: the definition is the same chain.
use Rattle.std.proofs.lemmas.Result.{err_from_is_err_and}
use Rattle.survey_job.proofs.Whole.{none, asked, start, all, stop}
use borrow.Author.Rules.{rules}
use Rattle.survey_job.proofs.encode.Goals as goal

pub returns-then-not-is_job_of : goal.returns-then-not-is_job_of
returns-then-not-is_job_of c = search (rules, none)

pub add_in_blocks-requires : goal.add_in_blocks-requires
add_in_blocks-requires c = let whole = asked c.args.kind c.args.bbox c.args.map c.args.points.now c.args.ends.now c.args.words.now _ c.is_job_of.ensures c.if-not-is_job_of.false-raw c.new.result c.new.ensures _ c.in-Ok.is in record { points_value = whole.0; sound = whole.1 }

pub returns-in-Err : goal.returns-in-Err
returns-in-Err c = search (rules, start)

pub returns-in_ok-t-in-Ok : goal.returns-in_ok-t-in-Ok
returns-in_ok-t-in-Ok c = all c.args.kind c.args.bbox c.args.map c.args.points.now c.args.ends.now c.args.words.now _ c.is_job_of.ensures c.if-not-is_job_of.false-raw c.new.result c.new.ensures _ c.in-Ok.is c.add_in_blocks.result _ c.add_in_blocks.ensures _ c.in_ok-t-in-Ok.was

pub returns-in_err-t-in-Ok : goal.returns-in_err-t-in-Ok
returns-in_err-t-in-Ok c =
    let p = err_from_is_err_and c.from_residual.result c.from_residual.ensures.1 in
    rw (p.1, p.2) (stop c.args.kind c.args.bbox c.args.map c.args.points.now c.args.ends.now c.args.words.now _ c.is_job_of.ensures c.if-not-is_job_of.false-raw c.new.result c.new.ensures _ c.in-Ok.is c.add_in_blocks.result _ c.add_in_blocks.ensures _ c.in_err-t-in-Ok.was)
