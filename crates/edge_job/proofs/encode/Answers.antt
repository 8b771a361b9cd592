-- JOB, then what a fresh encoder answers, then the calls: the definition is the same chain.
use Rattle.std.proofs.lemmas.Result.{err_from_is_err_and}
use Rattle.edge_job.specs.EdgeJobs.{lists}
use Rattle.edge_job.proofs.Whole.{job_none, job_asked, job_start, job_words, job_stop}
use Rattle.edge_job.proofs.encode.Goals as goal

pub returns-then-not-is_job : goal.returns-then-not-is_job
returns-then-not-is_job c =
    job_none c.args.kind c.args.bbox c.args.points.now c.args.ends.now (lists c.args.words.now c.args.edges.now) _ c.is_job.ensures c.if-not-is_job.true-raw

pub add_parts-requires : goal.add_parts-requires
add_parts-requires c =
    job_asked c.args.kind c.args.bbox c.args.points.now c.args.ends.now (lists c.args.words.now c.args.edges.now) _ c.is_job.ensures c.if-not-is_job.false-raw

pub returns-in-Err : goal.returns-in-Err
returns-in-Err c =
    job_start c.args.kind c.args.bbox c.args.points.now c.args.ends.now (lists c.args.words.now c.args.edges.now) _ c.is_job.ensures c.if-not-is_job.false-raw c.new.result c.new.ensures _ c.in-Err.is

pub returns-in_ok-add_parts-in-Ok : goal.returns-in_ok-add_parts-in-Ok
returns-in_ok-add_parts-in-Ok c =
    job_words c.args.kind c.args.bbox c.args.points.now c.args.ends.now (lists c.args.words.now c.args.edges.now) _ c.is_job.ensures c.if-not-is_job.false-raw c.new.result c.new.ensures _ c.in-Ok.is c.add_parts.result _ c.add_parts.ensures _ c.in_ok-add_parts-in-Ok.was

pub returns-in_err-add_parts-in-Ok : goal.returns-in_err-add_parts-in-Ok
returns-in_err-add_parts-in-Ok c =
    let p = err_from_is_err_and c.from_residual.result c.from_residual.ensures.1 in
    rw (p.1, p.2)
    (job_stop c.args.kind c.args.bbox c.args.points.now c.args.ends.now (lists c.args.words.now c.args.edges.now) _ c.is_job.ensures c.if-not-is_job.false-raw c.new.result c.new.ensures _ c.in-Ok.is c.add_parts.result _ c.add_parts.ensures _ c.in_err-add_parts-in-Ok.was)
