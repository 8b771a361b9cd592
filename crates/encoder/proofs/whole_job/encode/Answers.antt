-- What the start answers, then the calls: the definition is the same chain.
use Rattle.encoder.proofs.Whole.{job_asked, words_start, words_all, words_stop}
use Rattle.std.proofs.lemmas.Result.{err_from_is_err_and}
use borrow.Author.Rules.{rules}
use Rattle.encoder.proofs.whole_job.encode.Goals as goal

pub add_parts-requires : goal.add_parts-requires
add_parts-requires c = let whole = job_asked c.args.kind c.args.bbox c.args.points.now c.args.ends.now c.args.words.now c.start.result c.start.ensures _ c.in-Ok.is in record { points_value = whole.0; sound = whole.1 }

pub returns-in-Err : goal.returns-in-Err
returns-in-Err c = search (rules, words_start)

pub returns-in_err-t : goal.returns-in_err-t
returns-in_err-t c =
    let p = err_from_is_err_and c.from_residual.result c.from_residual.ensures.1 in
    rw (p.1, p.2)
    (words_stop c.args.kind c.args.bbox c.args.points.now c.args.ends.now c.args.words.now c.start.result c.start.ensures _ c.in-Ok.is c.add_parts.result _ c.add_parts.ensures _ c.in_err-t.was)

pub returns : goal.returns
returns c =
    words_all c.args.kind c.args.bbox c.args.points.now c.args.ends.now c.args.words.now c.start.result c.start.ensures _ c.in-Ok.is c.add_parts.result _ c.add_parts.ensures _ c.in_ok-t.was
