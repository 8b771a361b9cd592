use Rattle.std.proofs.lemmas.Result.{err_from_is_err_and}
use Rattle.encoder.proofs.Turns.{parts_start, parts_all, part_asked, parts_turn, parts_stop}
use borrow.Author.Rules.{rules}
use Rattle.encoder.proofs.whole_job.add_parts.Goals as goal

pub loop-end-init : goal.loop-end-init
loop-end-init c = search (rules, parts_start)

pub add_part-requires : goal.add_part-requires
add_part-requires c = let whole = part_asked _ _ _ _ _ _ _ _ c.loop-end.invariant c.loop-end-test.true in record { from_le_to = whole.0; to_in_bounds = whole.1.0; sound = whole.1.1 }

pub returns-in_err-q : goal.returns-in_err-q
returns-in_err-q c =
    let p = err_from_is_err_and c.from_residual.result c.from_residual.ensures.1 in
    rw (p.1, p.2) (parts_stop _ _ _ _ _ _ _ _ c.loop-end.invariant c.loop-end-test.true c.add_part.result _ c.add_part.ensures _ c.in_err-q.was)

pub loop-end-preserved : goal.loop-end-preserved
loop-end-preserved c =
    parts_turn _ _ _ _ _ _ _ _ c.loop-end.invariant c.loop-end-test.true c.add_part.result _ c.add_part.ensures _ c.in_ok-q.was (search rules)

pub returns : goal.returns
returns c = search (rules, parts_all)
