-- The entries are asked for first, and are those of the call that is accepted. What the machine reads back from the bits of x and y is x and y.
use native.Mathlib.Omega.{arith}
use mir.Facts.{to_z-of_z}
use Rattle.std.proofs.lemmas.Result.{err_from_is_err_and}
use Rattle.edge_job.proofs.Calls.{no_entries, drawn_on, drawn_off}
use Rattle.edge_job.proofs.add_point.Goals as goal

pub returns-then-edges-i : goal.returns-then-edges-i
returns-then-edges-i c =
    no_entries c.args.s _ c.args.i c.args.words.now c.args.edges.now c.if-edges-i.true _ (rw (to_z-of_z c.ranges.x, to_z-of_z c.ranges.y) at c.refuse.ensures)

pub note-requires : goal.note-requires
note-requires c = let h = c.if-edges-i.false in omega arith

pub returns-in_err-t : goal.returns-in_err-t
returns-in_err-t c =
    let h = c.if-edges-i.false in
    let p = err_from_is_err_and c.from_residual.result c.from_residual.ensures.1 in
    rw (p.1, p.2)
    (drawn_off c.args.s _ c.args.i c.args.words.now c.args.edges.now (omega arith) _ c.add_point.result
    (rw (to_z-of_z c.ranges.x, to_z-of_z c.ranges.y) at c.add_point.ensures.answer) (rw (to_z-of_z c.ranges.x, to_z-of_z c.ranges.y) at c.add_point.ensures.edges) _ c.in_err-t.was)

pub returns : goal.returns
returns c =
    let h = c.if-edges-i.false in
    drawn_on c.args.s _ c.args.i c.args.words.now c.args.edges.now (omega arith) _ c.add_point.result
    (rw (to_z-of_z c.ranges.x, to_z-of_z c.ranges.y) at c.add_point.ensures.answer) (rw (to_z-of_z c.ranges.x, to_z-of_z c.ranges.y) at c.add_point.ensures.edges) _ _ c.in_ok-t.was _ c.note.ensures
