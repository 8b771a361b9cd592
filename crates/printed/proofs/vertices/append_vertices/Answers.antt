use Prim.Native.Nat.{◌+◌, ◌*◌, ◌-◌}
use native.Mathlib.Omega.{arith}
use mathlib.Core.List.{List}
use lib.IntN.{ℤ, pos}
use lib.ListN.{get_or}
use mir.Syntax.{w32}
use mir.Val.{SFits}
use Rattle.whole.proofs.Machine.{back}
use Rattle.printed.proofs.Pieces.{pieces_start}
use Rattle.printed.proofs.Triples.{lines_turn, lines_end, lines_inside}
use borrow.Author.Rules.{rules}
use Rattle.printed.proofs.vertices.append_vertices.Goals as goal

pub loop-i-init : goal.loop-i-init
loop-i-init c = record { pieces = pieces_start (omega (arith, c.requires.numbers_in_bounds)); digits = c.requires.numbers_value }

pub append_vertex-next-requires : goal.append_vertex-next-requires
append_vertex-next-requires c = let p = c.loop-i.invariant.pieces in omega (arith, p.place, p.short, p.long, c.requires.numbers_in_bounds, c.loop-i-test.true)

pub loop-i-preserved : goal.loop-i-preserved
loop-i-preserved c =
    let zs : List ℤ = c.args.numbers.now in
    let fi : SFits w32 (get_or zs (3 * c.loop-i.i) (pos 0)) = record { sfits = c.id-1.given } in
    let fx : SFits w32 (get_or zs (3 * c.loop-i.i + 1) (pos 0)) = record { sfits = c.x-1.given } in
    let fy : SFits w32 (get_or zs (3 * c.loop-i.i + 2) (pos 0)) = record { sfits = c.y-1.given } in
    lines_turn c.loop-i.invariant _ _ (omega arith) fx fy (search rules) (rw (back fi, back fx, back fy) at c.append_vertex-next.ensures)

pub returns : goal.returns
returns c = record { appends = lines_end c.loop-i.invariant (omega arith); inside = lines_inside c.loop-i.invariant }
