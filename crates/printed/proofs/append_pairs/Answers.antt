use Prim.Native.Nat.{◌+◌, ◌*◌, ◌-◌}
use native.Mathlib.Omega.{arith}
use borrow.Author.Rules.{rules}
use lib.ListN.{get_or}
use Rattle.printed.proofs.Pieces.{pieces_start, pieces_room, pieces_turn, pieces_done}
use Rattle.printed.proofs.Pairs.{pair_short, pairs_turn, pairs_done}
use Rattle.printed.proofs.append_pairs.Goals as goal

pub loop-i-init : goal.loop-i-init
loop-i-init c = pieces_start (omega arith)

pub append_pair-next-requires : goal.append_pair-next-requires
append_pair-next-requires c = pieces_room c.loop-i.invariant (search rules)

pub loop-i-preserved : goal.loop-i-preserved
loop-i-preserved c =
    let es = c.args.numbers.now in
    pieces_turn c.loop-i.invariant _ _ _ _ (search rules) (pair_short (get_or es (2 * c.loop-i.i) 0) (get_or es (2 * c.loop-i.i + 1) 0)) (pairs_turn es c.loop-i.i (search rules)) (search rules) c.append_pair-next.ensures

pub returns : goal.returns
returns c = pieces_done c.loop-i.invariant (pairs_done c.args.numbers.now c.loop-i.i (search rules))
