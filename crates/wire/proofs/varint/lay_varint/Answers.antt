use native.Mathlib.Omega.{arith}
use Rattle.wire.proofs.Varints.{writing_start, writing_room, writing_turn, writing_end}
use borrow.Author.Rules.{rules}
use Rattle.wire.proofs.varint.lay_varint.Goals as goal

pub loop-m-init : goal.loop-m-init
loop-m-init c = writing_start _ _ (omega arith)

pub bounds-out-i : goal.bounds-out-i
bounds-out-i c = search (rules, writing_room)

pub loop-m-preserved : goal.loop-m-preserved
loop-m-preserved c = search (rules, writing_turn)

pub bounds-out-i-2 : goal.bounds-out-i-2
bounds-out-i-2 c = search (rules, writing_room)

pub returns : goal.returns
returns c = search (rules, writing_end)
