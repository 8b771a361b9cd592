use borrow.Author.Rules.{rules}
use Prim.Native.Nat.{◌-◌}
use lib.ListN.{get_or}
use Rattle.printed.proofs.Pieces.{pieces_start, pieces_room, pieces_turn, pieces_done}
use Rattle.printed.proofs.Rows.{hex_short, hex_turn, hex_done}
use Rattle.printed.proofs.append_hex.Goals as goal

pub loop-i-init : goal.loop-i-init
loop-i-init c = pieces_start c.requires

pub append_byte-next-requires : goal.append_byte-next-requires
append_byte-next-requires c = pieces_room c.loop-i.invariant (search rules)

pub loop-i-preserved : goal.loop-i-preserved
loop-i-preserved c = let bs = c.args.bytes.now in pieces_turn c.loop-i.invariant _ _ _ _ (search rules) (hex_short (get_or bs c.loop-i.i 0) c.ends_line-ends.result) (hex_turn bs c.loop-i.i c.ends_line-ends.result (search rules) c.ends_line-ends.ensures) (search rules) c.append_byte-next.ensures

pub returns : goal.returns
returns c = pieces_done c.loop-i.invariant (hex_done c.args.bytes.now c.loop-i.i (search rules))
