use Prim.Native.Nat.{◌-◌}
use borrow.Author.Rules.{rules}
use Rattle.printed.proofs.Decimals.{ended_short}
use Rattle.printed.proofs.Pieces.{pieces_start, pieces_room, pieces_turn, pieces_done}
use Rattle.printed.proofs.Columns.{column_turn, column_done}
use Rattle.printed.specs.Printed.{newline}
use Rattle.printed.proofs.append_words.Goals as goal

pub loop-word-init : goal.loop-word-init
loop-word-init c = pieces_start c.requires

pub append_number-next-requires : goal.append_number-next-requires
append_number-next-requires c = pieces_room c.loop-word.invariant (search rules)

pub loop-word-preserved : goal.loop-word-preserved
loop-word-preserved c =
    pieces_turn c.loop-word.invariant _ _ _ _ (search rules) (ended_short c.long.result newline) (column_turn c.args.words.now c.loop-word.word-index c.long.result (search rules) c.long.ensures.same) (search rules) c.append_number-next.ensures

pub returns : goal.returns
returns c = pieces_done c.loop-word.invariant (column_done c.args.words.now c.loop-word.word-index (search rules))
