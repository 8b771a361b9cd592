use native.Mathlib.Omega.{arith}
use lib.ListN.{get_or}
use Rattle.printed.proofs.Pieces.{pieces_start, pieces_room, pieces_turn, pieces_done}
use Rattle.printed.proofs.Columns.{not_shown}
use Rattle.opened.specs.Quoted.{quoted_text, quoted_room}
use Rattle.opened.proofs.Chains.{front}
use Rattle.opened.proofs.Escapes.{escaped_short, quoted_turn, quoted_done}
use borrow.Author.Rules.{rules}
use Rattle.opened.proofs.quoted.show_quoted.Goals as goal

pub returns-then-text-n : goal.returns-then-text-n
returns-then-text-n c = let a = c.args in not_shown (quoted_room a.bytes.now) (quoted_text a.is_text a.bytes.now) a.text.now (omega arith)

pub loop-b-init : goal.loop-b-init
loop-b-init c = pieces_start (omega arith)

pub append_escaped-next-requires : goal.append_escaped-next-requires
append_escaped-next-requires c = pieces_room c.loop-b.invariant (search rules)

pub loop-b-preserved : goal.loop-b-preserved
loop-b-preserved c =
    let a = c.args in
    pieces_turn c.loop-b.invariant _ _ _ _ (search rules) (escaped_short a.is_text (get_or a.bytes.now c.loop-b.b-index 0))
    (quoted_turn a.is_text a.bytes.now c.loop-b.b-index (search rules)) (search rules) c.append_escaped-next.ensures

pub returns : goal.returns
returns c =
    let a = c.args in
    front (quoted_room a.bytes.now) (quoted_text a.is_text a.bytes.now) a.text.now (omega arith)
    (pieces_done c.loop-b.invariant (quoted_done a.is_text a.bytes.now c.loop-b.b-index (search rules)))
