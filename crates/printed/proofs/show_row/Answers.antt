use native.Mathlib.Omega.{arith}
use borrow.Author.Rules.{rules}
use Prim.Native.Nat.{◌-◌}
use lib.IntN.{pos}
use lib.ListN.{get_or}
use mir.Syntax.{w64}
use Rattle.whole.proofs.Machine.{Back, back}
use Rattle.printed.specs.Row.{row_text, row_room}
use Rattle.printed.proofs.Pieces.{pieces_start, pieces_room, pieces_turn, pieces_done}
use Rattle.printed.proofs.Columns.{not_shown}
use Rattle.printed.proofs.Signs.{signed_short, row_turn, row_done, row_shown}
use Rattle.printed.proofs.show_row.Goals as goal

pub returns-then-text-n : goal.returns-then-text-n
returns-then-text-n c = not_shown (row_room c.args.numbers.now) (row_text c.args.numbers.now) c.args.text.now (omega arith)

pub loop-i-init : goal.loop-i-init
loop-i-init c = pieces_start (omega arith)

pub append_signed-next-requires : goal.append_signed-next-requires
append_signed-next-requires c = pieces_room c.loop-i.invariant (search rules)

pub loop-i-preserved : goal.loop-i-preserved
loop-i-preserved c =
    let zs = c.args.numbers.now in
    let b : Back w64 (get_or zs c.loop-i.i (pos 0)) = back {w = w64} (record { sfits = c.append_signed-arg-1.given }) in
    pieces_turn c.loop-i.invariant _ _ _ _ (search rules) (signed_short (get_or zs c.loop-i.i (pos 0)) c.separator-end.result) (row_turn zs c.loop-i.i c.separator-end.result (search rules) c.separator-end.ensures) (search rules) (rw b at c.append_signed-next.ensures)

pub returns : goal.returns
returns c =
    row_shown c.args.numbers.now c.args.text.now _ _ (omega arith) (pieces_done c.loop-i.invariant (row_done c.args.numbers.now c.loop-i.i (search rules)))
