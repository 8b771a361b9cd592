-- The digits are laid, and the line's end behind them.
use Rattle.printed.proofs.Rows.{byte_laid, byte_ended}
use Rattle.printed.proofs.append_byte.Goals as goal

pub returns-then-ends : goal.returns-then-ends
returns-then-ends c = rw c.if-ends.true (byte_ended c.args.b c.args.at _ _ c.args.text.now _ c.hex_digit.ensures c.hex_digit-2.ensures c.append.ensures c.requires _ c.append-then-ends.ensures)

pub returns : goal.returns
returns c = rw c.if-ends.false (byte_laid c.args.b c.args.at _ _ c.args.text.now _ c.hex_digit.ensures c.hex_digit-2.ensures c.append.ensures)
