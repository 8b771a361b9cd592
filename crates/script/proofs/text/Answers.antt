-- The part is lent where it ends within the bytes, else nothing.
use native.Mathlib.Omega.{arith}
use Rattle.script.proofs.Reading.{text_past, text_inside}
use Rattle.script.proofs.text.Goals as goal

pub returns-then-bytes-start : goal.returns-then-bytes-start
returns-then-bytes-start c = text_past c.args.bytes.now c.args.p (omega arith)

pub returns-then-bytes-from : goal.returns-then-bytes-from
returns-then-bytes-from c = text_past c.args.bytes.now c.args.p (omega arith)

pub returns : goal.returns
returns c = text_inside c.args.bytes.now c.args.p (omega arith)
