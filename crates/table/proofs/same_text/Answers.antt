-- The bytes at start are compared with all of the key.
use Rattle.std.proofs.Common.{◌≡◌, ◌∙◌, ◌+◌, ◌-◌, arith}
use Rattle.table.proofs.Same.{text_is}
use Rattle.table.proofs.same_text.Goals as goal

pub returns : goal.returns
returns c = let z : c.args.start + c.args.len - c.args.start ≡ c.args.len = omega arith in c.eq.ensures ∙ rw z (text_is _ _ _ _ c.if-len-key.false c.if-texts-start.false c.if-texts-start-2.false)
