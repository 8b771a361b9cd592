-- The tests are the definition's, and a byte has two hexadecimal digits.
use Rattle.opened.proofs.Escapes.{marked, plain, in_hex}
use Rattle.opened.proofs.quoted.append_escaped.Goals as goal

pub returns-then-is_marked : goal.returns-then-is_marked
returns-then-is_marked c =
    let a = c.args in
    rw (marked a.is_text a.b c.is_marked.ensures c.if-is_marked.true) c.append.ensures

pub returns-then-is_plain : goal.returns-then-is_plain
returns-then-is_plain c =
    let a = c.args in
    rw (plain a.is_text a.b c.is_marked.ensures c.if-is_marked.false c.is_plain.ensures c.if-is_plain.true) c.append-then-is_plain.ensures

pub returns : goal.returns
returns c =
    let a = c.args in
    rw (in_hex a.is_text a.b c.is_marked.ensures c.if-is_marked.false c.is_plain.ensures c.if-is_plain.false) c.append_hex.ensures
