-- The four bytes as one word, asked for the highest bit of each.
use Rattle.std.proofs.Common.{rules, ◌≡◌, ◌+◌, ◌*◌, arith}
use Rattle.utf8.proofs.HighBits.{four_ascii}
use Rattle.utf8.proofs.are_ascii.Goals as goal

pub returns : goal.returns
returns c = let a = c.args in
    let z : c.from_le_bytes-word.result ≡ a.a + 256 * a.b + 65536 * a.c + 16777216 * a.d = omega (arith, c.from_le_bytes-word.ensures) in
    rw z (search (rules, four_ascii))
