-- The library lays the fewest digits that hold the number, which are its decimal; at most twenty, so they fit behind the name.
use native.Mathlib.Omega.{arith}
use Rattle.printed.proofs.Decimals.{twenty}
use Rattle.opened.proofs.Chains.{then_laid}
use Rattle.opened.proofs.Spelling.{spelt}
use Rattle.opened.proofs.append_named.Goals as goal

pub append-requires : goal.append-requires
append-requires c =
    omega (arith, twenty c.args.n c.decimal-k.result (omega arith) c.decimal-k.ensures.len, c.decimal-k.ensures.in_bounds, c.append-next.ensures.answer)

pub returns : goal.returns
returns c =
    let d = c.decimal-k in
    let e = spelt c.args.n d.result _ (omega arith) d.ensures.len d.ensures.digits in
    then_laid c.args.name.now _ c.args.text.now c.args.at (omega arith) c.append-next.ensures (rw e at c.append.ensures)
