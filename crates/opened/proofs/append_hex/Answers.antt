-- The library lays so many digits where the number has no more, behind the name.
use native.Mathlib.Omega.{arith}
use Rattle.opened.proofs.Chains.{then_laid}
use Rattle.opened.proofs.Spelling.{as_many, hex_spelt}
use Rattle.opened.proofs.append_hex.Goals as goal

-- there are as many digits as are asked for
pub append-requires : goal.append-requires
append-requires c =
    omega (
      arith,
      as_many c.args.count c.args.n c.hex-k.result (omega arith) (omega arith) c.requires.n_bound c.hex-k.ensures.len,
      c.hex-k.ensures.in_bounds,
      c.append-next.ensures.answer,
    )

pub returns : goal.returns
returns c =
    let d = c.hex-k in
    let e = hex_spelt c.args.count c.args.n d.result (omega arith) (omega arith) c.requires.n_bound d.ensures.len _ d.ensures.digits in
    then_laid c.args.name.now _ c.args.text.now c.args.at (omega arith) c.append-next.ensures (rw e at c.append.ensures)
