-- The second number is laid behind the first and its blank.
use native.Mathlib.Omega.{arith}
use Rattle.printed.specs.Printed.{space}
use Rattle.printed.proofs.Decimals.{ended_short}
use Rattle.printed.proofs.Pairs.{pair_laid}
use Rattle.printed.proofs.append_pair.Goals as goal

pub append_number-requires : goal.append_number-requires
append_number-requires c =
    omega (arith, c.append_number-next.ensures.answer, ended_short c.long.result space)

pub returns : goal.returns
returns c =
    pair_laid c.args.first c.args.second _ _ c.args.at _ _ c.args.text.now _ _ c.long.ensures.same c.long-2.ensures.same c.requires c.append_number-next.ensures c.append_number.ensures
