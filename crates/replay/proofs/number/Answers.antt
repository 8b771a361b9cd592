-- Past the end there is the 0 that the definition has.
use native.Mathlib.Omega.{arith}
use mathlib.Core.Path.{sym}
use Rattle.replay.proofs.Parts.{number_past}
use Rattle.replay.proofs.number.Goals as goal

pub returns : goal.returns
returns c = sym (number_past c.args.list.now c.args.i (omega arith))
