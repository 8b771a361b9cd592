-- Half of a word fits an i32, and so does one less than its negation.
use mathlib.Core.Path.{sym, ◌∙◌}
use native.Mathlib.Omega.{arith}
use mir.Facts.{to_z-of_z}
use Rattle.words.proofs.Params.{half, less_half, less_fits, unparam_even, unparam_odd}
use Rattle.words.proofs.param.ParamInt.decode.Goals as goal

pub returns-then-word-eq0 : goal.returns-then-word-eq0
returns-then-word-eq0 c = half c.args.word (omega arith) ∙ sym (unparam_even _ c.if-word-eq0.true)

pub returns : goal.returns
returns c = to_z-of_z (less_fits c.args.word (omega arith)) ∙ less_half c.args.word (omega arith) ∙ sym (unparam_odd _ c.if-word-eq0.false)
