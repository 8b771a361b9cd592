-- The part is lent where it ends within the numbers, else nothing.
use native.Mathlib.Omega.{arith}
use Rattle.script.proofs.Reading.{words_past, words_inside}
use Rattle.script.proofs.words.Goals as goal

pub returns-then-numbers-from : goal.returns-then-numbers-from
returns-then-numbers-from c = words_past c.args.numbers.now c.args.p (omega arith)

pub returns-then-numbers-from-2 : goal.returns-then-numbers-from-2
returns-then-numbers-from-2 c = words_past c.args.numbers.now c.args.p (omega arith)

pub returns : goal.returns
returns c = words_inside c.args.numbers.now c.args.p (omega arith)
