use native.Mathlib.Omega.{arith}
use borrow.Author.Rules.{rules}
use Rattle.reader.proofs.Counting.{count_start, count_end, count_faulty, count_turn, count_less}
use Rattle.reader.proofs.packed.count_varints.Goals as goal

pub loop-i-init : goal.loop-i-init
loop-i-init c = count_start _ _

pub returns-in_err-next : goal.returns-in_err-next
returns-in_err-next c = search (rules, count_faulty)

pub overflow_add-n : goal.overflow_add-n
overflow_add-n c = omega (arith, c.loop-i.invariant.few)

pub loop-i-smaller : goal.loop-i-smaller
loop-i-smaller c = search (rules, count_less)

pub loop-i-preserved : goal.loop-i-preserved
loop-i-preserved c = count_turn _ _ _ _ c.loop-i.invariant _ (search rules) c.varint_at.ensures _ _ c.in_ok-next.was

pub returns : goal.returns
returns c = search (rules, count_end)
