-- The library lays the fewest digits that hold the number, which are its decimal; at most twenty, so the end fits behind them.
use native.Mathlib.Omega.{arith}
use Rattle.printed.proofs.Decimals.{twenty, number_laid}
use Rattle.printed.proofs.append_number.Goals as goal

pub append-requires : goal.append-requires
append-requires c = omega (arith, twenty c.args.n c.decimal-k.result (omega arith) c.decimal-k.ensures.len, c.decimal-k.ensures.in_bounds)

pub overflow_add-next : goal.overflow_add-next
overflow_add-next c = omega (arith, twenty c.args.n c.decimal-k.result (omega arith) c.decimal-k.ensures.len)

pub bounds-text-next : goal.bounds-text-next
bounds-text-next c = omega (arith, twenty c.args.n c.decimal-k.result (omega arith) c.decimal-k.ensures.len)

pub overflow_add-result : goal.overflow_add-result
overflow_add-result c = omega (arith, twenty c.args.n c.decimal-k.result (omega arith) c.decimal-k.ensures.len)

pub returns : goal.returns
returns c =
    number_laid c.args.n c.args.at c.args.end c.decimal-k.result _ c.args.text.now c.requires c.decimal-k.ensures.in_bounds.1
    (twenty c.args.n c.decimal-k.result (omega arith) c.decimal-k.ensures.len) c.decimal-k.ensures.len c.decimal-k.ensures.digits _ c.append.ensures
