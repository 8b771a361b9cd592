use Prim.Native.Nat.{◌-◌}
use native.Mathlib.Omega.{arith}
use borrow.Author.Rules.{rules}
use mathlib.Core.Path.{◌∙◌, ap}
use Rattle.std.specs.Prelude.{Ok}
use Rattle.std.proofs.lemmas.Result.{err_from_is_err_and}
use Rattle.decoder.proofs.Standing.{count_start, count_end, count_few, count_bad, count_close, close_nearer, count_stands, count_small, count_out, count_draw, draw_nearer}
use Rattle.decoder.proofs.passes.size.Goals as goal

pub loop-pen-init : goal.loop-pen-init
loop-pen-init c = search (rules, count_start)

pub loop-pen-preserved-in-Close : goal.loop-pen-preserved-in-Close
loop-pen-preserved-in-Close c = search (rules, count_close)

pub returns-in_default : goal.returns-in_default
returns-in_default c = count_out _ _ _ c.loop-pen.invariant c.loop-pen-test.true _ c.ask.ensures _ _ (c.in_ok-ask.was ∙ ap Ok c.in-Draw.is) _ c.begun-first.ensures _ c.over.ensures c.in_default.is

pub loop-pen-preserved : goal.loop-pen-preserved
loop-pen-preserved c = search (rules, count_draw)

pub returns-in_err-ask : goal.returns-in_err-ask
returns-in_err-ask c =
    let p = err_from_is_err_and c.from_residual.result c.from_residual.ensures.1 in
    rw (p.1, p.2) (count_bad _ _ _ c.loop-pen.invariant c.loop-pen-test.true _ c.ask.ensures _ (c.in_err-ask.was))

pub returns : goal.returns
returns c = search (rules, count_end)
