use borrow.Author.Rules.{rules}
use Rattle.decoder.proofs.Steps.{leads_out, leads_in, x_fits, y_fits, leads_behind}
use Rattle.decoder.proofs.Running.{run_start, run_out, run_turn, run_end, one_less}
use Rattle.decoder.proofs.passes.over.Goals as goal

pub loop-pen-init : goal.loop-pen-init
loop-pen-init c = search (rules, run_start)

pub returns-then-not-is_inside : goal.returns-then-not-is_inside
returns-then-not-is_inside c = search (rules, run_out, leads_out)

pub loop-pen-preserved : goal.loop-pen-preserved
loop-pen-preserved c = search (rules, run_turn, leads_in, leads_behind)

pub returns : goal.returns
returns c = search (rules, run_end)
