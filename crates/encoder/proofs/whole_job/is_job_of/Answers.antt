use Rattle.encoder.proofs.Turns.{no_parts, odd_list, ends_start, ends_all, ends_down, ends_turn}
use borrow.Author.Rules.{rules}
use Rattle.encoder.proofs.whole_job.is_job_of.Goals as goal

pub returns-then-is_empty : goal.returns-then-is_empty
returns-then-is_empty c = search (rules, no_parts)

pub returns-then-length-ne0 : goal.returns-then-length-ne0
returns-then-length-ne0 c = search (rules, odd_list)

pub loop-end-init : goal.loop-end-init
loop-end-init c = search (rules, ends_start)

pub returns-then-end-from : goal.returns-then-end-from
returns-then-end-from c = search (rules, ends_down)

pub loop-end-preserved : goal.loop-end-preserved
loop-end-preserved c = search (rules, ends_turn)

pub returns : goal.returns
returns c = search (rules, ends_all)
