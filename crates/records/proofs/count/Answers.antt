use Rattle.std.proofs.Common.{◌∙◌, rules}
use Rattle.records.proofs.Records.{start, goes_on, gets_on, no_record, all_follow}
use Rattle.records.proofs.count.Goals as goal

pub loop-i-init : goal.loop-i-init
loop-i-init c = start _

pub returns-in_err-i : goal.returns-in_err-i
returns-in_err-i c = c.from_residual.ensures ∙ no_record _ _ _ c.loop-i.invariant c.loop-i-test.true _ c.record_end.ensures c.in_err-i.was

pub loop-i-smaller : goal.loop-i-smaller
loop-i-smaller c = search (rules, gets_on)

pub loop-i-preserved : goal.loop-i-preserved
loop-i-preserved c = goes_on _ _ _ c.loop-i.invariant c.loop-i-test.true _ c.record_end.ensures _ c.in_ok-i.was

pub returns : goal.returns
returns c = search (rules, all_follow)
