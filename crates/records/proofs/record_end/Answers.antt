-- Each return is `record_end` by the tests that led there.
use Rattle.records.proofs.Records.{end_short, end_far, end_head, end_cut, end_at}
use borrow.Author.Rules.{rules}
use Rattle.records.proofs.record_end.Goals as goal

pub returns-then-ws-lt-HEAD : goal.returns-then-ws-lt-HEAD
returns-then-ws-lt-HEAD c = search (rules, end_short)

pub returns-then-ws-i : goal.returns-then-ws-i
returns-then-ws-i c = search (rules, end_far)

pub returns-then-not-head_ok : goal.returns-then-not-head_ok
returns-then-not-head_ok c = search (rules, end_head)

pub returns-then-ws-i-2 : goal.returns-then-ws-i-2
returns-then-ws-i-2 c = search (rules, end_cut)

pub returns : goal.returns
returns c = end_at _ _ c.if-ws-lt-HEAD.false c.if-ws-i.false _ c.head_ok.ensures c.if-not-head_ok.false-raw _ _ c.wide-tags.ensures c.wide-geometry.ensures c.if-ws-i-2.false
