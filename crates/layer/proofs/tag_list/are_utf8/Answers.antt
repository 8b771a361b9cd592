use native.Mathlib.Omega.{arith}
use borrow.Author.Rules.{rules}
use Rattle.layer.proofs.Listing.{each_start}
use Rattle.layer.proofs.Turns.{utf8_asked, utf8_fails, utf8_on, utf8_done}
use Rattle.layer.proofs.tag_list.are_utf8.Goals as goal

pub loop-t-init : goal.loop-t-init
loop-t-init c = search (rules, each_start)

pub is_tag_utf8-requires : goal.is_tag_utf8-requires
is_tag_utf8-requires c = rw c.as_chunks.ensures.front (utf8_asked c.loop-t.invariant (omega (arith, c.as_chunks.ensures.front_len)))

pub returns-then-not-is_tag_utf8 : goal.returns-then-not-is_tag_utf8
returns-then-not-is_tag_utf8 c = utf8_fails c.loop-t.invariant (omega (arith, c.as_chunks.ensures.front_len)) _ (rw c.as_chunks.ensures.front at c.is_tag_utf8.ensures) c.if-not-is_tag_utf8.true-raw

pub loop-t-preserved : goal.loop-t-preserved
loop-t-preserved c = utf8_on c.loop-t.invariant (omega (arith, c.as_chunks.ensures.front_len)) _ (rw c.as_chunks.ensures.front at c.is_tag_utf8.ensures) c.if-not-is_tag_utf8.false-raw

pub returns : goal.returns
returns c = utf8_done c.loop-t.invariant (omega (arith, c.as_chunks.ensures.front_len))
