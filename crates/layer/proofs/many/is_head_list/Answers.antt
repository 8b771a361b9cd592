-- Each head is the six words at its index, and no word is behind the last.
use native.Mathlib.Omega.{arith}
use Rattle.layer.proofs.Heads.{start}
use Rattle.layer.proofs.Turns.{head_past, head_words, head_tags, head_on, heads_end}
use Rattle.layer.proofs.many.is_head_list.Goals as goal

pub loop-h-init : goal.loop-h-init
loop-h-init c = start _ _ _

pub returns-then-not-h-a : goal.returns-then-not-h-a
returns-then-not-h-a c = head_past c.loop-h.invariant (omega (arith, c.as_chunks.ensures.front_len)) _ _ (rw c.as_chunks.ensures.front at c.wide-a.ensures.same) (rw c.as_chunks.ensures.front at c.wide-b.ensures.same) (rw c.as_chunks.ensures.front at c.if-not-h-a.true-raw)

pub overflow_sub-w : goal.overflow_sub-w
overflow_sub-w c = head_words c.loop-h.invariant (omega (arith, c.as_chunks.ensures.front_len)) _ _ (rw c.as_chunks.ensures.front at c.wide-a.ensures.same) (rw c.as_chunks.ensures.front at c.wide-b.ensures.same) (rw c.as_chunks.ensures.front at c.if-not-h-a.false-raw)

pub overflow_sub-t : goal.overflow_sub-t
overflow_sub-t c = head_tags c.loop-h.invariant (omega (arith, c.as_chunks.ensures.front_len)) _ _ (rw c.as_chunks.ensures.front at c.wide-a.ensures.same) (rw c.as_chunks.ensures.front at c.wide-b.ensures.same) (rw c.as_chunks.ensures.front at c.if-not-h-a.false-raw)

pub loop-h-preserved : goal.loop-h-preserved
loop-h-preserved c = head_on c.loop-h.invariant (omega (arith, c.as_chunks.ensures.front_len)) _ _ (rw c.as_chunks.ensures.front at c.wide-a.ensures.same) (rw c.as_chunks.ensures.front at c.wide-b.ensures.same) (rw c.as_chunks.ensures.front at c.if-not-h-a.false-raw)

pub returns : goal.returns
returns c = heads_end c.loop-h.invariant (omega (arith, c.as_chunks.ensures.front_len)) (omega (arith, c.as_chunks.ensures.front_len)) _ (rw c.as_chunks.ensures.back_len at c.is_empty.ensures)
