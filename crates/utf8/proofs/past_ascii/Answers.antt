use Rattle.std.proofs.Common.{rules, ◌≡◌, length, arith}
use Rattle.utf8.proofs.Laws.{read_start, next_four}
use Rattle.utf8.proofs.past_ascii.Goals as goal

pub loop-k-init : goal.loop-k-init
loop-k-init c = search (rules, read_start)

pub loop-k-preserved : goal.loop-k-preserved
loop-k-preserved c = next_four c.args.text.now c.loop-k.k c.loop-k.invariant (omega (arith, c.loop-k-test.true, c.as_chunks.ensures.front_len)) _ (rw c.as_chunks.ensures.front at c.are_ascii.ensures) c.if-not-are_ascii.false

pub returns : goal.returns
returns c = let e : length c.as_chunks.result.0.now ≡ c.loop-k.k = omega arith in rw e c.loop-k.invariant
