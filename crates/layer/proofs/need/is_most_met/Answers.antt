use native.Mathlib.Omega.{arith}
use Rattle.layer.proofs.Walking.{walks_start, walks_past, most_grows, ample_met}
use Rattle.layer.proofs.Turns.{most_asked_in, walks_turn, walks_end}
use borrow.Author.Rules.{rules}
use Rattle.layer.proofs.need.is_most_met.Goals as goal

pub returns-then-is_ample : goal.returns-then-is_ample
returns-then-is_ample c = search (rules, ample_met)

pub loop-t-init : goal.loop-t-init
loop-t-init c = search (rules, walks_start)

pub returns-then-not-fits_in : goal.returns-then-not-fits_in
returns-then-not-fits_in c = search (rules, walks_past, most_grows)

pub most_of-u-requires : goal.most_of-u-requires
most_of-u-requires c = rw c.as_chunks.ensures.front (most_asked_in c.loop-t.invariant (omega (arith, c.as_chunks.ensures.front_len)) c.args.room _ c.fits_in.ensures c.if-not-fits_in.false-raw c.requires.capped)

pub loop-t-preserved : goal.loop-t-preserved
loop-t-preserved c = walks_turn c.loop-t.invariant (omega (arith, c.as_chunks.ensures.front_len)) _ (rw c.as_chunks.ensures.front at c.most_of-u.ensures)

pub returns : goal.returns
returns c = walks_end c.loop-t.invariant (omega (arith, c.as_chunks.ensures.front_len)) c.args.room _ c.fits_in-2.ensures
