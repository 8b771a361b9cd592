-- Nothing where the state is none to start from; else the loop of its pen, up to the last point that the list has, or that can be counted.
use native.Mathlib.Omega.{arith}
use lib.ListN.{length}
use Rattle.encoder.proofs.Drawing.{stretch_none, last_within, stretch_asked, counting_asked, stretch_run}
use Rattle.encoder.proofs.Tallies.{Counts}
use borrow.Author.Rules.{rules}
use Rattle.encoder.proofs.stretch.add_stretch.Goals as goal
use Rattle.encoder.proofs.stretch.add_stretch.Tie as tie
use Rattle.encoder.proofs.stretch.add_stretch.Reads as contract
use Rattle.encoder.proofs.stretch.add_stretch.Lts as places

-- the places on the way that the lemmas below speak of
abbrev Start : Type 0
Start = places.Start tie.the-claims contract.Pre contract.Post tie.handed_clauses

-- a state's counts have 32 bits
small : (s : Start) → Counts s.args.s.tally
small s = record { taken = search rules; bounds = search rules; skips = search rules; outs = search rules }

pub returns-then-not-is_start : goal.returns-then-not-is_start
returns-then-not-is_start c = search (rules, stretch_none)

pub draw_all-requires : goal.draw_all-requires
draw_all-requires c =
    let h = last_within (length c.args.points.now) c.args.to _ c.last_point.ensures in record { end_in_bounds = omega (arith, c.within-end.ensures.1, h); ongoing = stretch_asked c.args.s c.args.points.now c.args.from c.args.to c.args.words.now c.draft_of-d.result c.draft_of-d.ensures _ c.is_start.ensures c.if-not-is_start.false-raw _ c.requires; counting = counting_asked c.args.s c.args.points.now c.args.from c.args.to c.args.words.now c.draft_of-d.result c.draft_of-d.ensures _ c.is_start.ensures c.if-not-is_start.false-raw (small c.before.before.before.before.before.before.before.before.before.before) _ c.last_point.result c.spare.result c.spare.ensures c.within-end.ensures.0 }

pub returns : goal.returns
returns c =
    stretch_run c.args.s c.args.points.now c.args.from c.args.to c.args.words.now c.draft_of-d.result c.draft_of-d.ensures _ c.is_start.ensures c.if-not-is_start.false-raw c.within-end.result c.last_point.result c.last_point.ensures c.spare.result c.spare.ensures c.within-end.ensures.0 _ _ c.draw_all.ensures
