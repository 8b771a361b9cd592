-- `clip::cutting::cut_high` meets its contract: the laws of a cut at either side, at the upper one.
use borrow.Author.Rules.{rules}
use Rattle.whole.proofs.Machine.{back}
use Rattle.clip.proofs.Ends.{high}
use Rattle.clip.proofs.Cuts.{Reads, both_out, none_out, asked_0, asked_1, stays_0, goes_0, stays_1, goes_1}
use mir.Syntax.{w32}
use Rattle.clip.proofs.cutting.cut_high.Goals as goal
use Rattle.clip.proofs.cutting.cut_high.Tie as tie
use Rattle.clip.proofs.cutting.cut_high.Reads as contract
use Rattle.clip.proofs.cutting.cut_high.Lts as places

-- the places on the way that the lemmas below speak of
abbrev Start : Type 0
Start = places.Start tie.the-claims contract.Pre contract.Post tie.handed_clauses

reads : (s : Start) → Reads s.args.c.seg s.args.x s.args.a s.args.b
reads s = record { x0 = back {w = w32} (search rules depth 12); y0 = back {w = w32} (search rules depth 12); x1 = back {w = w32} (search rules depth 12); y1 = back {w = w32} (search rules depth 12); at = back s.ranges.x; from = back s.ranges.a; to = back s.ranges.b }

pub returns-then-x-p1 : goal.returns-then-x-p1
returns-then-x-p1 c = both_out high c.args.upper c.args.c c.args.x c.args.a c.args.b (reads c.before.before.before.before.before.before.before.before) c.if-x-p0.true c.if-x-p1.true

pub intersect_at_x-requires : goal.intersect_at_x-requires
intersect_at_x-requires c = asked_0 high c.args.upper c.args.c c.args.x c.args.a c.args.b (reads c.before.before.before.before.before.before.before.before.before) c.requires.coord c.requires.coord_2 c.if-x-p0.true c.if-x-p1.false

pub returns-in-Some : goal.returns-in-Some
returns-in-Some c = goes_0 high c.args.upper c.args.c c.args.x c.args.a c.args.b (reads c.before.before.before.before.before.before.before.before.before.before.before) c.intersect_at_x.result c.intersect_at_x.ensures c.if-x-p0.true c.in-Some.y (back {w = w32} (search rules depth 12)) c.in-Some.is

pub returns-then-x-p0 : goal.returns-then-x-p0
returns-then-x-p0 c = stays_0 high c.args.upper c.args.c c.args.x c.args.a c.args.b (reads c.before.before.before.before.before.before.before.before.before.before) c.intersect_at_x.result c.intersect_at_x.ensures c.in_default.is

pub intersect_at_x-requires-then-x-p1-2 : goal.intersect_at_x-requires-then-x-p1-2
intersect_at_x-requires-then-x-p1-2 c = asked_1 high c.args.upper c.args.c c.args.x c.args.a c.args.b (reads c.before.before.before.before.before.before.before.before.before) c.requires.coord c.requires.coord_2 c.if-x-p0.false c.if-x-p1-2.true

pub returns-in-Some-intersect_at_x : goal.returns-in-Some-intersect_at_x
returns-in-Some-intersect_at_x c = goes_1 high c.args.upper c.args.c c.args.x c.args.a c.args.b (reads c.before.before.before.before.before.before.before.before.before.before.before) c.intersect_at_x-then-x-p1-2.result c.intersect_at_x-then-x-p1-2.ensures c.if-x-p0.false c.if-x-p1-2.true c.in-Some-intersect_at_x.y (back {w = w32} (search rules depth 12)) c.in-Some-intersect_at_x.is

pub returns-in_default-intersect_at_x : goal.returns-in_default-intersect_at_x
returns-in_default-intersect_at_x c = stays_1 high c.args.upper c.args.c c.args.x c.args.a c.args.b (reads c.before.before.before.before.before.before.before.before.before.before) c.intersect_at_x-then-x-p1-2.result c.intersect_at_x-then-x-p1-2.ensures c.in_default-intersect_at_x.is

pub returns-else-x-p1-2 : goal.returns-else-x-p1-2
returns-else-x-p1-2 c = none_out high c.args.upper c.args.c c.args.x c.args.a c.args.b (reads c.before.before.before.before.before.before.before.before) c.if-x-p0.false c.if-x-p1-2.false
