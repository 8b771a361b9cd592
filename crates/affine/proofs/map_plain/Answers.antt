use Rattle.std.proofs.Common.{◌≡◌, ◌+◌, ◌≤◌, length, get_or, arith}
use lib.Ieee.{nan}
use Rattle.affine.proofs.Plain.{Tested, cast_across, cast_upward, is_x, is_y}
use Rattle.affine.proofs.Turns.{maps_none, maps_one, maps_long, maps_more}
use Rattle.affine.proofs.map_plain.Goals as goal
use Rattle.affine.proofs.map_plain.Tie as tie
use Rattle.affine.proofs.map_plain.Reads as contract
use Rattle.affine.proofs.map_plain.Lts as places

-- the places on the way that the lemmas below speak of
abbrev At-loop-i : Type 0
At-loop-i = places.At-loop tie.the-claims contract.Pre contract.Post goal.the-invariant-loop-i goal.the-decreases-loop-i tie.handed_clauses

abbrev In-loop-i : Type 0
In-loop-i = places.In-loop tie.the-claims contract.Pre contract.Post goal.the-invariant-loop-i goal.the-decreases-loop-i tie.handed_clauses

abbrev Else-not-on_grid-near : Type 0
Else-not-on_grid-near = places.Else1 tie.the-claims contract.Pre contract.Post goal.the-invariant-loop-i goal.the-decreases-loop-i tie.handed_clauses

pub loop-i-init : goal.loop-i-init
loop-i-init c = maps_none c.requires.to_in_bounds c.requires.to_in_bounds_2 c.requires.from_le_to

-- the list that is laid in keeps its length
long : (c : At-loop-i) → length c.loop-i.out ≡ length c.args.out.now
long c = maps_long c.requires.to_in_bounds c.requires.to_in_bounds_2 c.loop-i.invariant

-- a whole point is left
left : (c : In-loop-i) → c.loop-i.i + 2 ≤ c.args.to
left c =
    omega (arith, c.loop-i.invariant.ahead, c.loop-i.invariant.whole, c.requires.from_le_to, c.requires.from_value, c.loop-i-test.true)

-- what is known of the point at i where its tests have passed
abbrev Passed : Else-not-on_grid-near → Type 0
Passed c =
    Tested c.args.t (get_or c.args.points.now c.loop-i.i nan) (get_or c.args.points.now (c.loop-i.i + 1) nan)
    c.along-u.result c.along-v.result c.stepped-s.result c.stepped-w.result
    c.is_on_grid.result c.is_on_grid-in-loop-i.result c.is_near.result c.is_near-in-loop-i.result

tested : (c : Else-not-on_grid-near) → Passed c
tested c =
    record {
      across = c.along-u.ensures;
      upward = c.along-v.ensures;
      step_across = c.stepped-s.ensures;
      step_upward = c.stepped-w.ensures;
      on_across = c.is_on_grid.ensures;
      on_upward = c.is_on_grid-in-loop-i.ensures;
      near_across = c.is_near.ensures;
      near_upward = c.is_near-in-loop-i.ensures;
      passed = c.if-not-on_grid-near.false-raw;
    }

pub float_to_int-out : goal.float_to_int-out
float_to_int-out c = cast_across (tested c.before.before)

pub float_to_int-out-in-loop-i : goal.float_to_int-out-in-loop-i
float_to_int-out-in-loop-i c = cast_upward (tested c.before.before.before)

pub loop-i-preserved : goal.loop-i-preserved
loop-i-preserved c =
    maps_more c.requires.to_in_bounds c.requires.to_in_bounds_2 c.loop-i.invariant
    (maps_one c.requires.to_in_bounds (omega (arith, long c.before.before.before.before.before.before.before.before.before.before.before.before.before.before.before, c.requires.to_in_bounds_2)) nan (left c.before.before.before.before.before.before.before.before.before.before.before.before.before.before) (is_x (tested c.before.before.before)) (is_y (tested c.before.before.before)))

pub returns : goal.returns
returns c = c.loop-i.invariant
