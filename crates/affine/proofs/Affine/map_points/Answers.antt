use Rattle.std.proofs.Common.{◌≡◌, ◌+◌, ◌*◌, ◌≤◌, length, ap, ◌∙◌, arith, w32, to_z, of_z, rules}
use lib.Ieee.{nan}
use Rattle.whole.proofs.Machine.{back}
use Rattle.clip.specs.declared.Pt.{Pt}
use Rattle.affine.specs.Facts.{MapsPlain}
use Rattle.affine.proofs.Turns.{maps_none, maps_one, maps_long, maps_more, maps_all, fits_points, fits_out}
use Rattle.affine.proofs.Affine.map_points.Goals as goal
use Rattle.affine.proofs.Affine.map_points.Tie as tie
use Rattle.affine.proofs.Affine.map_points.Reads as contract
use Rattle.affine.proofs.Affine.map_points.Lts as places

-- the places on the way that the lemmas below speak of
abbrev After-smaller-n : Type 0
After-smaller-n = places.After-smaller tie.the-claims contract.Pre contract.Post goal.the-invariant-loop-i goal.the-decreases-loop-i tie.handed_clauses

abbrev At-loop-i : Type 0
At-loop-i = places.At-loop tie.the-claims contract.Pre contract.Post goal.the-invariant-loop-i goal.the-decreases-loop-i tie.handed_clauses

abbrev After-out-1 : Type 0
After-out-1 = places.After-out tie.the-claims contract.Pre contract.Post goal.the-invariant-loop-i goal.the-decreases-loop-i tie.handed_clauses

abbrev Then-i-end : Type 0
Then-i-end = places.Then1 tie.the-claims contract.Pre contract.Post goal.the-invariant-loop-i goal.the-decreases-loop-i tie.handed_clauses

abbrev After-struct_told-then-i-end-1 : Type 0
After-struct_told-then-i-end-1 = places.After-struct_told2 tie.the-claims contract.Pre contract.Post goal.the-invariant-loop-i goal.the-decreases-loop-i tie.handed_clauses

-- both lists hold n points
inside : (c : After-smaller-n) → 2 * c.smaller-n.result ≤ length c.args.points.now
inside c = omega (arith, fits_points c.args.points.now c.args.out.now c.smaller-n.result c.smaller-n.ensures)

room : (c : After-smaller-n) → 2 * c.smaller-n.result ≤ length c.args.out.now
room c = omega (arith, fits_out c.args.points.now c.args.out.now c.smaller-n.result c.smaller-n.ensures)

pub loop-i-init : goal.loop-i-init
loop-i-init c = maps_none (inside c.before) (room c.before) (omega arith)

-- the list that is laid in keeps its length
long : (c : At-loop-i) → length c.loop-i.out ≡ length c.args.out.now
long c = maps_long (inside c.before) (room c.before) c.loop-i.invariant

pub map_plain-i-requires : goal.map_plain-i-requires
map_plain-i-requires c =
    let v = c.loop-i.invariant in record { from_le_to = v.upto; from_value = omega (arith, v.upto, v.whole); to_in_bounds = inside c.before.before.before.before; to_in_bounds_2 = omega (arith, long c.before.before.before, room c.before.before.before.before) }

-- behind a run of plain points
after : (c : After-out-1) →
    MapsPlain c.args.self c.args.points.now 0 (2 * c.smaller-n.result) c.args.out.now c.map_plain-i.result c.map_plain-i.new.out
after c =
    maps_more (inside c.before.before.before.before.before) (room c.before.before.before.before.before) c.loop-i.invariant c.map_plain-i.ensures

after_long : (c : After-out-1) → length c.map_plain-i.new.out ≡ length c.args.out.now
after_long c = maps_long (inside c.before.before.before.before.before) (room c.before.before.before.before.before) (after c)

-- a whole point is left, inside both lists
left : (c : Then-i-end) → c.map_plain-i.result + 2 ≤ 2 * c.smaller-n.result
left c = omega (arith, (after c.before).whole, c.if-i-end.true)

-- its numbers, read back from the machine's bits
x_back : (c : After-struct_told-then-i-end-1) → to_z w32 (of_z w32 c.grid_point-p.result.x) ≡ c.grid_point-p.result.x
x_back c = back {w = w32} (search rules)

y_back : (c : After-struct_told-then-i-end-1) → to_z w32 (of_z w32 c.grid_point-p.result.y) ≡ c.grid_point-p.result.y
y_back c = back {w = w32} (search rules)

pub loop-i-preserved-then-i-end : goal.loop-i-preserved-then-i-end
loop-i-preserved-then-i-end c =
    let p = c.grid_point-p in
    maps_more (inside c.before.before.before.before.before.before.before.before.before.before.before.before) (room c.before.before.before.before.before.before.before.before.before.before.before.before) (after c.before.before.before.before.before.before.before)
    (maps_one (inside c.before.before.before.before.before.before.before.before.before.before.before.before) (omega (arith, room c.before.before.before.before.before.before.before.before.before.before.before.before, after_long c.before.before.before.before.before.before.before)) nan (left c.before.before.before.before.before.before) (x_back c.before ∙ ap (λ (q : Pt). q.x) p.ensures) (y_back c.before ∙ ap (λ (q : Pt). q.y) p.ensures))

pub loop-i-preserved : goal.loop-i-preserved
loop-i-preserved c = after c.before.before

pub shape_of-out : goal.shape_of-out
shape_of-out c = long c.before.before

pub returns : goal.returns
returns c = maps_all c.smaller-n.ensures c.loop-i-test.false c.loop-i.invariant
