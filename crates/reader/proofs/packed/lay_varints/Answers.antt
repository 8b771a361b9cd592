use Prim.Native.Nat.{◌<◌}
use native.Mathlib.Omega.{arith}
use borrow.Author.Rules.{rules}
use lib.ListN.{length}
use Rattle.reader.proofs.Listing.{list_start, list_long, list_end, list_never, list_room, list_less, list_turn}
use Rattle.reader.proofs.packed.lay_varints.Goals as goal
use Rattle.reader.proofs.packed.lay_varints.Tie as tie
use Rattle.reader.proofs.packed.lay_varints.Reads as contract
use Rattle.reader.proofs.packed.lay_varints.Lts as places

-- the places on the way that the lemmas below speak of
abbrev After-low32 : Type 0
After-low32 = places.After-low32 tie.the-claims contract.Pre contract.Post goal.the-invariant-loop-i goal.the-decreases-loop-i

room : (c : After-low32) → c.loop-i.n < length c.loop-i.out
room c = search (rules, list_room)

pub loop-i-init : goal.loop-i-init
loop-i-init c = search (rules, list_start)

pub shape_of-out-in_default : goal.shape_of-out-in_default
shape_of-out-in_default c = search (rules, list_long)

pub returns-in_default : goal.returns-in_default
returns-in_default c = search (rules, list_never)

pub offset_bounds-out-n : goal.offset_bounds-out-n
offset_bounds-out-n c = omega (arith, room c.before, list_long c.loop-i.invariant)

pub bounds-out-n : goal.bounds-out-n
bounds-out-n c = search (rules, list_room)

pub overflow_add-n : goal.overflow_add-n
overflow_add-n c = omega (arith, room c.before, list_long c.loop-i.invariant)

pub loop-i-smaller : goal.loop-i-smaller
loop-i-smaller c = search (rules, list_less)

pub loop-i-preserved : goal.loop-i-preserved
loop-i-preserved c = search (rules, list_turn)

pub shape_of-out : goal.shape_of-out
shape_of-out c = search (rules, list_long)

pub returns : goal.returns
returns c = search (rules, list_end)
