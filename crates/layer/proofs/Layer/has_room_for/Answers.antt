-- The caps are asked first, so that the products below stay small; what passes both is what fits the room.
use native.Mathlib.Omega.{arith}
use borrow.Author.Rules.{rules}
use Rattle.layer.specs.Steps.{caps}
use Rattle.layer.proofs.Fitting.{Within, over_caps, in_lists}
use Rattle.layer.proofs.Walking.{fitting}
use Rattle.layer.proofs.Layer.has_room_for.Goals as goal
use Rattle.layer.proofs.Layer.has_room_for.Tie as tie
use Rattle.layer.proofs.Layer.has_room_for.Reads as contract
use Rattle.layer.proofs.Layer.has_room_for.Lts as places

-- the places on the way that the lemmas below speak of
abbrev Else-not-are_capped : Type 0
Else-not-are_capped = places.Else1 tie.the-claims contract.Pre contract.Post

at_caps : (c : Else-not-are_capped) → Within c.args.u caps
at_caps c = fitting _ _ _ c.are_capped.ensures c.if-not-are_capped.false-raw

pub returns-then-not-are_capped : goal.returns-then-not-are_capped
returns-then-not-are_capped c = search (rules, over_caps)

pub overflow_mul-result : goal.overflow_mul-result
overflow_mul-result c = let W = at_caps c.before in record { fits = omega (arith, W.keys) }

pub overflow_mul-result-2 : goal.overflow_mul-result-2
overflow_mul-result-2 c = let W = at_caps c.before.before in record { fits = omega (arith, W.values) }

pub returns : goal.returns
returns c = search (rules, in_lists)
