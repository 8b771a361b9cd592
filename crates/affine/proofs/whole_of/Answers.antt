-- `affine::whole_of` meets its contract: the magnitude, and its opposite below zero.
use Rattle.std.proofs.Common.{◌≡◌, Bool, not, T, ℤ, pos, ◌-ℤ◌, neg_ℤ, sym, ap, ◌∙◌, subst, w32, SFits, to_z, of_z}
use lib.Ieee.{lt, of_bits}
use Rattle.whole.proofs.Machine.{back}
use Rattle.affine.specs.Grid.{whole_of}
use Rattle.affine.proofs.Limits.{naught, small_below, small_above, grid_below, grid_above, within_fits, opposite_is}
use Rattle.affine.proofs.whole_of.Goals as goal
use Rattle.affine.proofs.whole_of.Tie as tie
use Rattle.affine.proofs.whole_of.Reads as contract
use Rattle.affine.proofs.whole_of.Lts as places

-- the places on the way that the lemmas below speak of
abbrev Then-x : Type 0
Then-x = places.Then1 tie.the-claims contract.Pre contract.Post

abbrev After-magnitude_of : Type 0
After-magnitude_of = places.After-magnitude_of tie.the-claims contract.Pre contract.Post

abbrev Else-x : Type 0
Else-x = places.Else1 tie.the-claims contract.Pre contract.Post

is_below_lem : (c : Then-x) → T (lt c.args.x naught)
unfolding of_bits
is_below_lem c = subst T (sym c.if-x.true) tt

is_above : (c : Else-x) → T (not (lt c.args.x naught))
unfolding of_bits
is_above c = subst (λ (b : Bool). T (not b)) (sym c.if-x.false) tt

pub magnitude_of-requires : goal.magnitude_of-requires
magnitude_of-requires c = small_below c.args.x c.requires (is_below_lem c)

-- the opposite of the magnitude is the nearest whole number
turned : (c : After-magnitude_of) → pos 0 -ℤ c.magnitude_of.result ≡ whole_of c.args.x
turned c = opposite_is c.magnitude_of.result ∙ ap neg_ℤ c.magnitude_of.ensures ∙ grid_below c.args.x (is_below_lem c.before) c.requires

-- as the machine has it, read back from its bits
read : (c : After-magnitude_of) → pos 0 -ℤ to_z w32 (of_z w32 c.magnitude_of.result) ≡ whole_of c.args.x
read c = ap (λ (z : ℤ). pos 0 -ℤ z) (back {w = w32} {z = c.magnitude_of.result} (record { sfits = c.magnitude_of.type_inv })) ∙ turned c

pub overflow_sub-result : goal.overflow_sub-result
overflow_sub-result c = subst (λ (z : ℤ). SFits w32 z) (sym (read c)) (within_fits (whole_of c.args.x) c.requires)

pub returns-then-x : goal.returns-then-x
returns-then-x c = back (overflow_sub-result c) ∙ read c

pub magnitude_of-requires-2 : goal.magnitude_of-requires-2
magnitude_of-requires-2 c = small_above c.args.x c.requires (is_above c)

pub returns : goal.returns
returns c = back {w = w32} (record { sfits = c.magnitude_of-2.type_inv }) ∙ c.magnitude_of-2.ensures ∙ grid_above c.args.x (is_above c.before) c.requires
