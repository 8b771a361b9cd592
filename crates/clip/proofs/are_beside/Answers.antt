-- `clip::are_beside` meets its contract: both numbers are below the range where the larger one is, and above it where the smaller one is.
use mathlib.Core.Path.{◌≡◌, refl}
use mathlib.Core.Bool.{true, false}
use lib.Signed.{lt_z}
use mir.Syntax.{w32}
use Rattle.whole.proofs.Machine.{Back, back}
use Rattle.clip.specs.Facts.{beside}
use Rattle.clip.specs.Cutting.{least, most}
use Rattle.clip.proofs.are_beside.Goals as goal
use Rattle.clip.proofs.are_beside.Tie as tie
use Rattle.clip.proofs.are_beside.Reads as contract
use Rattle.clip.proofs.are_beside.Lts as places

-- the places on the way that the lemmas below speak of
abbrev Start : Type 0
Start = places.Start tie.the-claims contract.Pre contract.Post

abbrev After-most_of : Type 0
After-most_of = places.After-most_of tie.the-claims contract.Pre contract.Post

abbrev After-least_of : Type 0
After-least_of = places.After-least_of tie.the-claims contract.Pre contract.Post

-- what the machine reads back from the bits of each value
module _ (s : Start) where
  m : Back w32 s.args.m
  m = back {w = w32} s.ranges.m

  n : Back w32 s.args.n
  n = back {w = w32} s.ranges.n

  low : Back w32 s.args.low
  low = back {w = w32} s.ranges.low

  high : Back w32 s.args.high
  high = back {w = w32} s.ranges.high

larger : (c : After-most_of) → Back w32 c.most_of.result
larger c = back {w = w32} (record { sfits = c.most_of.type_inv })

smaller : (c : After-least_of) → Back w32 c.least_of.result
smaller c = back {w = w32} (record { sfits = c.least_of.type_inv })

ruleset read = (m, n, low, high, larger, smaller)

is_most : (c : After-most_of) → c.most_of.result ≡ most c.args.m c.args.n
is_most c = simp read at c.most_of.ensures

is_least : (c : After-least_of) → c.least_of.result ≡ least c.args.m c.args.n
is_least c = simp read at c.least_of.ensures

pub returns-then-most_of-low : goal.returns-then-most_of-low
unfolding beside
returns-then-most_of-low c =
    let e : lt_z (most c.args.m c.args.n) c.args.low ≡ true = rw (is_most c.before) at (simp read at c.if-most_of-low.true) in
    rw e refl

pub returns : goal.returns
unfolding beside
returns c =
    let e : lt_z (most c.args.m c.args.n) c.args.low ≡ false = rw (is_most c.before.before) at (simp read at c.if-most_of-low.false) in
    simp read (rw (e, is_least c) refl)
