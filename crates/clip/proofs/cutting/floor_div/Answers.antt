-- `clip::cutting::floor_div` meets its contract: the machine's quotient rounds toward zero, so it is the floor unless the remainder is below zero, and then one less is.
use mathlib.Core.Path.{◌≡◌, refl, sym, subst}
use mathlib.Core.Bool.{true, false}
use lib.IntN.{pos, ◌-ℤ◌}
use lib.Signed.{lt_z, quot_z, rem_z}
use mir.Syntax.{w64}
use mir.Val.{SFits}
use Rattle.whole.specs.Floor.{floor}
use Rattle.whole.proofs.Machine.{Back, back, bits_pos}
use Rattle.whole.proofs.Floors.{floor_is, floor_fits, quot_fits, rem_fits}
use Rattle.clip.proofs.cutting.floor_div.Goals as goal
use Rattle.clip.proofs.cutting.floor_div.Reads as contract
use Rattle.clip.proofs.cutting.floor_div.Lts as places

-- the places on the way that the lemmas below speak of
abbrev Start : Type 0
Start = places.Start contract.Pre contract.Post

abbrev Then-r-lt0 : Type 0
Then-r-lt0 = places.Then1 contract.Pre contract.Post

-- what the machine reads back from the bits of each value on the way
module _ (s : Start) where
  n : Back w64 s.args.n
  n = back {w = w64} s.ranges.n

  d : Back w64 s.args.d
  d = back {w = w64} s.ranges.d

  q : Back w64 (quot_z s.args.n s.args.d)
  q = back {w = w64} (quot_fits s.requires s.ranges.n)

  r : Back w64 (rem_z s.args.n s.args.d)
  r = back {w = w64} (rem_fits s.args.d s.ranges.n)

  f_floor : SFits w64 (floor s.args.n s.args.d)
  f_floor = floor_fits s.requires (floor_is s.args.n s.args.d s.requires) s.ranges.n

ruleset read = (n, d, q, r)

pub nonzero_div-q : goal.nonzero_div-q
nonzero_div-q c = simp read (bits_pos w64 c.requires, quot_fits c.requires c.ranges.n)

pub nonzero_rem-r : goal.nonzero_rem-r
nonzero_rem-r c = nonzero_div-q c

-- where the remainder is below zero
module _ (c : Then-r-lt0) where
  below : lt_z (rem_z c.args.n c.args.d) (pos 0) ≡ true
  below = simp read at c.if-r-lt0.true

  one_less : quot_z c.args.n c.args.d -ℤ pos 1 ≡ floor c.args.n c.args.d
  one_less = rw below refl

  f_less : SFits w64 (quot_z c.args.n c.args.d -ℤ pos 1)
  f_less = subst (SFits w64) (sym one_less) (f_floor c.before)

  less : Back w64 (quot_z c.args.n c.args.d -ℤ pos 1)
  less = back {w = w64} f_less

ruleset last = (read, less)

pub overflow_sub-result : goal.overflow_sub-result
overflow_sub-result c = simp read (f_less c)

pub returns-then-r-lt0 : goal.returns-then-r-lt0
returns-then-r-lt0 c = simp last (one_less c)

pub returns-else-r-lt0 : goal.returns-else-r-lt0
returns-else-r-lt0 c = let e : lt_z (rem_z c.args.n c.args.d) (pos 0) ≡ false = simp read at c.if-r-lt0.false in simp read (rw e refl)
