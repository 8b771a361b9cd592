-- `clip::cutting::intersect_at_x` meets its contract: the height of the line between the ends is the crossing, where it lies in range, and else there is none.
use borrow.Author.Rules.{rules}
use mathlib.Core.Path.{◌≡◌, sym}
use mir.Syntax.{w32}
use Rattle.whole.proofs.Machine.{Back, back}
use Rattle.clip.specs.Cutting.{height}
use Rattle.clip.proofs.Cuts.{met, missed}
use Rattle.clip.proofs.cutting.intersect_at_x.Goals as goal
use Rattle.clip.proofs.cutting.intersect_at_x.Tie as tie
use Rattle.clip.proofs.cutting.intersect_at_x.Reads as contract
use Rattle.clip.proofs.cutting.intersect_at_x.Lts as places

-- the places on the way that the lemmas below speak of
abbrev Start : Type 0
Start = places.Start tie.the-claims contract.Pre contract.Post

abbrev After-height_at-y : Type 0
After-height_at-y = places.After-height_at tie.the-claims contract.Pre contract.Post

-- what the machine reads back from the bits of each value
module _ (s : Start) where
  px : Back w32 s.args.p.x
  px = back {w = w32} (search rules depth 12)

  py : Back w32 s.args.p.y
  py = back {w = w32} (search rules depth 12)

  qx : Back w32 s.args.q.x
  qx = back {w = w32} (search rules depth 12)

  qy : Back w32 s.args.q.y
  qy = back {w = w32} (search rules depth 12)

  x : Back w32 s.args.x
  x = back {w = w32} s.ranges.x

  a : Back w32 s.args.a
  a = back {w = w32} s.ranges.a

  b : Back w32 s.args.b
  b = back {w = w32} s.ranges.b

h : (c : After-height_at-y) → Back w32 c.height_at-y.result
h c = back {w = w32} (record { sfits = c.height_at-y.type_inv })

ruleset read = (px, py, qx, qy, x, a, b, h)

made : (c : After-height_at-y) → c.height_at-y.result ≡ height c.args.p.x c.args.p.y c.args.q.x c.args.q.y c.args.x
made c = simp read at c.height_at-y.ensures

pub returns-then-a-y : goal.returns-then-a-y
returns-then-a-y c =
    simp read (sym (met c.args.p c.args.q c.args.x c.args.a c.args.b _ c.requires (made c.before) (simp read at c.if-a-y.true)))

pub returns : goal.returns
returns c =
    sym (missed c.args.p c.args.q c.args.x c.args.a c.args.b _ c.requires (made c.before) (simp read at c.if-a-y.false))
