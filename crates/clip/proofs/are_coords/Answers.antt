-- `clip::are_coords` meets its contract: the two tests, by x and by y, tell the definition's, by end.
use borrow.Author.Rules.{rules}
use mir.Syntax.{w32}
use Rattle.whole.proofs.Machine.{Back, back}
use Rattle.clip.specs.Domain.{within, is_coord}
use Rattle.clip.proofs.Tests.{by_ends}
use Rattle.clip.proofs.are_coords.Goals as goal
use Rattle.clip.proofs.are_coords.Tie as tie
use Rattle.clip.proofs.are_coords.Reads as contract
use Rattle.clip.proofs.are_coords.Lts as places

-- the places on the way that the lemmas below speak of
abbrev Start : Type 0
Start = places.Start tie.the-claims contract.Pre contract.Post

-- what the machine reads back from the bits of each value
module _ (s : Start) where
  x0 : Back w32 s.args.s.p0.x
  x0 = back {w = w32} (search rules depth 12)

  y0 : Back w32 s.args.s.p0.y
  y0 = back {w = w32} (search rules depth 12)

  x1 : Back w32 s.args.s.p1.x
  x1 = back {w = w32} (search rules depth 12)

  y1 : Back w32 s.args.s.p1.y
  y1 = back {w = w32} (search rules depth 12)

ruleset read = (x0, y0, x1, y1)

pub returns : goal.returns
unfolding is_coord
returns c =
    rw (simp read at c.are_within.ensures, simp read at c.are_within-2.ensures) (by_ends (within c.args.s.p0.x) (within c.args.s.p1.x) (within c.args.s.p0.y) (within c.args.s.p1.y))
