-- `clip::BBox::is_coord` meets its contract: the two tests joined are the definition's.
use mathlib.Core.Path.{refl}
use borrow.Author.Rules.{rules}
use mir.Syntax.{w32}
use Rattle.whole.proofs.Machine.{Back, back}
use Rattle.clip.specs.Domain.{is_coord}
use Rattle.clip.proofs.BBox.is_coord.Goals as goal
use Rattle.clip.proofs.BBox.is_coord.Tie as tie
use Rattle.clip.proofs.BBox.is_coord.Reads as contract
use Rattle.clip.proofs.BBox.is_coord.Lts as places

-- the places on the way that the lemmas below speak of
abbrev Start : Type 0
Start = places.Start tie.the-claims contract.Pre contract.Post

module _ (s : Start) where
  x : Back w32 s.args.p.x
  x = back {w = w32} (search rules depth 12)

  y : Back w32 s.args.p.y
  y = back {w = w32} (search rules depth 12)

ruleset read = (x, y)

pub returns : goal.returns
unfolding is_coord
returns c = rw (simp read at c.is_within.ensures, simp read at c.is_within-2.ensures) refl
