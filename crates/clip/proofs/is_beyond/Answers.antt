-- `clip::is_beyond` meets its contract: the test is that of the ends' y.
use borrow.Author.Rules.{rules}
use Rattle.clip.specs.Facts.{beside_y}
use Rattle.whole.proofs.Machine.{back}
use Rattle.clip.proofs.Returns.{beside_read}
use mir.Syntax.{w32}
use Rattle.clip.proofs.is_beyond.Goals as goal

pub returns : goal.returns
unfolding beside_y
returns c = beside_read (back {w = w32} (search rules depth 12)) (back {w = w32} (search rules depth 12)) (back {w = w32} (search rules depth 12)) (back {w = w32} (search rules depth 12)) c.are_beside.ensures
