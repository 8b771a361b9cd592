-- What is accepted, with both ends said to have stayed.
use Rattle.whole.proofs.Machine.{back}
use Rattle.clip.specs.declared.Edge.TheVariants.{Stayed}
use Rattle.brinepost.proofs.Tellings.{ends_read}
use Rattle.brinepost.proofs.segment.kept.Goals as goal

pub returns : goal.returns
returns c = let f = c.ranges in ends_read (back f.x0) (back f.y0) (back f.x1) (back f.y1) Stayed Stayed _ c.accepted.ensures
