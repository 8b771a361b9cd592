-- What the whole job said, with the edges as they were given, and the words as it left them.
use mir.Facts.{to_z-of_z}
use Rattle.telling.proofs.Tellings.{told_gives}
use Rattle.brinepost.proofs.work.bp_encode_job.Goals as goal

pub returns : goal.returns
returns c =
    told_gives _ _ _ _ _ (rw (to_z-of_z c.ranges.left, to_z-of_z c.ranges.right, to_z-of_z c.ranges.bottom, to_z-of_z c.ranges.top) at c.encode-r.ensures) c.answered.ensures
