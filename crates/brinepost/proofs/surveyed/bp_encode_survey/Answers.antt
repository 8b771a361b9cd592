-- What the job said of the grid points, with the box as it was given, and the words as it left them.
use mir.Facts.{to_z-of_z}
use Rattle.telling.proofs.Tellings.{told_gives}
use Rattle.brinepost.proofs.surveyed.bp_encode_survey.Goals as goal

pub returns : goal.returns
returns c =
    told_gives _ _ _ _ _ (rw (c.map_of-m.ensures, to_z-of_z c.ranges.left, to_z-of_z c.ranges.right, to_z-of_z c.ranges.bottom, to_z-of_z c.ranges.top) at c.encode-r.ensures) c.answered.ensures
