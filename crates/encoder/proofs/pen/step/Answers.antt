-- Two numbers within the limit differ by less than 2^31.
use mir.Facts.{to_z-of_z}
use Rattle.encoder.proofs.Differences.{step_fits, step_is}
use Rattle.encoder.proofs.pen.step.Goals as goal

pub overflow_sub-d : goal.overflow_sub-d
overflow_sub-d c = rw (to_z-of_z c.ranges.to, to_z-of_z c.ranges.from) (step_fits c.requires.to_within c.requires.from_within)

pub returns : goal.returns
returns c = step_is c.ranges.to c.ranges.from c.requires.to_within c.requires.from_within c.encode.ensures
