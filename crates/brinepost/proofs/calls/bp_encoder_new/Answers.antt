-- What the encoder said, with the edges as they were given: what the machine reads back from their bits is the edges.
use Rattle.clip.specs.Numbers.{box_at}
use mir.Facts.{to_z-of_z}
use Rattle.brinepost.proofs.Tellings.{start_told}
use Rattle.brinepost.proofs.calls.bp_encoder_new.Goals as goal

pub returns : goal.returns
returns c =
    start_told c.new.result c.args.kind (box_at c.args.left c.args.right c.args.bottom c.args.top) _ (rw (to_z-of_z c.ranges.left, to_z-of_z c.ranges.right, to_z-of_z c.ranges.bottom, to_z-of_z c.ranges.top) at c.new.ensures) c.begun.ensures
