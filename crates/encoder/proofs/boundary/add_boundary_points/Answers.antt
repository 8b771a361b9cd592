-- The clip where a segment leaves the box, else none.
use mathlib.Core.Path.{refl}
use Rattle.encoder.proofs.Bounds.{brought_cut, brought_none}
use Rattle.encoder.proofs.boundary.add_boundary_points.Goals as goal

pub returns-then-d-out0 : goal.returns-then-d-out0
returns-then-d-out0 c = brought_cut c.args.d c.args.p _ refl c.requires.bbox_value _ c.if-d-out0.true _ c.clip_named.ensures

pub returns : goal.returns
returns c = brought_none c.args.d c.args.p _ _ c.is_outside-out0.ensures c.is_outside-out1.ensures c.if-d-out0.false _ c.stay.ensures
