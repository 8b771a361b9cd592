-- `affine::Affine::grid_point` meets its contract: the grid's numbers of the two sums.
use Rattle.std.proofs.Common.{◌∙◌}
use Rattle.whole.proofs.Machine.{back}
use Rattle.affine.proofs.Answers.{point_is}
use mir.Syntax.{w32}
use Rattle.affine.proofs.Affine.grid_point.Goals as goal

pub returns : goal.returns
returns c =
    point_is c.args.self c.args.x c.args.y _ _ _ _ c.along-u.ensures c.along-v.ensures
    (back {w = w32} (record { sfits = c.grid_of.type_inv }) ∙ c.grid_of.ensures) (back {w = w32} (record { sfits = c.grid_of-2.type_inv }) ∙ c.grid_of-2.ensures)
