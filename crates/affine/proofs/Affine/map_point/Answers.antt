-- `affine::Affine::map_point` meets its contract: COORD where a number lies beyond the limit, else the grid point.
use Rattle.affine.proofs.Answers.{is_at, is_refused}
use Rattle.affine.proofs.Affine.map_point.Goals as goal

pub returns-then-is_coord : goal.returns-then-is_coord
returns-then-is_coord c =
    is_at c.args.self c.args.x c.args.y _ _ c.grid_point-p.ensures c.is_coord.ensures c.if-is_coord.true

pub returns : goal.returns
returns c =
    is_refused c.args.self c.args.x c.args.y _ _ c.grid_point-p.ensures c.is_coord.ensures c.if-is_coord.false
