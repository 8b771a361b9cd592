-- Built where it is used, and else as it was.
use Rattle.layer.proofs.Building.{not_used, is_used}
use Rattle.layer.proofs.indexes.index_keys.Goals as goal

pub returns-then-not-serves : goal.returns-then-not-serves
returns-then-not-serves c = not_used _ _ _ _ c.serves.ensures c.if-not-serves.true-raw

pub returns : goal.returns
returns c = is_used _ _ _ _ c.serves.ensures c.if-not-serves.false-raw _ c.build_keys.ensures
