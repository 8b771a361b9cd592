-- The words are those of the head, and the halves make the id.
use Rattle.layer.proofs.Heads.{the_head}
use Rattle.layer.proofs.many.head_at.Goals as goal

pub returns : goal.returns
returns c = the_head c.args.heads.now c.args.i _ c.of_halves.ensures
