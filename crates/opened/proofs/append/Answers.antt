-- The bytes are laid where they have room, and the place after them is counted.
use Rattle.opened.proofs.Chains.{laid}
use Rattle.opened.proofs.append.Goals as goal

pub returns : goal.returns
returns c = let a = c.args in laid a.bytes.now a.at a.text.now _ c.requires c.lay.ensures
