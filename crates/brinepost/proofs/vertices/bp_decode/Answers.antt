-- What the reading said, and the list as it left it.
use Rattle.telling.proofs.Tellings.{told_gives}
use borrow.Author.Rules.{rules}
use Rattle.brinepost.proofs.vertices.bp_decode.Goals as goal

pub returns : goal.returns
returns c = search (rules, told_gives)
