-- The flag says which case it is.
use Rattle.brinepost.proofs.Carrying.{to_point}
use Rattle.brinepost.specs.Carried.{point_to}
use borrow.Author.Rules.{rules}
use Rattle.brinepost.proofs.state.point_to.Goals as goal

pub returns-in-None : goal.returns-in-None
unfolding point_to
returns-in-None c = cc

pub returns-in-Some : goal.returns-in-Some
unfolding point_to
returns-in-Some c = search (rules, to_point)
