-- What the map that C's numbers stand for says of the point.
use Rattle.brinepost.proofs.Tellings.{map_told}
use borrow.Author.Rules.{rules}
use Rattle.brinepost.proofs.surveyed.bp_map_point.Goals as goal

pub returns : goal.returns
returns c = search (rules, map_told)
