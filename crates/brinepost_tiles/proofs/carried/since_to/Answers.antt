-- By the two cases.
use Rattle.brinepost_tiles.proofs.carried.since_to.Goals as goal

pub returns-in-None : goal.returns-in-None
returns-in-None c = cc

pub returns-in-Some : goal.returns-in-Some
returns-in-Some c = cc
