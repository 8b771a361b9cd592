-- By flag and mark in one test, then field by field.
use Rattle.brinepost_tiles.proofs.Carrying.{layer_read_lem, layer_broken}
use borrow.Author.Rules.{rules}
use Rattle.brinepost_tiles.proofs.carried.layer_of.Goals as goal

pub returns-then-flag-mark : goal.returns-then-flag-mark
returns-then-flag-mark c = search (rules, layer_broken)

pub returns : goal.returns
returns c = search (rules, layer_read_lem)
