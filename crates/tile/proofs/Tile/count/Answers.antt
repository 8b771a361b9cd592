-- STATE, then the figure.
use Rattle.tile.proofs.Asking.{not_counted, is_counted}
use borrow.Author.Rules.{rules}
use Rattle.tile.proofs.Tile.count.Goals as goal

pub returns-then-not-is_valid : goal.returns-then-not-is_valid
returns-then-not-is_valid c = search (rules, not_counted)

pub returns : goal.returns
returns c = search (rules, is_counted)
