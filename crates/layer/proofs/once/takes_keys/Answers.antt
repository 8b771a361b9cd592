-- An ordinary layer takes all keys; a strict one where none comes twice.
use Rattle.layer.proofs.Repeating.{all_taken, taken_once}
use borrow.Author.Rules.{rules}
use Rattle.layer.proofs.once.takes_keys.Goals as goal

pub returns-then-not-strict : goal.returns-then-not-strict
returns-then-not-strict c = search (rules, all_taken)

pub returns : goal.returns
returns c = search (rules, taken_once)
