-- A number of 0, one that is too large, and any other: a law for each.
use borrow.Author.Rules.{rules}
use Rattle.messages.proofs.Keys.{number_nought, number_large, number_right}
use Rattle.messages.proofs.key.after_key.Goals as goal

pub returns-then-n-lt1 : goal.returns-then-n-lt1
returns-then-n-lt1 c = search (rules, number_nought, number_large, number_right)

pub returns-then-n-gt-MAX_NUMBER : goal.returns-then-n-gt-MAX_NUMBER
returns-then-n-gt-MAX_NUMBER c = search (rules, number_nought, number_large, number_right)

pub returns : goal.returns
returns c = search (rules, number_right)
