-- Each rung is its unit, and after nine rungs it is the tenth.
use borrow.Author.Rules.{rules}
use Rattle.scanning.proofs.Digits.{last_unit}
use Rattle.scanning.proofs.digit.unit.Goals as goal

pub returns : goal.returns
returns c = search (rules, last_unit)
