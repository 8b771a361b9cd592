-- A single number by its wire type; all other types are asked for a body.
use borrow.Author.Rules.{rules}
use Rattle.messages.proofs.Keys.{numbers_single, numbers_packed}
use Rattle.messages.proofs.key.numbers.Goals as goal

pub returns-then-wire-eq-VARINT : goal.returns-then-wire-eq-VARINT
returns-then-wire-eq-VARINT c = search (rules, numbers_single, numbers_packed)

pub returns : goal.returns
returns c = search (rules, numbers_packed)
