-- There is no byte, the first or the second byte is the last, or others follow them.
use Rattle.messages.proofs.Reading.{first_none, first_ends, second_none, second_ends}
use borrow.Author.Rules.{rules}
use Rattle.messages.proofs.numbers.varint_at.Goals as goal

pub returns-in_err-b : goal.returns-in_err-b
returns-in_err-b c = search (rules, first_none)

pub returns-then-b-lt-MORE : goal.returns-then-b-lt-MORE
returns-then-b-lt-MORE c = search (rules, first_ends)

pub returns-in_err-c : goal.returns-in_err-c
returns-in_err-c c = search (rules, second_none)

pub returns-then-c-lt-MORE : goal.returns-then-c-lt-MORE
returns-then-c-lt-MORE c = search (rules, second_ends)
