-- One law for each way of the code.
use borrow.Author.Rules.{rules}
use Rattle.scanning.proofs.Phases.{few_key, small_key, few_number, nought_small, few_lead, small_lead, few_packed, move_field, move_key, move_number, move_lead, move_skip, move_packed}
use Rattle.scanning.proofs.moves.moved.Goals as goal

pub next_digit-d-requires-in-Key : goal.next_digit-d-requires-in-Key
next_digit-d-requires-in-Key c = search (rules, few_key, small_key)

pub in_key-requires-in-Key : goal.in_key-requires-in-Key
in_key-requires-in-Key c = search (rules, few_key)

pub next_digit-d-requires-in-Number : goal.next_digit-d-requires-in-Number
next_digit-d-requires-in-Number c = search (rules, few_number, nought_small)

pub in_number-requires : goal.in_number-requires
in_number-requires c = search (rules, few_number)

pub next_digit-d-requires-in-Lead : goal.next_digit-d-requires-in-Lead
next_digit-d-requires-in-Lead c = search (rules, few_lead, small_lead)

pub in_lead-requires : goal.in_lead-requires
in_lead-requires c = search (rules, few_lead)

pub next_digit-d-requires-in-Packed : goal.next_digit-d-requires-in-Packed
next_digit-d-requires-in-Packed c = search (rules, few_packed, nought_small)

pub in_packed-requires : goal.in_packed-requires
in_packed-requires c = search (rules, few_packed)

pub returns-in-Field : goal.returns-in-Field
returns-in-Field c = search (rules, move_field)

pub returns-in-Key : goal.returns-in-Key
returns-in-Key c = search (rules, move_key)

pub returns-in-Number : goal.returns-in-Number
returns-in-Number c = search (rules, move_number)

pub returns-in-Lead : goal.returns-in-Lead
returns-in-Lead c = search (rules, move_lead)

pub returns-in-Skip : goal.returns-in-Skip
returns-in-Skip c = search (rules, move_skip)

pub returns-in-Packed : goal.returns-in-Packed
returns-in-Packed c = search (rules, move_packed)
