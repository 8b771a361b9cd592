-- A law for each phase.
use borrow.Author.Rules.{rules}
use Rattle.scanning.proofs.Living.{lead_few, roomy_field, roomy_key, roomy_number, roomy_lead, roomy_skip, roomy_packed}
use Rattle.scanning.proofs.alive.is_roomy.Goals as goal

pub least_body-more-requires : goal.least_body-more-requires
least_body-more-requires c = search (rules, lead_few)

pub returns-in-Field : goal.returns-in-Field
returns-in-Field c = search (rules, roomy_field)

pub returns-in-Key : goal.returns-in-Key
returns-in-Key c = search (rules, roomy_key)

pub returns-in-Number : goal.returns-in-Number
returns-in-Number c = search (rules, roomy_number)

pub returns-in-Lead : goal.returns-in-Lead
returns-in-Lead c = search (rules, roomy_lead)

pub returns-in-Skip : goal.returns-in-Skip
returns-in-Skip c = search (rules, roomy_skip)

pub returns-in-Packed : goal.returns-in-Packed
returns-in-Packed c = search (rules, roomy_packed)
