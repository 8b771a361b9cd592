-- What the schema holds is a case of the definition: each answer is its own law.
use borrow.Author.Rules.{rules}
use Rattle.messages.proofs.Keys.{content_number, content_four, content_eight, content_text, content_numbers, content_message, content_unknown}
use Rattle.messages.proofs.key.content.Goals as goal

pub returns-in-Number : goal.returns-in-Number
returns-in-Number c = search (rules, content_number, content_four, content_eight, content_text, content_numbers, content_message, content_unknown)

pub returns-in-Four : goal.returns-in-Four
returns-in-Four c = search (rules, content_number, content_four, content_eight, content_text, content_numbers, content_message, content_unknown)

pub returns-in-Eight : goal.returns-in-Eight
returns-in-Eight c = search (rules, content_number, content_four, content_eight, content_text, content_numbers, content_message, content_unknown)

pub returns-in-Text : goal.returns-in-Text
returns-in-Text c = search (rules, content_number, content_four, content_eight, content_text, content_numbers, content_message, content_unknown)

pub returns-in-Numbers : goal.returns-in-Numbers
returns-in-Numbers c = search (rules, content_number, content_four, content_eight, content_text, content_numbers, content_message, content_unknown)

pub returns-in-Message : goal.returns-in-Message
returns-in-Message c = search (rules, content_number, content_four, content_eight, content_text, content_numbers, content_message, content_unknown)

pub returns-in-Unknown : goal.returns-in-Unknown
returns-in-Unknown c = search (rules, content_number, content_four, content_eight, content_text, content_numbers, content_message, content_unknown)
