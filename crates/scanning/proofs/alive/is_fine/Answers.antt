-- A law for each phase that can be wrong.
use borrow.Author.Rules.{rules}
use Rattle.scanning.proofs.Living.{fine_type, fine_key, fine_lead}
use Rattle.scanning.proofs.alive.is_fine.Goals as goal

pub returns-then-i-lt-KEY_BYTES : goal.returns-then-i-lt-KEY_BYTES
returns-then-i-lt-KEY_BYTES c = search (rules, fine_type)

pub returns-else-i-lt-KEY_BYTES : goal.returns-else-i-lt-KEY_BYTES
returns-else-i-lt-KEY_BYTES c = search (rules, fine_key)

pub returns-in-Lead : goal.returns-in-Lead
returns-in-Lead c = search (rules, fine_lead)
