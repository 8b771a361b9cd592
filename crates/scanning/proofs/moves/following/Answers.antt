-- One law for each way of the code.
use borrow.Author.Rules.{rules}
use Rattle.scanning.proofs.Phases.{follows_varint, follows_bytes, follows_body}
use Rattle.scanning.proofs.moves.following.Goals as goal

pub returns-in-AVarint : goal.returns-in-AVarint
returns-in-AVarint c = search (rules, follows_varint)

pub returns-in-Bytes : goal.returns-in-Bytes
returns-in-Bytes c = search (rules, follows_bytes)

pub returns-in-ABody : goal.returns-in-ABody
returns-in-ABody c = search (rules, follows_body)
