-- Where the value was found nothing is put; else three words and the text have room and are laid.
use Rattle.layer.proofs.Entering.{put_none, put_value}
use borrow.Author.Rules.{rules}
use Rattle.layer.proofs.putting.put_value.Goals as goal

pub returns-in-Some : goal.returns-in-Some
returns-in-Some c = search (rules, put_none)

pub returns-in-None : goal.returns-in-None
returns-in-None c = search (rules, put_value)
