-- Where the key was found nothing is put; else two words and the text have room and are laid.
use Rattle.layer.proofs.Entering.{put_none, put_last}
use borrow.Author.Rules.{rules}
use Rattle.layer.proofs.putting.put_key.Goals as goal

pub returns-in-Some : goal.returns-in-Some
returns-in-Some c = search (rules, put_none)

pub returns-in-None : goal.returns-in-None
returns-in-None c = search (rules, put_last)
