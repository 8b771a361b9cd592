-- Each part is read off its words.
use Rattle.layer.proofs.Placing.{place_read}
use borrow.Author.Rules.{rules}
use Rattle.layer.proofs.tag_list.place_at.Goals as goal

pub returns : goal.returns
returns c = search (rules, place_read)
