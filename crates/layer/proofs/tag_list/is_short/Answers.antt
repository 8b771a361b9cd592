-- Both lengths are read off the words, the text's where there is one, and each is asked.
use Rattle.layer.proofs.Placing.{long_key, no_long_text, text_length}
use borrow.Author.Rules.{rules}
use Rattle.layer.proofs.tag_list.is_short.Goals as goal

pub returns-then-not-may_have : goal.returns-then-not-may_have
returns-then-not-may_have c = search (rules, long_key)

pub returns-then-t-ne-TEXT : goal.returns-then-t-ne-TEXT
returns-then-t-ne-TEXT c = search (rules, no_long_text)

pub returns : goal.returns
returns c = search (rules, text_length)
