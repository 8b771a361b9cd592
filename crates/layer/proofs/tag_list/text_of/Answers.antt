-- A text stands where its two words say; anything else has an empty one.
use Rattle.layer.proofs.Placing.{text_there}
use Rattle.promise.proofs.Cases.{tests}
use borrow.Author.Rules.{rules}
use Rattle.layer.proofs.tag_list.text_of.Goals as goal

pub returns-then-kind-eq-TEXT : goal.returns-then-kind-eq-TEXT
returns-then-kind-eq-TEXT c = text_there _ _ _ _ _ c.if-kind-eq-TEXT.true c.wide.ensures.same c.wide-then-kind-eq-TEXT.ensures.same

pub returns : goal.returns
returns c = search (rules, tests)
