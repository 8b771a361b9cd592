-- What `new` answers, with the layer made strict.
use Rattle.layer.proofs.Repeating.{strict_done, strict_refused}
use borrow.Author.Rules.{rules}
use Rattle.layer.proofs.Layer.new_strict.Goals as goal

pub returns-in_err-new : goal.returns-in_err-new
returns-in_err-new c = search (rules, strict_refused)

pub returns : goal.returns
returns c = search (rules, strict_done)
