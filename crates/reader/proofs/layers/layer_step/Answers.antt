-- By what was found: a law for each way.
use borrow.Author.Rules.{rules}
use Rattle.reader.proofs.Stepping.{layer_outside, layer_end, layer_broken, layer_long, layer_is}
use Rattle.reader.proofs.layers.layer_step.Goals as goal

pub returns-then-src-at : goal.returns-then-src-at
returns-then-src-at c = search (rules, layer_outside)

pub slice_bounds-layer_in-end : goal.slice_bounds-layer_in-end
slice_bounds-layer_in-end c = search (rules, layer_long, c.in_ok-f.was)

pub returns-in_default : goal.returns-in_default
returns-in_default c = search (rules, layer_end, c.in_ok-f.was)

pub returns-in_err-f : goal.returns-in_err-f
returns-in_err-f c = search (rules, layer_broken, c.in_err-f.was)

pub returns : goal.returns
returns c = search (rules, layer_is, c.in_ok-f.was)
