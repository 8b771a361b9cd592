-- The tests are the definition's; a feature that was found ends inside the layer.
use mathlib.Core.Path.{sym}
use native.Mathlib.Omega.{arith}
use borrow.Author.Rules.{rules}
use lib.Seq.{length-take-le}
use Rattle.reader.proofs.FeatureTold.{step_before, step_beyond, step_end, step_broken, step_within, step_unread, step_read_lem}
use Rattle.reader.proofs.features.feature_step.Goals as goal

pub returns-then-end-at : goal.returns-then-end-at
returns-then-end-at c = search (rules, step_before)

pub returns-then-src-end : goal.returns-then-src-end
returns-then-src-end c = search (rules, step_beyond)

pub slice_bounds-part-end : goal.slice_bounds-part-end
slice_bounds-part-end c = sym (length-take-le _ _ (omega arith))

pub slice_bounds-feature_head-end : goal.slice_bounds-feature_head-end
slice_bounds-feature_head-end c = sym (length-take-le _ _ (search (rules, step_within, c.in_ok-f.was)))

pub returns-in_default : goal.returns-in_default
returns-in_default c = search (rules, step_end, c.in_ok-f.was)

pub returns-in_err-f : goal.returns-in_err-f
returns-in_err-f c = search (rules, step_broken, c.in_err-f.was)

pub returns-in-None : goal.returns-in-None
returns-in-None c = search (rules, step_unread, c.in_ok-f.was)

pub returns-in-Some-feature_head : goal.returns-in-Some-feature_head
returns-in-Some-feature_head c = search (rules, step_read_lem, c.in_ok-f.was)
