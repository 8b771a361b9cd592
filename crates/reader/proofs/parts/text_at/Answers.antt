-- Of what stands behind the place so many bytes, or all where there are no more.
use mathlib.Core.Path.{sym, ap, ◌∙◌}
use native.Mathlib.Omega.{arith}
use lib.ListN.{take}
use lib.Seq.{take_all, length-take-le}
use Rattle.reader.proofs.parts.text_at.Goals as goal

pub returns-then-rest-len : goal.returns-then-rest-len
returns-then-rest-len c =
    let r = c.behind-rest.result.now in
    sym (take_all c.args.len r (omega arith)) ∙ ap (take c.args.len) c.behind-rest.ensures

pub slice_bounds-result-end : goal.slice_bounds-result-end
slice_bounds-result-end c = sym (length-take-le _ _ (omega arith))

pub returns : goal.returns
returns c = ap (take c.args.len) c.behind-rest.ensures
