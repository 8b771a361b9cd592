-- The line's end is laid behind the number and its name; with fewer bytes than they may take nothing is.
use native.Mathlib.Omega.{arith}
use Rattle.printed.proofs.Columns.{not_shown}
use Rattle.printed.specs.Printed.{newline}
use mathlib.Core.List.{[], ◌∷◌}
use Rattle.opened.specs.Opened.{named, layers_head, layers_text, layers_room}
use Rattle.opened.proofs.Chains.{then_laid, front}
use Rattle.opened.proofs.Spelling.{named_short}
use Rattle.opened.proofs.show_layers.Goals as goal

pub returns-then-text-lt-LAYERS : goal.returns-then-text-lt-LAYERS
returns-then-text-lt-LAYERS c = let a = c.args in not_shown layers_room (layers_text a.n) a.text.now (omega arith)

pub append-requires : goal.append-requires
append-requires c = omega (arith, c.append_named-at.ensures.answer, named_short layers_head c.args.n)

pub returns : goal.returns
returns c =
    let a = c.args in
    let head = named layers_head a.n in
    front layers_room (layers_text a.n) a.text.now (omega arith)
    (then_laid head (newline ∷ []) a.text.now 0 (omega (arith, named_short layers_head a.n)) c.append_named-at.ensures c.append.ensures)
