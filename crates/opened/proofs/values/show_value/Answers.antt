-- The line's end is laid behind the words; with fewer bytes than they may take nothing is.
use native.Mathlib.Omega.{arith}
use mathlib.Core.List.{[], ◌∷◌}
use Rattle.printed.specs.Printed.{newline}
use Rattle.printed.proofs.Columns.{not_shown}
use Rattle.opened.specs.Values.{value_words, value_text, value_room}
use Rattle.opened.proofs.Chains.{then_laid, front}
use Rattle.opened.proofs.ByKind.{words_short}
use Rattle.opened.proofs.values.show_value.Goals as goal

pub returns-then-text-lt-VALUE : goal.returns-then-text-lt-VALUE
returns-then-text-lt-VALUE c = let a = c.args in not_shown value_room (value_text a.kind a.bits) a.text.now (omega arith)

pub append-requires : goal.append-requires
append-requires c = omega (arith, c.append_value-at.ensures.answer, words_short c.args.kind c.args.bits)

pub returns : goal.returns
returns c =
    let a = c.args in
    front value_room (value_text a.kind a.bits) a.text.now (omega arith)
    (then_laid (value_words a.kind a.bits) (newline ∷ []) a.text.now 0 (omega (arith, words_short a.kind a.bits)) c.append_value-at.ensures c.append.ensures)
