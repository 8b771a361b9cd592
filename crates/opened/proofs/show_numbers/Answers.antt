use native.Mathlib.Omega.{arith}
use mathlib.Core.List.{[], ◌∷◌}
use Rattle.printed.specs.Printed.{space}
use Rattle.printed.proofs.Pieces.{pieces_start, pieces_room, pieces_turn, pieces_done}
use Rattle.printed.proofs.Columns.{not_shown}
use Rattle.opened.specs.Opened.{numbers_text, numbers_room}
use Rattle.opened.proofs.Chains.{front}
use Rattle.opened.proofs.Spelling.{named_short}
use Rattle.opened.proofs.Escapes.{numbers_turn, numbers_done}
use borrow.Author.Rules.{rules}
use Rattle.opened.proofs.show_numbers.Goals as goal

pub returns-then-text-n : goal.returns-then-text-n
returns-then-text-n c = let a = c.args in not_shown (numbers_room a.numbers.now) (numbers_text a.numbers.now) a.text.now (omega arith)

pub loop-number-init : goal.loop-number-init
loop-number-init c = pieces_start (omega arith)

pub append_named-next-requires : goal.append_named-next-requires
append_named-next-requires c = omega (arith, pieces_room c.loop-number.invariant (search rules))

pub loop-number-preserved : goal.loop-number-preserved
loop-number-preserved c =
    let w = c.from in
    pieces_turn c.loop-number.invariant _ _ _ _ (search rules) (named_short (space ∷ []) w.result)
    (numbers_turn c.args.numbers.now c.loop-number.number-index w.result (search rules) (search rules)) (search rules) c.append_named-next.ensures

pub returns : goal.returns
returns c =
    let a = c.args in
    front (numbers_room a.numbers.now) (numbers_text a.numbers.now) a.text.now (omega arith) (pieces_done c.loop-number.invariant (numbers_done a.numbers.now c.loop-number.number-index (search rules)))
