-- The four pieces are laid one behind the other; with fewer bytes than they may take nothing is.
use native.Mathlib.Omega.{arith}
use Rattle.printed.specs.Printed.{space, refused_room, refused_text}
use Rattle.printed.proofs.Decimals.{ended_short}
use Rattle.printed.proofs.Columns.{not_shown, refused_shown}
use Rattle.printed.proofs.show_refused.Goals as goal

pub returns-then-text-lt-REFUSED : goal.returns-then-text-lt-REFUSED
returns-then-text-lt-REFUSED c = not_shown refused_room (refused_text c.args.number c.args.points) c.args.text.now (omega arith)

-- the number and its space end by place 29
pub append-requires-2 : goal.append-requires-2
append-requires-2 c = omega (arith, c.append_number-at.ensures.answer, ended_short c.args.number space)

pub overflow_add-at : goal.overflow_add-at
overflow_add-at c = omega (arith, c.append_number-at.ensures.answer, ended_short c.args.number space)

pub append_number-requires : goal.append_number-requires
append_number-requires c = omega (arith, c.append_number-at.ensures.answer, ended_short c.args.number space)

pub returns : goal.returns
returns c =
    refused_shown c.args.text.now _ _ _ _ _ _ c.args.number c.args.points (omega arith) c.append.ensures c.append_number-at.ensures c.append-2.ensures c.append_number.ensures
