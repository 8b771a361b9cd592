-- A refusal with a place is shown as every such line; of another one the two pieces are laid one behind the other.
use native.Mathlib.Omega.{arith}
use Rattle.printed.specs.Printed.{refused_room}
use Rattle.printed.specs.Faults.{fault_text}
use Rattle.printed.proofs.Columns.{not_shown}
use Rattle.printed.proofs.Placing.{placed_shown, plain_shown}
use Rattle.printed.proofs.faults.show_fault.Goals as goal

pub returns-then-has_place : goal.returns-then-has_place
returns-then-has_place c =
    placed_shown c.args.number c.args.place c.args.text.now c.has_place.ensures c.if-has_place.true c.show_refused.ensures

pub returns-then-text-lt-REFUSED : goal.returns-then-text-lt-REFUSED
returns-then-text-lt-REFUSED c = let a = c.args in not_shown refused_room (fault_text a.number a.place) a.text.now (omega arith)

pub returns : goal.returns
returns c =
    plain_shown c.args.number c.args.place c.args.text.now c.has_place.ensures c.if-has_place.false _ _ _ (omega arith) c.append.ensures c.append_number.ensures
