-- The outcomes, the head, the count and the bytes are laid one behind the other; with fewer bytes than they may take nothing is.
use native.Mathlib.Omega.{arith}
use lib.ListN.{length}
use Rattle.printed.specs.Printed.{newline}
use Rattle.printed.specs.Tiles.{tile_room, tile_text}
use Rattle.printed.proofs.Decimals.{ended_short}
use Rattle.printed.proofs.Columns.{not_shown}
use Rattle.printed.proofs.Rows.{outcomes_long, tile_shown}
use Rattle.printed.proofs.show_tile.Goals as goal

pub returns-then-text-lt27 : goal.returns-then-text-lt27
returns-then-text-lt27 c = not_shown (tile_room c.args.outcomes.now c.args.bytes.now) (tile_text c.args.outcomes.now c.args.bytes.now) c.args.text.now (omega arith)

pub returns-then-left-outcomes : goal.returns-then-left-outcomes
returns-then-left-outcomes c = not_shown (tile_room c.args.outcomes.now c.args.bytes.now) (tile_text c.args.outcomes.now c.args.bytes.now) c.args.text.now (omega arith)

pub returns-then-left-outcomes-2 : goal.returns-then-left-outcomes-2
returns-then-left-outcomes-2 c = not_shown (tile_room c.args.outcomes.now c.args.bytes.now) (tile_text c.args.outcomes.now c.args.bytes.now) c.args.text.now (omega arith)

-- the outcomes end where their room does at the latest
pub append-requires : goal.append-requires
append-requires c = omega (arith, c.append_outcomes-head.ensures.answer, outcomes_long c.args.outcomes.now, c.if-left-outcomes-2.false)

pub overflow_add-head : goal.overflow_add-head
overflow_add-head c = omega (arith, c.append_outcomes-head.ensures.answer, outcomes_long c.args.outcomes.now)

pub append_number-at-requires : goal.append_number-at-requires
append_number-at-requires c = omega (arith, c.append_outcomes-head.ensures.answer, outcomes_long c.args.outcomes.now)

pub append_hex-requires : goal.append_hex-requires
append_hex-requires c =
    omega (arith, c.append_outcomes-head.ensures.answer, outcomes_long c.args.outcomes.now, c.append_number-at.ensures.answer, ended_short (length c.args.bytes.now) newline)

pub returns : goal.returns
returns c =
    tile_shown c.args.text.now _ _ _ _ _ _ _ c.args.outcomes.now c.args.bytes.now (omega arith) c.append_outcomes-head.ensures c.append.ensures c.append_number-at.ensures c.append_hex.ensures
