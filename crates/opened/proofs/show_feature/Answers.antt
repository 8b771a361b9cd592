-- The id stands behind the type where there is one, and the line's end behind them; with fewer bytes than they may take nothing is laid.
use native.Mathlib.Omega.{arith}
use Rattle.printed.proofs.Columns.{not_shown}
use Rattle.opened.specs.Opened.{feature_head, id_head, feature_text, feature_room}
use Rattle.opened.proofs.Spelling.{named_short}
use Rattle.opened.proofs.Lines.{with_id, without_id}
use Rattle.opened.proofs.show_feature.Goals as goal

pub returns-then-text-lt-FEATURE : goal.returns-then-text-lt-FEATURE
returns-then-text-lt-FEATURE c = let a = c.args in not_shown feature_room (feature_text a.kind a.id) a.text.now (omega arith)

pub append_named-next-requires : goal.append_named-next-requires
append_named-next-requires c = omega (arith, c.append_named-at.ensures.answer, named_short feature_head c.args.kind)

pub append-requires : goal.append-requires
append-requires c =
    omega (
      arith,
      c.append_named-at.ensures.answer,
      named_short feature_head c.args.kind,
      c.append_named-next.ensures.answer,
      named_short id_head c.in-Some.id,
    )

pub returns-in-Some : goal.returns-in-Some
returns-in-Some c =
    let a = c.args in
    rw c.in-Some.is (with_id a.kind a.text.now (omega arith) c.append_named-at.ensures c.in-Some.id c.append_named-next.ensures c.append.ensures)

pub append-requires-2 : goal.append-requires-2
append-requires-2 c = omega (arith, c.append_named-at.ensures.answer, named_short feature_head c.args.kind)

pub returns : goal.returns
returns c =
    let a = c.args in
    rw c.in_default.is (without_id a.kind a.text.now (omega arith) c.append_named-at.ensures c.append-2.ensures)
