-- The head, the count and the lines are laid one behind the other; with fewer bytes than they may take nothing is.
use Prim.Native.Nat.{◌/◌}
use native.Mathlib.Omega.{arith}
use lib.ListN.{length}
use Rattle.printed.specs.Printed.{newline}
use Rattle.printed.specs.Pairs.{edges_room, edges_text}
use Rattle.printed.proofs.Decimals.{ended_short}
use Rattle.printed.proofs.Columns.{not_shown}
use Rattle.printed.proofs.Pairs.{edges_shown}
use Rattle.printed.proofs.show_edges.Goals as goal

pub returns-then-size-lt27 : goal.returns-then-size-lt27
returns-then-size-lt27 c = not_shown (edges_room c.args.edges.now) (edges_text c.args.edges.now) c.args.text.now (omega arith)

pub returns-then-size-edges : goal.returns-then-size-edges
returns-then-size-edges c = not_shown (edges_room c.args.edges.now) (edges_text c.args.edges.now) c.args.text.now (omega arith)

pub append_pairs-requires : goal.append_pairs-requires
append_pairs-requires c =
    omega (arith, c.append_number-at.ensures.answer, ended_short (length c.args.edges.now / 2) newline)

pub returns : goal.returns
returns c =
    edges_shown c.args.text.now _ _ _ _ _ c.args.edges.now (omega arith) c.append.ensures c.append_number-at.ensures c.append_pairs.ensures
