-- Each turn lays the next number behind those that are laid; with fewer bytes than they may take nothing is.
use Prim.Native.Nat.{◌-◌}
use lib.ListN.{length, drop}
use Rattle.printed.specs.Row.{row_from, row_text}
use Rattle.printed.proofs.Pieces.{Pieces}
use Rattle.printed.proofs.show_row.Given as goal

abbrev pub invariant-loop-i : goal.invariant-loop-i
invariant-loop-i l = Pieces 22 (length l.numbers) 0 (row_text l.numbers) l.initial.text l.text l.next l.i (row_from (length l.numbers) l.i (drop l.i l.numbers))
