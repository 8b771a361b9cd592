-- Each turn lays the next line behind those that are laid.
use Prim.Native.Nat.{◌-◌, ◌/◌}
use lib.ListN.{length}
use Rattle.printed.proofs.Pairs.{Pairs}
use Rattle.printed.proofs.append_pairs.Given as goal

abbrev pub invariant-loop-i : goal.invariant-loop-i
invariant-loop-i l = Pairs l.numbers l.at l.initial.text l.text l.next l.i
