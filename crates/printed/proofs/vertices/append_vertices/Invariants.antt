-- Each turn lays the next line behind those that are laid, and none is longer than its room.
use Prim.Native.Nat.{◌-◌, ◌/◌}
use lib.ListN.{length}
use Rattle.printed.proofs.Triples.{Lines}
use Rattle.printed.proofs.vertices.append_vertices.Given as goal

abbrev pub invariant-loop-i : goal.invariant-loop-i
invariant-loop-i l = Lines l.numbers l.at l.initial.text l.text l.next l.i
