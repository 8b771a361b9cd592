-- Each turn lays the next byte behind those that are laid.
use Prim.Native.Nat.{◌-◌}
use lib.ListN.{length, drop}
use Rattle.printed.specs.Tiles.{hex_from, hex_lines}
use Rattle.printed.proofs.Pieces.{Pieces}
use Rattle.printed.proofs.append_hex.Given as goal

abbrev pub invariant-loop-i : goal.invariant-loop-i
invariant-loop-i l = Pieces 3 (length l.bytes) l.at (hex_lines l.bytes) l.initial.text l.text l.next l.i (hex_from (length l.bytes) l.i (drop l.i l.bytes))
