-- Each turn lays the next byte, or what stands for it, behind those that are laid; with fewer bytes than they may take nothing is.
use lib.ListN.{length, drop}
use Rattle.printed.proofs.Pieces.{Pieces}
use Rattle.opened.specs.Quoted.{quoted_text}
use Rattle.opened.proofs.quoted.show_quoted.Given as goal

abbrev pub invariant-loop-b : goal.invariant-loop-b
invariant-loop-b l = Pieces 4 (length l.bytes) 0 (quoted_text l.is_text l.bytes) l.initial.text l.text l.next l.b-index (quoted_text l.is_text (drop l.b-index l.bytes))
