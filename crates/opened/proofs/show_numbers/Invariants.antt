-- Each turn lays the next number behind those that are laid; with fewer bytes than they may take nothing is.
use lib.ListN.{length, drop}
use Rattle.printed.proofs.Pieces.{Pieces}
use Rattle.opened.specs.Opened.{numbers_text}
use Rattle.opened.proofs.show_numbers.Given as goal

abbrev pub invariant-loop-number : goal.invariant-loop-number
invariant-loop-number l = Pieces 21 (length l.numbers) 0 (numbers_text l.numbers) l.initial.text l.text l.next l.number-index (numbers_text (drop l.number-index l.numbers))
