-- Each turn lays the next word's line behind those that are laid.
use Prim.Native.Nat.{◌-◌}
use lib.ListN.{length}
use Rattle.printed.proofs.Columns.{Column}
use Rattle.printed.proofs.append_words.Given as goal

abbrev pub invariant-loop-word : goal.invariant-loop-word
invariant-loop-word l = Column l.words l.at l.initial.text l.text l.next l.word-index
