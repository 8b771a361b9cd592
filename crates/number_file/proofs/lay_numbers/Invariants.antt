-- After i turns the first i numbers are laid.
use Rattle.promise.proofs.Copying.{Copied}
use Rattle.number_file.specs.Numbers.{numbers_of}
use Rattle.number_file.proofs.lay_numbers.Given as goal

abbrev pub invariant-loop-i : goal.invariant-loop-i
invariant-loop-i l = Copied (numbers_of l.bytes) 0 l.initial.out l.out l.i
