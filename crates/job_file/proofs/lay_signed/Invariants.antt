-- After i turns the first i numbers are laid.
use mathlib.Core.List.{map}
use Rattle.promise.proofs.Copying.{Copied}
use Rattle.whole.specs.Twos.{signed32}
use Rattle.job_file.proofs.lay_signed.Given as goal

abbrev pub invariant-loop-i : goal.invariant-loop-i
invariant-loop-i l = Copied (map signed32 l.numbers) 0 l.initial.out l.out l.i
