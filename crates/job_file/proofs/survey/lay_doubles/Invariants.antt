-- After i turns the first i doubles are laid.
use Prim.Native.Nat.{◌/◌}
use mathlib.Core.Path.{◌≡◌}
use lib.ListN.{length}
use Rattle.promise.proofs.Copying.{Copied}
use Rattle.job_file.specs.SurveyFile.{doubles_of}
use Rattle.job_file.proofs.survey.lay_doubles.Given as goal

abbrev pub invariant-loop-i : goal.invariant-loop-i
invariant-loop-i l = Copied (doubles_of l.numbers) 0 l.initial.out l.out l.i × (l.i-end ≡ length l.numbers / 2)
