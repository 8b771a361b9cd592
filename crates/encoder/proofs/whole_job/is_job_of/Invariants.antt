-- The ends that are left, from the one before them, decide as the whole list does.
use Rattle.encoder.proofs.Turns.{Ending}
use Rattle.encoder.proofs.whole_job.is_job_of.Given as goal

abbrev pub invariant-loop-end : goal.invariant-loop-end
invariant-loop-end l = Ending l.length l.ends l.from l.end-index
