-- What is left of the parts, from the state and the list that there are, gives the rest of the answer; the ends never descend and never pass the last one.
use Rattle.encoder.proofs.Turns.{Going}
use Rattle.encoder.proofs.whole_job.add_parts.Given as goal

abbrev pub invariant-loop-end : goal.invariant-loop-end
invariant-loop-end l = Going l.points l.ends l.initial.words l.initial.q l.words l.q l.from l.end-index
