-- What is left of the parts, from the state and the lists that there are, gives the rest of the answer; the ends never descend and never pass the last one.
use Rattle.edge_job.specs.EdgeJobs.{lists}
use Rattle.edge_job.proofs.Turns.{Going}
use Rattle.edge_job.proofs.add_parts.Given as goal

abbrev pub invariant-loop-end : goal.invariant-loop-end
invariant-loop-end l = Going l.points l.ends (lists l.initial.words l.initial.edges) l.initial.q (lists l.words l.edges) l.q l.from l.end-index
