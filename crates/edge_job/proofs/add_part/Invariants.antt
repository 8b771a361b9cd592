-- What is left of the part, from the state and the lists that there are, gives the rest of the answer; then completing.
use Rattle.edge_job.specs.EdgeJobs.{lists}
use Rattle.edge_job.proofs.Turns.{Adding}
use Rattle.edge_job.proofs.add_part.Given as goal

abbrev pub invariant-loop-i : goal.invariant-loop-i
invariant-loop-i l = Adding l.points l.from l.to (lists l.initial.words l.initial.edges) l.initial.q (lists l.words l.edges) l.q l.i
