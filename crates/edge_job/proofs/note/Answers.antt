-- Two stores side by side are the two entries.
use native.Mathlib.Omega.{arith}
use lib.ListN.{length-set}
use Rattle.edge_job.proofs.Calls.{both_entries}
use borrow.Author.Rules.{rules}
use Rattle.edge_job.proofs.note.Goals as goal

pub bounds-edges-i-2 : goal.bounds-edges-i-2
bounds-edges-i-2 c = simp length-set (omega arith)

pub returns : goal.returns
returns c = search (rules, both_entries)
