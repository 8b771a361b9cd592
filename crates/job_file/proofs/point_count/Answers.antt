-- The numbers behind the table, two for each point.
use native.Mathlib.Omega.{arith}
use Rattle.job_file.proofs.Taking.{whole_file, cut_count, whole_count}
use Rattle.job_file.proofs.point_count.Goals as goal

pub overflow_sub-result : goal.overflow_sub-result
overflow_sub-result c = let w = whole_file _ _ c.body_of.ensures _ c.in-Some.is in omega (arith, w.at, w.table, w.ends)

pub returns-in-None : goal.returns-in-None
returns-in-None c = cut_count _ _ c.body_of.ensures c.in-None.is

pub returns-in-Some : goal.returns-in-Some
returns-in-Some c = whole_count _ _ c.body_of.ensures _ c.in-Some.is
