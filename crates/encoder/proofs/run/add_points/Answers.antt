-- From a sound state the whole list is a run; from any other each point is added by itself.
use native.Mathlib.Omega.{arith}
use Rattle.encoder.proofs.Runs.{tests_sound, whole_run}
use borrow.Author.Rules.{rules}
use Rattle.encoder.proofs.run.add_points.Goals as goal

pub add_run-requires : goal.add_run-requires
add_run-requires c = record { from_le_to = omega arith; to_in_bounds = omega arith; sound = tests_sound _ _ _ _ c.is_valid.ensures c.is_placed.ensures c.if-is_valid-is_placed.true }

pub returns-then-is_valid-is_placed : goal.returns-then-is_valid-is_placed
returns-then-is_valid-is_placed c = search (rules, whole_run)
