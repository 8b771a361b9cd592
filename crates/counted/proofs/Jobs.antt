-- The counts behind an accepted whole job are those of its calls, and the equation holds of its words: what `finish` answers and `losses` prints.
use mathlib.Core.Path.{◌≡◌}
use mathlib.Core.List.{List, []}
use Prim.Native.Nat.{ℕ}
use lib.IntN.{ℤ}
use Rattle.clip.specs.declared.BBox.{BBox}
use Rattle.encoder.specs.declared.GeomEncoder.{GeomEncoder}
use Rattle.encoder.specs.States.{fresh}
use Rattle.encoder.specs.Jobs.{on, points_of, job_calls, finished_job}
use Rattle.encoder.proofs.Losses.{finished_after}
use Rattle.counted.specs.Losses.{tally_of}
use Rattle.counted.specs.Vertices.{sorts}
use Rattle.counted.proofs.Tallied.{tally_is}
use Rattle.counted.proofs.Pairs.{Equation, equation}

module _ (kind : ℕ) (b : BBox) (points : List ℤ) (ends out : List ℕ) (n : ℕ) (t : GeomEncoder) (e : (finished_job kind b points ends out).answer ≡ on n t) where
  pub job_tally : t.tally ≡ tally_of kind b (job_calls (points_of points) 0 ends)
  job_tally = tally_is kind b (job_calls (points_of points) 0 ends) t out _ (finished_after kind b points ends out n t e)

  pub job_equation : Equation t (sorts (job_calls (points_of points) 0 ends) (fresh kind b) out [])
  job_equation = equation kind b (job_calls (points_of points) 0 ends) t out _ (finished_after kind b points ends out n t e)
