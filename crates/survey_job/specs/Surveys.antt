-- Document 02, request (x): "Add a step before the encoder". A surveyed job is the whole job of document 01 on the grid points; JOB, KIND, BOX, COORD in its old
-- place, EMPTY, ROOM, the accepted points and the list after the call are that job's.
use Rattle.std.specs.Prelude.{ℕ, List, Float}
use Rattle.promise.specs.Answers.{Written}
use Rattle.refusal.specs.Said.{Said}
use Rattle.clip.specs.declared.BBox.{BBox}
use Rattle.encoder.specs.Jobs.{encoded_job}
use Rattle.affine.specs.declared.Affine.{Affine}
use Rattle.affine.specs.Mapping.{grids_of}

abbrev pub surveyed_job : ℕ → BBox → Affine → List Float → List ℕ → List ℕ → Written (Said ℕ) (List ℕ)
surveyed_job kind bbox map points ends words = encoded_job kind bbox (grids_of map points) ends words
