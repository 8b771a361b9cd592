-- Surveyed points as C gives them: a map by its six numbers, a point's answer as three, and the call and the job of the grid points.
use Rattle.std.specs.Prelude.{ℕ, ◌/◌, List, [], ◌∷◌, ℤ, pos, Float, length}
use Rattle.promise.specs.Answers.{Written}
use Rattle.refusal.specs.Said.{Said}
use Rattle.clip.specs.declared.Pt.{Pt}
use Rattle.clip.specs.Numbers.{box_at}
use Rattle.affine.specs.declared.Affine.{Affine}
use Rattle.affine.specs.Mapping.{surveyed}
use Rattle.survey_job.specs.Surveys.{surveyed_job}
use Rattle.telling.specs.Telling.{told}
use Rattle.brinepost.specs.declared.state.BpEncoder.{BpEncoder}
use Rattle.brinepost.specs.declared.calls.BpDrawn.{BpDrawn}
use Rattle.brinepost.specs.declared.work.BpJob.{BpJob}
use Rattle.brinepost.specs.declared.surveyed.BpAffine.{BpAffine}
use Rattle.brinepost.specs.declared.surveyed.BpMapped.{BpMapped}
use Rattle.brinepost.specs.Works.{flat_job}
use Rattle.brinepost.specs.Drawing.{added_at}

abbrev pub map_of : BpAffine → Affine
map_of m = record { a = m.a; b = m.b; c = m.c; d = m.d; e = m.e; f = m.f }

-- the refusal's number and the grid point, or 0 and 0 where there is none
abbrev pub numbers : ℕ → List Pt → BpMapped
numbers n [] = record { refusal = n; x = pos 0; y = pos 0 }
numbers n (p ∷ ps) = record { refusal = n; x = p.x; y = p.y }

unfoldable pub flat_mapped : Said (List Pt) → BpMapped
flat_mapped a = numbers a.number a.values

-- the call of the grid point, told to C
abbrev pub surveyed_from : BpEncoder → BpAffine → Float → Float → List ℕ → Written BpDrawn (List ℕ)
surveyed_from given map x y out = added_at given (surveyed (map_of map) x y) out

-- the whole job of the grid points, told to C: as many points as doubles by two
abbrev pub survey_from : ℕ → ℤ → ℤ → ℤ → ℤ → BpAffine → List Float → List ℕ → List ℕ → Written BpJob (List ℕ)
survey_from kind left right bottom top map points ends out =
    told (flat_job (length points / 2)) (surveyed_job kind (box_at left right bottom top) (map_of map) points ends out)
