-- Document 02, request (x): doubles, by their bit patterns, and the whole numbers that they go to; maps of a point; and one surveyed job. Each list with one
-- statement that the definitions give it.
use Rattle.std.specs.Prelude.{◌≡◌, refl, List, [], ◌∷◌, map, ℕ, ℤ, pos, negsuc, Float, replicate}
use Rattle.std.specs.Float.{binary64}
use Rattle.std.specs.Float.Ieee.{of_bits, add, mul}
use Rattle.clip.specs.declared.BBox.{BBox}
use Rattle.clip.specs.Domain.{is_coord, is_good}
use Rattle.words.specs.Params.{param}
use Rattle.encoder.specs.States.{valid}
use Rattle.encoder.specs.Emitting.{emission}
use Rattle.encoder.specs.Adding.{boundary, added}
use Rattle.encoder.specs.Completing.{finished, completed}
use Rattle.encoder.specs.Jobs.{is_job, encoded_job}
use Rattle.affine.specs.declared.Affine.{Affine}
use Rattle.affine.specs.Grid.{whole_of, grid_of, beyond}
use Rattle.affine.specs.Mapping.{along, grids_of}
use Rattle.survey_job.specs.Surveys.{surveyed_job}

-- ---- doubles
pub record Double : Type 0 where
  pub bits : ℕ
  pub number : ℤ

abbrev at : ℕ → ℤ → Double
at bits number = record { bits = bits; number = number }

abbrev pub doubles : List Double
doubles =
    -- 0.5, -0.5, 1.5, 2.5, -2.5: halves away from zero
    at 0x3fe0_0000_0000_0000 (pos 1) ∷ at 0xbfe0_0000_0000_0000 (negsuc 0) ∷ at 0x3ff8_0000_0000_0000 (pos 2) ∷ at 0x4004_0000_0000_0000 (pos 3) ∷ at 0xc004_0000_0000_0000 (negsuc 2) ∷
    -- the double below 0.5, and the one above -0.5; the two next to 2.5
    at 0x3fdf_ffff_ffff_ffff (pos 0) ∷ at 0xbfdf_ffff_ffff_ffff (pos 0) ∷ at 0x4003_ffff_ffff_ffff (pos 2) ∷ at 0x4004_0000_0000_0001 (pos 3) ∷
    -- 0, -0, the smallest subnormal
    at 0 (pos 0) ∷ at 0x8000_0000_0000_0000 (pos 0) ∷ at 1 (pos 0) ∷
    -- the double below 1073741823.5, and that one itself; their opposites
    at 0x41cf_ffff_ffbf_ffff (pos 1073741823) ∷ at 0x41cf_ffff_ffc0_0000 beyond ∷ at 0xc1cf_ffff_ffbf_ffff (negsuc 1073741822) ∷ at 0xc1cf_ffff_ffc0_0000 beyond ∷
    -- the largest double, both infinities, NaNs
    at 0x7fef_ffff_ffff_ffff beyond ∷ at 0x7ff0_0000_0000_0000 beyond ∷ at 0xfff0_0000_0000_0000 beyond ∷ at 0x7ff8_0000_0000_0000 beyond ∷ at 0xffff_ffff_ffff_ffff beyond ∷
    []

pub doubles_hold : map (λ (d : Double). grid_of (of_bits binary64 d.bits)) doubles ≡ map (λ (d : Double). d.number) doubles
unfolding grid_of whole_of of_bits
doubles_hold = refl

-- ---- a·x + b·y + c, by the bits of a, b, c, x and y
pub record Mapped : Type 0 where
  pub a : ℕ
  pub b : ℕ
  pub c : ℕ
  pub x : ℕ
  pub y : ℕ
  pub number : ℤ

abbrev pub maps : List Mapped
maps =
    -- no product is fused with a sum: a = x = 134217729, b = -1, y = 18014398777917440 give 0, where the exact value is 1
    record { a = 0x41a0_0000_0200_0000; b = 0xbff0_0000_0000_0000; c = 0; x = 0x41a0_0000_0200_0000; y = 0x4350_0000_0400_0000; number = pos 0 } ∷
    -- c comes last: x + y + 1 at (1e16, -1e16) is 1, and 1 added to -1e16 first would be lost
    record { a = 0x3ff0_0000_0000_0000; b = 0x3ff0_0000_0000_0000; c = 0x3ff0_0000_0000_0000; x = 0x4341_c379_37e0_8000; y = 0xc341_c379_37e0_8000; number = pos 1 } ∷
    -- each operation is rounded: 3 times the double nearest to 1/6 is 1/2, and goes to 1
    record { a = 0x4008_0000_0000_0000; b = 0; c = 0; x = 0x3fc5_5555_5555_5555; y = 0; number = pos 1 } ∷
    -- 0 times an infinity is no number
    record { a = 0; b = 0; c = 0; x = 0x7ff0_0000_0000_0000; y = 0; number = beyond } ∷
    []

abbrev map_gives : Mapped → ℤ
map_gives m = grid_of (along (of_bits binary64 m.a) (of_bits binary64 m.b) (of_bits binary64 m.c) (of_bits binary64 m.x) (of_bits binary64 m.y))

pub maps_hold : map map_gives maps ≡ map (λ (m : Mapped). m.number) maps
unfolding grid_of whole_of of_bits add mul
maps_hold = refl

-- ---- samples/half: points at and next to halves, with the map that changes nothing
abbrev double : ℕ → Float
double bits = of_bits binary64 bits

abbrev same : Affine
same = record { a = double 0x3ff0_0000_0000_0000; b = double 0; c = double 0; d = double 0; e = double 0x3ff0_0000_0000_0000; f = double 0 }

abbrev ten : BBox
ten = record { x_min = negsuc 9; x_max = pos 10; y_min = negsuc 9; y_max = pos 10 }

abbrev halves : List Float
halves = map double (0x3fdf_ffff_ffff_ffff ∷ 0x3fe0_0000_0000_0000 ∷ 0xbfe0_0000_0000_0000 ∷ 0xbfdf_ffff_ffff_ffff ∷ 0x3ff8_0000_0000_0000 ∷ 0x4004_0000_0000_0000 ∷ [])

-- (0, 1), (-1, 0), (2, 3)
pub half_words : (surveyed_job 1 ten same halves (3 ∷ []) (replicate 7 0)).memory ≡ 25 ∷ 0 ∷ 2 ∷ 1 ∷ 1 ∷ 6 ∷ 6 ∷ []
unfolding grids_of grid_of whole_of of_bits add mul encoded_job is_job valid is_coord is_good emission boundary added finished completed param
half_words = refl
