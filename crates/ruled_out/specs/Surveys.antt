-- Crates `affine`, `survey_job` and `job_file` (its survey file): wrong ways to the grid, wrong maps, wrong surveys.
use Rattle.std.specs.Prelude.{ℕ, ◌+◌, ◌-◌, ◌*◌, ◌/◌, ◌≡◌, Bool, true, false, cond, List, [], ◌∷◌, ℤ, pos, neg_ℤ, Float, length, None}
use Rattle.std.proofs.Common.{ap, arith}
use Rattle.std.specs.Float.{nan, inf, fin, binary64}
use Rattle.std.specs.Float.Ieee.{up, down, of_bits, add, mul, to_unsigned}
use Rattle.std.specs.Float.Ieee.Nearest.{closest}
use Rattle.whole.specs.Twos.{wide}
use Rattle.clip.specs.Domain.{within, is_coord}
use Rattle.encoder.specs.declared.GeomEncoder.{GeomEncoder}
use Rattle.encoder.specs.States.{valid}
use Rattle.encoder.specs.Adding.{added}
use Rattle.affine.specs.declared.Affine.{Affine}
use Rattle.affine.specs.Grid.{signed, whole_of, grid_of}
use Rattle.affine.specs.Mapping.{along, surveyed, mapped, grids_of}
use Rattle.job_file.specs.SurveyFile.{doubles_of, map_of}
use Rattle.ruled_out.specs.Inputs.{bit, size, state}

abbrev double : ℕ → Float
double bits = of_bits binary64 bits

abbrev one : Float
one = double 0x3ff0_0000_0000_0000

abbrev naught : Float
naught = double 0

-- ---- the nearest whole number
-- a half added and the rest cut: the double below one half would go to 1
pub half_and_cut : ((x : Float) → whole_of x ≡ pos (to_unsigned 64 (add binary64 x (double 0x3fe0_0000_0000_0000)))) → ⊥
unfolding whole_of of_bits add to_unsigned
half_and_cut h = let e : ◌≡◌ {A = ℕ} 0 1 = ap size (h (double 0x3fdf_ffff_ffff_ffff)) in omega arith

-- ties to even: 2.5 would go to 2
pub ties_to_even : ((s : Bool) (m : ℕ) (e : ℤ) → whole_of (fin s m e) ≡ signed s (closest (m * up e) (down e))) → ⊥
unfolding whole_of
ties_to_even h = let e : ◌≡◌ {A = ℕ} 3 2 = ap size (h false 5 (neg_ℤ (pos 1))) in omega arith

-- halves up, as a cut is rounded: -0.5 would go to 0
pub halves_up : ((m : ℕ) (e : ℤ) → whole_of (fin true m e) ≡ neg_ℤ (pos ((2 * (m * up e) + down e - 1) / (2 * down e)))) → ⊥
unfolding whole_of
halves_up h = let e : ◌≡◌ {A = ℕ} 1 0 = ap size (h 1 (neg_ℤ (pos 1))) in omega arith

-- the fraction dropped: 0.5 would go to 0
pub cut_off : ((x : Float) → whole_of x ≡ pos (to_unsigned 64 x)) → ⊥
unfolding whole_of of_bits to_unsigned
cut_off h = let e : ◌≡◌ {A = ℕ} 1 0 = ap size (h (double 0x3fe0_0000_0000_0000)) in omega arith

-- ---- COORD
-- what lies beyond the limit held at it, as casts do it: a point of another lane
pub held_at_the_limit : ((x : Float) → within (grid_of x) ≡ true) → ⊥
unfolding grid_of whole_of
held_at_the_limit h = let e : ◌≡◌ {A = ℕ} 0 1 = ap bit (h (inf false)) in omega arith

-- no number accepted
pub nan_accepted : ((t : Affine) (x y : Float) → (mapped t x y).number ≡ 0) → ⊥
unfolding mapped is_coord grid_of whole_of of_bits add mul
nan_accepted h = let e : ◌≡◌ {A = ℕ} 5 0 = h (record { a = one; b = naught; c = naught; d = naught; e = one; f = naught }) nan one in omega arith

-- COORD before STATE: no number, added to a state that uses more words than there are
pub coord_first : ((s : GeomEncoder) (t : Affine) (x y : Float) (out : List ℕ)
    → (added s (surveyed t x y) out).answer.number ≡ cond (is_coord (surveyed t x y)) (added s (surveyed t x y) out).answer.number 5) → ⊥
unfolding added valid is_coord grid_of whole_of of_bits add mul
coord_first h = let e : ◌≡◌ {A = ℕ} 4 5 = h (state 1 None None None 0 0 9) (record { a = one; b = naught; c = naught; d = naught; e = one; f = naught }) nan one [] in omega arith

-- ---- the map
-- the sum from the right: 1 added to -1e16 is lost
pub sum_from_the_right : ((a b c x y : Float) → along a b c x y ≡ add binary64 (mul binary64 a x) (add binary64 (mul binary64 b y) c)) → ⊥
unfolding grid_of whole_of of_bits add mul
sum_from_the_right h = let e : ◌≡◌ {A = ℕ} 1 0 = ap (λ (z : Float). size (grid_of z)) (h one one one (double 0x4341_c379_37e0_8000) (double 0xc341_c379_37e0_8000)) in omega arith

-- the matrix read by columns
pub by_columns : ((t : Affine) (x y : Float) → (surveyed t x y).x ≡ grid_of (along t.a t.d t.c x y)) → ⊥
unfolding grid_of whole_of of_bits add mul
by_columns h = let e : ◌≡◌ {A = ℕ} 2 1 = ap size (h (record { a = one; b = one; c = naught; d = naught; e = one; f = naught }) one one) in omega arith

-- ---- a survey and its file
-- an odd list loses its last number, and would be a job
pub odd_survey_taken : ((t : Affine) (x : Float) → grids_of t (x ∷ []) ≡ []) → ⊥
unfolding grids_of
odd_survey_taken h = let e : ◌≡◌ {A = ℕ} 1 0 = ap length (h (record { a = one; b = one; c = naught; d = naught; e = one; f = naught }) one) in omega arith

-- the high half first
pub high_half_first : ((low high : ℕ) → doubles_of (low ∷ high ∷ []) ≡ of_bits binary64 (wide high low) ∷ []) → ⊥
unfolding grid_of whole_of of_bits
high_half_first h = let e : ◌≡◌ {A = ℕ} 1 0 = ap first_of (h 0 0x3ff0_0000) in omega arith
  where
    first_of : List Float → ℕ
    first_of [] = 9
    first_of (x ∷ l) = size (grid_of x)

-- the map read by columns: a, d, b, e, c, f
pub columns_in_the_file : ((l : List Float) → (map_of l).b ≡ (map_of l).d) → ⊥
unfolding grid_of whole_of of_bits
columns_in_the_file h = let e : ◌≡◌ {A = ℕ} 1 0 = ap (λ (z : Float). size (grid_of z)) (h (naught ∷ one ∷ naught ∷ naught ∷ [])) in omega arith
