-- Document 01, "Cutting a segment": the exact crossing rounded to the nearest whole number, halves up, below zero too.
-- That `round` gives the one number that is `Rounded` is `round_is` and `round_only` of proofs/Roundings; the same of a crossing, with its exact y, is
-- `height_is` and `height_only` there.
use Rattle.std.specs.Prelude.{◌≡◌, refl, ℤ, pos, negsuc, ◌+ℤ◌, ◌-ℤ◌, ◌*ℤ◌, ◌≤ℤ◌, ◌<ℤ◌}
use Rattle.whole.specs.Floor.{floor}

-- n / d rounded to the nearest whole number, halves up, for d above zero: n / d + 1/2 rounded down
abbrev pub round : ℤ → ℤ → ℤ
round n d = floor (pos 2 *ℤ n +ℤ d) (pos 2 *ℤ d)

-- y is n / d so rounded: n / d - 1/2 < y ≤ n / d + 1/2, multiplied by 2 · d
pub record Rounded (n d y : ℤ) : Type 0 where
  pub above : (pos 2 *ℤ n -ℤ d) <ℤ (pos 2 *ℤ d *ℤ y)
  pub upto : (pos 2 *ℤ d *ℤ y) ≤ℤ (pos 2 *ℤ n +ℤ d)

-- an offset of -1/2 gives 0, one of 1/2 gives 1, one of -3/2 gives -1
pub half_below_zero : round (negsuc 0) (pos 2) ≡ pos 0
half_below_zero = refl

pub half_above_zero : round (pos 1) (pos 2) ≡ pos 1
half_above_zero = refl

pub three_halves_below : round (negsuc 2) (pos 2) ≡ negsuc 0
three_halves_below = refl
