-- The quotient rounded down: what it is, and a definition that computes it. That the two agree is `floor_is` of proofs/Floors.
use Rattle.std.specs.Prelude.{cond, ℤ, pos, ◌+ℤ◌, ◌-ℤ◌, ◌*ℤ◌, ◌≤ℤ◌, ◌<ℤ◌}
use Rattle.std.specs.Int.Signed.{lt_z, quot_z, rem_z}

-- q is the largest whole number whose product with d, which is above zero, is at most m
pub record IsFloor (m d q : ℤ) : Type 0 where
  pub low : (q *ℤ d) ≤ℤ m
  pub high : m <ℤ ((q +ℤ pos 1) *ℤ d)

-- m / d rounded down, for d above zero: one less than the quotient rounded toward zero where the remainder is below zero
abbrev pub floor : ℤ → ℤ → ℤ
floor m d = cond (lt_z (rem_z m d) (pos 0)) (quot_z m d -ℤ pos 1) (quot_z m d)
