-- The smaller of two numbers.
use Rattle.std.specs.Prelude.{ℕ, cond, leb}

abbrev pub smaller : ℕ → ℕ → ℕ
smaller a b = cond (leb a b) a b
