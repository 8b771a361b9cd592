-- A word of 32 bits, held in 64: what `x as usize` and `x as u64` tell of a word of a lent list.
use Rattle.std.specs.Prelude.{ℕ, ◌<◌, ◌≡◌}

pub record Wide (word n : ℕ) : Type 0 where
  pub same : n ≡ word
  pub small : n < 4294967296
