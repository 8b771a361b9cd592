-- What the private steps ask for and answer.
use Rattle.std.specs.Prelude.{ℕ, ◌+◌, ◌-◌, ◌*◌, ◌≤◌, cond, ltb}
use Rattle.index.specs.Chains.{slots_in}

-- where the text of len bytes at start ends, or all bytes do
abbrev pub end_in : ℕ → ℕ → ℕ → ℕ
end_in bytes start len = cond (ltb (bytes - start) len) bytes (start + len)

-- the entries below the limit, of so many words each, stand in the list, and so do their links
pub record Ahead (limit index words entries : ℕ) : Type 0 where
  pub linked : limit ≤ slots_in index
  pub listed : limit * words ≤ entries
