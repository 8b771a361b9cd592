-- What the private steps ask for and leave behind. No promise of a public function rests on this.
use Rattle.std.specs.Prelude.{ℕ, zero, suc, ◌+◌, ◌≤◌, ◌≡◌, Bool, true, false, cond, List, [], ◌∷◌, length, drop, eqb}
use Rattle.utf8.specs.Utf8.{Range, ◌to◌, within, tail, is_utf8}

-- a byte of each of these ranges stands at the front
abbrev pub follows : List Range → List ℕ → Bool
follows [] bs = true
follows (r ∷ rs) [] = false
follows (r ∷ rs) (b ∷ bs) = cond (within r b) (follows rs bs) false

-- so many ranges: the first of them, and the others the common one
abbrev pub ranges : ℕ → ℕ → ℕ → List Range
ranges low high zero = []
ranges low high (suc n) = (low to high) ∷ ranges tail.low tail.high n

-- the n bytes at index i are a sequence of the table, so that the text from i on is UTF-8 if what is behind them is; where n is 0 it is not
pub record Goes (ws : List ℕ) (i n : ℕ) : Type 0 where
  pub inside : i + n ≤ length ws
  pub on : is_utf8 (drop i ws) ≡ cond (eqb n 0) false (is_utf8 (drop (i + n) ws))

-- what stands from one index on up to another is sequences of the table, so that the text from the one on is UTF-8 if what is from the other on is
pub record Read (ws : List ℕ) (from i : ℕ) : Type 0 where
  pub inside : i ≤ length ws
  pub rest : is_utf8 (drop from ws) ≡ is_utf8 (drop i ws)
