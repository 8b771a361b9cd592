-- A number in decimal, as ASCII: its digits, the most significant first, none of them a leading zero, and 0 for zero.
use Rattle.std.specs.Prelude.{ℕ, zero, suc, ◌+◌, ◌/◌, ◌%◌, cond, List, [], ◌∷◌, ◌++◌, ltb}

-- at most k digits
abbrev pub decimal_in : ℕ → ℕ → List ℕ
decimal_in zero n = []
decimal_in (suc k) n = cond (ltb n 10) ((48 + n) ∷ []) (decimal_in k (n / 10) ++ ((48 + n % 10) ∷ []))

-- no number of 64 bits has more than twenty
unfoldable pub decimal : ℕ → List ℕ
decimal n = decimal_in 20 n

-- with a byte behind it
abbrev pub ended : ℕ → ℕ → List ℕ
ended n end = decimal n ++ (end ∷ [])
