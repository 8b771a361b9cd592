-- Records of kept cases: each begins with how many numbers follow in it.
use Rattle.std.specs.Prelude.{ℕ, ◌+◌, ◌-◌, ◌<◌, ◌≤◌, ◌≡◌, cond, List, leb, ltb, length, get_or, take, drop}

-- the place after the record that begins at `at`; the end where it is cut, or where there is none
unfoldable pub past_of : List ℕ → ℕ → ℕ
past_of cases at = cond (ltb at (length cases)) (cond (leb (get_or cases at 0) (length cases - (at + 1))) (at + 1 + get_or cases at 0) (length cases)) (length cases)

-- going from record to record comes to the end
pub record Past (cases : List ℕ) (at r : ℕ) : Type 0 where
  pub is : r ≡ past_of cases at
  pub on : at < length cases → at < r
  pub inside : r ≤ length cases

-- the numbers of that record behind the first
unfoldable pub body_of : List ℕ → ℕ → List ℕ
body_of cases at = take (past_of cases at - (at + 1)) (drop (at + 1) cases)
