-- What every writer of bytes does: so many bytes, laid at the front of the lent list, the rest as it was; where the list is too short for all of them,
-- nothing at all, and the count is zero.
use Rattle.std.specs.Prelude.{ℕ, ◌≡◌, cond, List, length, leb}
use Rattle.promise.specs.Answers.{Written, kept}
use Rattle.promise.specs.Laid.{lay}

unfoldable pub put : List ℕ → List ℕ → Written ℕ (List ℕ)
put bytes out = cond (leb (length bytes) (length out)) (record { answer = length bytes; memory = lay 0 bytes out }) (kept 0 out)

-- the same where all of them fit: the count, and the list after it
pub record Puts (bytes out : List ℕ) (count : ℕ) (l : List ℕ) : Type 0 where
  pub count_is : count ≡ length bytes
  pub list_is : l ≡ lay 0 bytes out
