-- What the private steps of a field ask for and answer. No promise of a public function rests on this.
use Rattle.std.specs.Prelude.{ℕ, ◌≡◌, Option, Some, None}
use Rattle.messages.specs.declared.key.Follows.{Follows}
use Rattle.messages.specs.declared.key.Follows.TheVariants.{Wrong as wrong, AVarint as aVarint, Bytes as bytes, ABody as aBody}
use Rattle.messages.specs.Fields.{VarintAt}

-- PB's two fixed widths
pub data FourOrEight (n : ℕ) : Type 0 where
  four : n ≡ 4 → FourOrEight n
  eight : n ≡ 8 → FourOrEight n

-- what follows a key has one of them, where it is so many bytes
abbrev pub Short : Follows → Type 0
Short wrong = Unit {0}
Short aVarint = Unit {0}
Short (bytes n) = FourOrEight n
Short (aBody body) = Unit {0}

-- where the next byte stands
abbrev pub next_of : VarintAt → Option ℕ
next_of (Some (n, next)) = Some next
next_of None = None
