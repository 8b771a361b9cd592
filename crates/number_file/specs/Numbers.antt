-- Document 01, "Job file": "All numbers are 32-bit little-endian, box edges signed"; "The program takes at most 65,536 bytes".
use Rattle.std.specs.Prelude.{ℕ, ◌+◌, ◌*◌, ◌/◌, ◌%◌, cond, List, [], ◌∷◌, leb, eqb, length, get_or}
use Rattle.promise.specs.Answers.{Written, kept}
use Rattle.promise.specs.Laid.{lay}
use Rattle.refusal.specs.declared.Refusal.TheVariants.{Job, Room}
use Rattle.refusal.specs.Said.{Said, accepted, refused}
use Rattle.std.specs.Prelude.{Result, Ok, Err}
use Rattle.refusal.specs.declared.Refusal.{Refusal}

abbrev pub max_bytes : ℕ
max_bytes = 65536

-- four bytes, the least significant first
abbrev pub number : ℕ → ℕ → ℕ → ℕ → ℕ
number a b c d = a + 256 * b + 65536 * c + 16777216 * d

-- a file's numbers, of which each takes four bytes
abbrev pub numbers_of : List ℕ → List ℕ
numbers_of (a ∷ b ∷ c ∷ d ∷ rest) = number a b c d ∷ numbers_of rest
numbers_of (a ∷ b ∷ c ∷ []) = []
numbers_of (a ∷ b ∷ []) = []
numbers_of (a ∷ []) = []
numbers_of [] = []

-- the number that starts at a byte
abbrev pub number_at : List ℕ → ℕ → ℕ
number_at bytes at = number (get_or bytes at 0) (get_or bytes (at + 1) 0) (get_or bytes (at + 2) 0) (get_or bytes (at + 3) 0)

-- JOB for a file that is too long or cut inside a number, ROOM for a list that is too short
unfoldable pub reading : List ℕ → List ℕ → Written (Said ℕ) (List ℕ)
reading bytes out =
    cond (leb (length bytes) max_bytes) (
    cond (eqb (length bytes % 4) 0) (
    cond (leb (length bytes / 4) (length out))
    (record { answer = accepted (length bytes / 4); memory = lay 0 (numbers_of bytes) out })
    (kept (refused Room 0) out))
    (kept (refused Job 0) out))
    (kept (refused Job 0) out)

abbrev pub said_numbers : Result ℕ Refusal → Said ℕ
said_numbers (Ok n) = accepted n
said_numbers (Err r) = refused r 0
