-- Signed numbers in words: two's complement at any width, and 64 bits of their two halves.
use Rattle.std.specs.Prelude.{ℕ, ◌+◌, ◌*◌, ◌-◌, cond, ltb, ℤ, pos, negsuc, ◌-ℤ◌}

-- the number whose two's complement n is: of the numbers below twice half, those from half on are that much less
abbrev pub twos : ℕ → ℕ → ℤ
twos half n = cond (ltb n half) (pos n) (pos n -ℤ pos (2 * half))

-- at 32 and at 64 bits
abbrev pub signed32 : ℕ → ℤ
signed32 n = twos 2147483648 n

abbrev pub signed64 : ℕ → ℤ
signed64 n = twos 9223372036854775808 n

-- and back at 64 bits: the word whose two's complement is z
abbrev pub bits_of : ℤ → ℕ
bits_of (pos n) = n
bits_of (negsuc n) = 18446744073709551615 - n

-- 64 bits of their halves
abbrev pub wide : ℕ → ℕ → ℕ
wide low high = low + 4294967296 * high
