-- Document 02, request (x): "The result goes to the nearest whole number, halves away from zero, stated over the double's exact value as a whole number
-- times a power of two."
-- A finite double is `fin s m e`: the whole number m times 2 ^ e, negative where s is true; 2 ^ e is the fraction up e / down e.
use Rattle.std.specs.Prelude.{ℕ, ◌+◌, ◌*◌, ◌/◌, Bool, true, false, cond, ℤ, pos, ◌+ℤ◌, neg_ℤ, Float}
use Rattle.std.specs.Float.{nan, inf, fin}
use Rattle.std.specs.Float.Ieee.{up, down}
use Rattle.clip.specs.Domain.{limit, within}

-- m * 2 ^ e + 1/2, rounded down: of a magnitude the nearest whole number, and of two that are as near the larger, which lies away from zero
abbrev pub nearest : ℕ → ℤ → ℕ
nearest m e = (2 * (m * up e) + down e) / (2 * down e)

-- a magnitude with its sign; zero has none
abbrev pub signed : Bool → ℕ → ℤ
signed true n = neg_ℤ (pos n)
signed false n = pos n

-- "5 COORD also for a result that is not finite or whose whole number lies beyond the limit, in its old place": what has no number within the limit has
-- this one, which every call refuses as COORD
abbrev pub beyond : ℤ
beyond = limit +ℤ pos 1

unfoldable pub whole_of : Float → ℤ
whole_of nan = beyond
whole_of (inf s) = beyond
whole_of (fin s m e) = signed s (nearest m e)

unfoldable pub grid_of : Float → ℤ
grid_of x = cond (within (whole_of x)) (whole_of x) beyond
