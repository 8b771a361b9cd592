-- What is not finite stays so on its way to the grid: a NaN or an infinity among a, b, c, x and y leaves a coordinate without a number, so it is COORD.
--     add_lost_left … mul_lost_right    an operation on it, on either side
--     never_on_grid                     the whole way
use Rattle.std.proofs.Common.{◌≡◌, Bool, true, false, cond, not, T, eqb, refl}
use mathlib.Core.Bool.{beq}
use lib.Ieee.{Float, nan, inf, fin, binary64, add, mul, unlike}
use lib.Ieee.Scale.{finite}
use Rattle.affine.specs.Grid.{beyond, whole_of, grid_of}
use Rattle.affine.specs.Mapping.{along}

abbrev Lost : Float → Type 0
Lost x = T (not (finite x))

either_lost : (b : Bool) (x y : Float) → Lost x → Lost y → Lost (cond b x y)
either_lost true x y h k = h
either_lost false x y h k = k

add_lost_left : (x y : Float) → Lost x → Lost (add binary64 x y)
unfolding add
add_lost_left nan y h = tt
add_lost_left (inf s) nan h = tt
add_lost_left (inf s) (inf t) h = either_lost (beq s t) (inf s) nan tt tt
add_lost_left (inf s) (fin t n d) h = tt
add_lost_left (fin s m e) y h = absurd h

add_lost_right : (x y : Float) → Lost y → Lost (add binary64 x y)
unfolding add
add_lost_right nan y h = tt
add_lost_right (inf s) nan h = tt
add_lost_right (inf s) (inf t) h = either_lost (beq s t) (inf s) nan tt tt
add_lost_right (inf s) (fin t n d) h = tt
add_lost_right (fin s m e) nan h = tt
add_lost_right (fin s m e) (inf t) h = tt
add_lost_right (fin s m e) (fin t n d) h = absurd h

mul_lost_left : (x y : Float) → Lost x → Lost (mul binary64 x y)
unfolding mul
mul_lost_left nan y h = tt
mul_lost_left (inf s) nan h = tt
mul_lost_left (inf s) (inf t) h = tt
mul_lost_left (inf s) (fin t n d) h = either_lost (eqb n 0) nan (inf (unlike s t)) tt tt
mul_lost_left (fin s m e) y h = absurd h

mul_lost_right : (x y : Float) → Lost y → Lost (mul binary64 x y)
unfolding mul
mul_lost_right nan y h = tt
mul_lost_right (inf s) nan h = tt
mul_lost_right (inf s) (inf t) h = tt
mul_lost_right (inf s) (fin t n d) h = either_lost (eqb n 0) nan (inf (unlike s t)) tt tt
mul_lost_right (fin s m e) nan h = tt
mul_lost_right (fin s m e) (inf t) h = either_lost (eqb m 0) nan (inf (unlike s t)) tt tt
mul_lost_right (fin s m e) (fin t n d) h = absurd h

lost_beyond : (x : Float) → Lost x → grid_of x ≡ beyond
unfolding grid_of whole_of
lost_beyond nan h = refl
lost_beyond (inf s) h = refl
lost_beyond (fin s m e) h = absurd h

-- one of the five is not finite
pub data AnyLost (a b c x y : Float) : Type 0 where
  first : Lost a → AnyLost a b c x y
  second : Lost b → AnyLost a b c x y
  third : Lost c → AnyLost a b c x y
  across : Lost x → AnyLost a b c x y
  upward : Lost y → AnyLost a b c x y

pub never_on_grid : (a b c x y : Float) → AnyLost a b c x y → grid_of (along a b c x y) ≡ beyond
never_on_grid a b c x y (first h) = lost_beyond (along a b c x y) (add_lost_left _ c (add_lost_left (mul binary64 a x) (mul binary64 b y) (mul_lost_left a x h)))
never_on_grid a b c x y (second h) = lost_beyond (along a b c x y) (add_lost_left _ c (add_lost_right (mul binary64 a x) (mul binary64 b y) (mul_lost_left b y h)))
never_on_grid a b c x y (third h) = lost_beyond (along a b c x y) (add_lost_right (add binary64 (mul binary64 a x) (mul binary64 b y)) c h)
never_on_grid a b c x y (across h) = lost_beyond (along a b c x y) (add_lost_left _ c (add_lost_left (mul binary64 a x) (mul binary64 b y) (mul_lost_right a x h)))
never_on_grid a b c x y (upward h) = lost_beyond (along a b c x y) (add_lost_left _ c (add_lost_right (mul binary64 a x) (mul binary64 b y) (mul_lost_right b y h)))
