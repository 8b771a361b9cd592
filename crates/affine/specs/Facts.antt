-- What the functions of this crate ask of each other.
use Rattle.std.specs.Prelude.{◌≡◌, ℕ, zero, suc, ◌-◌, ◌%◌, ◌≤◌, Bool, true, false, ◌&&◌, List, take, drop, ℤ, pos, from_bits, unsigned_abs, Float}
use Rattle.std.specs.Float.{nan, inf, fin, binary64}
use Rattle.std.specs.Float.Ieee.{add, sub, neg, lt}
use Rattle.promise.specs.Laid.{lay}
use Rattle.clip.specs.Domain.{limit}
use Rattle.affine.specs.declared.Affine.{Affine}
use Rattle.affine.specs.Grid.{nearest}
use Rattle.affine.specs.Mapping.{grids_of}

-- the nearest whole number without its sign
unfoldable pub magnitude : Float → ℤ
magnitude nan = pos 0
magnitude (inf s) = pos 0
magnitude (fin s m e) = pos (nearest m e)

-- finite and not below zero (so -0 is), its nearest whole number within the limit
unfoldable pub Small : Float → Type 0
Small nan = ⊥
Small (inf s) = ⊥
Small (fin false m e) = nearest m e ≤ unsigned_abs limit
Small (fin true zero e) = Unit {0}
Small (fin true (suc m) e) = ⊥

-- ---- a whole number next to a double: 3 * 2 ^ 51 added and taken off again, each rounded; next to 2 ^ 52 a double has no digits behind the point
abbrev pub middle : Float
middle = from_bits binary64 0x4338_0000_0000_0000

unfoldable pub stepped : Float → Float
stepped x = sub binary64 (add binary64 x middle) middle

abbrev pub half : Float
half = from_bits binary64 0x3fe0_0000_0000_0000

-- nearer than a half, as the machine subtracts
unfoldable pub is_near : Float → Float → Bool
is_near x t = lt (sub binary64 x t) half && lt (neg half) (sub binary64 x t)

-- ---- the numbers from `from` up to r are those of whole points, mapped, and laid where they belong
pub record MapsPlain (t : Affine) (points : List Float) (from to : ℕ) (out : List ℤ) (r : ℕ) (l : List ℤ) : Type 0 where
  pub ahead : from ≤ r
  pub upto : r ≤ to
  pub whole : (r - from) % 2 ≡ 0
  pub list : l ≡ lay from (grids_of t (take (r - from) (drop from points))) out
