-- The definition of the nearest whole number meets its description, and is the only number that does; and a sign is all that the opposite changes.
use Rattle.std.proofs.Common.{◌≡◌, ℕ, zero, suc, ◌+◌, ◌*◌, ◌/◌, ◌<◌, Bool, true, false, ℤ, pos, neg_ℤ, nat_abs, sym, refl, ap, ◌∙◌, subst, le_trans, le_of_eq, le_refl, lt_of_lt_of_le, le_of_suc-le-suc, suc-mul, div-lt_iff_lt-mul, le_antisymm, le-div_iff_mul-le, mul_left_comm, arith}
use lib.Ieee.{fin, up, down, neg}
use lib.Ieee.Fits.{down_pos}
use Rattle.affine.specs.Grid.{nearest, signed, whole_of}
use Rattle.affine.specs.Laws.{IsNearest}
use Rattle.affine.proofs.Limits.{twice_pos}

-- a quotient by 2 * d, in multiples of d
times : (n d : ℕ) → n * (2 * d) ≡ 2 * (n * d)
times n d = mul_left_comm n 2 d

next : (n d : ℕ) → suc n * (2 * d) ≡ 2 * (n * d) + 2 * d
next n d = suc-mul n (2 * d) ∙ ap (λ (z : ℕ). z + 2 * d) (times n d)

pub nearest_is : (m : ℕ) (e : ℤ) → IsNearest m e (nearest m e)
nearest_is m e =
    let a : ℕ = m * up e in
    let d : ℕ = down e in
    let D = twice_pos d (down_pos e) in
    let n : ℕ = (2 * a + d) / (2 * d) in
    record {
      above = le_trans (le_of_eq (sym (times n d))) ((le-div_iff_mul-le D).0 (le_refl n));
      below = less a d (n * d) (lt_of_lt_of_le ((div-lt_iff_lt-mul {y = suc n} D).0 (le_refl (suc n))) (le_of_eq (next n d)));
    }
  where
    less : (a d q : ℕ) → 2 * a + d < 2 * q + 2 * d → 2 * a < 2 * q + d
    less a d q h = omega arith

pub nearest_only : (m : ℕ) (e : ℤ) (n : ℕ) → IsNearest m e n → n ≡ nearest m e
nearest_only m e n h =
    let a : ℕ = m * up e in
    let d : ℕ = down e in
    let D = twice_pos d (down_pos e) in
    le_antisymm
    ((le-div_iff_mul-le D).1 (le_trans (le_of_eq (times n d)) h.above))
    (le_of_suc-le-suc ((div-lt_iff_lt-mul {y = suc n} D).1 (lt_of_lt_of_le (more a d (n * d) h.below) (le_of_eq (sym (next n d))))))
  where
    more : (a d q : ℕ) → 2 * a < 2 * q + d → 2 * a + d < 2 * q + 2 * d
    more a d q h = omega arith

neg_neg : (n : ℕ) → pos n ≡ neg_ℤ (neg_ℤ (pos n))
neg_neg zero = refl
neg_neg (suc n) = refl

-- the opposite of a finite double goes to the opposite number
pub grid_turned : (s : Bool) (m : ℕ) (e : ℤ) → whole_of (neg (fin s m e)) ≡ neg_ℤ (whole_of (fin s m e))
unfolding whole_of neg
grid_turned true m e = neg_neg (nearest m e)
grid_turned false m e = refl

-- and the size of a finite double's number is the nearest to its magnitude
size_signed : (s : Bool) (n : ℕ) → nat_abs (signed s n) ≡ n
size_signed true zero = refl
size_signed true (suc n) = refl
size_signed false n = refl

pub grid_nearest : (s : Bool) (m : ℕ) (e : ℤ) → IsNearest m e (nat_abs (whole_of (fin s m e)))
unfolding whole_of
grid_nearest s m e = subst (λ (n : ℕ). IsNearest m e n) (sym (size_signed s (nearest m e))) (nearest_is m e)
