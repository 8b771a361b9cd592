-- Twice a double, without its fraction, then one more and halved, is the nearest whole number, halves away from zero.
use Rattle.std.proofs.Common.{◌≡◌, ℕ, zero, suc, ◌+◌, ◌-◌, ◌*◌, ◌/◌, ◌^◌, ◌<◌, min, true, false, T, ℤ, pos, sym, refl, ap, ◌∙◌, subst, mul_assoc, mul_comm, div-lt_iff_lt-mul, add-mul, zero-mul, mul_right_comm, arith, lt→ltb}
use native.Mathlib.Nat.{add-div_right, div-div-eq-div-mul, eq_of_mul-eq-mul_right}
use lib.Ieee.{Float, nan, inf, fin, binary64, up, down, add, lt, fits, to_unsigned}
use lib.Ieee.Exact.{HasValue}
use lib.Ieee.Fits.{down_pos}
use lib.Ieee.Nearest.{div_same}
use Rattle.affine.specs.Facts.{magnitude, Small}
use Rattle.affine.proofs.Doubling.{twice}
use Rattle.affine.proofs.Limits.{within_then, nearest_zero}

-- y, which is twice a double, may be cut to a u64, and what that gives is halved to z
pub record Doubled (y : Float) (z : ℤ) : Type 0 where
  pub above : T (lt (fin true 1 (pos 0)) y)
  pub below : T (lt y (fin false 1 (pos 64)))
  pub small : to_unsigned 64 y < 2147483647
  pub whole : pos ((to_unsigned 64 y + 1) / 2) ≡ z

-- ---- fractions
halved : (a d : ℕ) → 0 < d → (2 * a / d + 1) / 2 ≡ (2 * a + d) / (2 * d)
halved a d D = ap (λ (z : ℕ). z / 2) (sym (add-div_right (2 * a) D)) ∙ div-div-eq-div-mul (2 * a + d) d 2 ∙ ap (λ (z : ℕ). (2 * a + d) / z) (mul_comm d 2)

two_of : (a d w : ℕ) → (a * d + a * d) * w ≡ 2 * a * w * d
two_of a d w = ap (λ (z : ℕ). z * w) (sym (add-mul a a d) ∙ ap (λ (z : ℕ). z * d) (twofold a)) ∙ mul_right_comm (2 * a) d w
  where
    twofold : (a : ℕ) → a + a ≡ 2 * a
    twofold a = omega arith

-- u / w is 2 * a / d
reduced : (u w a d : ℕ) → 0 < d → u * (d * d) ≡ (a * d + a * d) * w → u * d ≡ 2 * a * w
reduced u w a d D h = eq_of_mul-eq-mul_right d D (u * d) (2 * a * w) (mul_assoc u d d ∙ h ∙ two_of a d w)

-- ---- what the cut of it is, for a double not below zero, and for -0
plain : (y : Float) (a d : ℕ) → 0 < d → a * 2 < 2147483647 * d → HasValue y false (a * d + a * d) (d * d) → Doubled y (pos ((2 * a + d) / (2 * d)))
unfolding lt to_unsigned
plain nan a d D b v = absurd v
plain (inf s) a d D b v = absurd v
plain (fin true m e) a d D b v = absurd (subst T v.0 tt)
plain (fin false m e) a d D b v =
    let u : ℕ = m * up e in
    let w : ℕ = down e in
    let W : 0 < w = down_pos e in
    let q : u / w ≡ 2 * a / d = div_same u w (2 * a) d W D (reduced u w a d D v.1) in
    let l : u / w < 2147483647 = subst (λ (z : ℕ). z < 2147483647) (sym q) ((div-lt_iff_lt-mul D).1 (turned a d b)) in
    let c : min (u / w) (2 ^ 64 - 1) ≡ u / w = uncut (u / w) l in
    record {
      above = lt→ltb 0 (1 * 1 * w + u * 1) (some u w W);
      below = lt→ltb (u * 1) (1 * 2 ^ 64 * w) (far u w ((div-lt_iff_lt-mul W).0 l));
      small = subst (λ (z : ℕ). z < 2147483647) (sym c) l;
      whole = ap (λ (z : ℕ). pos ((z + 1) / 2)) (c ∙ q) ∙ ap pos (halved a d D);
    }
  where
    turned : (a d : ℕ) → a * 2 < 2147483647 * d → 2 * a < 2147483647 * d
    turned a d h = omega arith

    uncut : (n : ℕ) → n < 2147483647 → min n (2 ^ 64 - 1) ≡ n
    uncut n h = omega arith

    some : (u w : ℕ) → 0 < w → 0 < 1 * 1 * w + u * 1
    some u w h = omega arith

    far : (u w : ℕ) → u < 2147483647 * w → u * 1 < 1 * 2 ^ 64 * w
    far u w h = omega arith

naught : (y : Float) (a d : ℕ) → 0 < d → a ≡ 0 → HasValue y true (a * d + a * d) (d * d) → Doubled y (pos 0)
unfolding lt to_unsigned
naught nan a d D z v = absurd v
naught (inf s) a d D z v = absurd v
naught (fin false m e) a d D z v = absurd (subst T (sym v.0) tt)
naught (fin true m e) a d D z v =
    let u : ℕ = m * up e in
    let w : ℕ = down e in
    let W : 0 < w = down_pos e in
    let o : u ≡ 0 = eq_of_mul-eq-mul_right d D u 0 (reduced u w a d D v.1 ∙ ap (λ (n : ℕ). 2 * n * w) z ∙ zero-mul w ∙ sym (zero-mul d)) in
    record {
      above = lt→ltb (u * 1) (1 * 1 * w) (none u w W o);
      below = lt→ltb 0 (u * 1 + 1 * 2 ^ 64 * w) (some u w W);
      small = omega arith;
      whole = refl;
    }
  where
    none : (u w : ℕ) → 0 < w → u ≡ 0 → u * 1 < 1 * 1 * w
    none u w h e = omega arith

    some : (u w : ℕ) → 0 < w → 0 < u * 1 + 1 * 2 ^ 64 * w
    some u w h = omega arith

pub doubled : (x : Float) → T (fits binary64 x) → Small x → Doubled (add binary64 x x) (magnitude x)
unfolding Small magnitude
doubled nan f h = absurd h
doubled (inf s) f h = absurd h
doubled (fin false m e) f h =
    let b = within_then (m * up e) (down e) (down_pos e) h in
    plain (add binary64 (fin false m e) (fin false m e)) (m * up e) (down e) (down_pos e) b (twice false m e f (room (m * up e) (down e) b))
  where
    room : (a d : ℕ) → a * 2 < 2147483647 * d → a < 2 ^ 31 * d
    room a d h = omega arith
doubled (fin true zero e) f h =
    subst (λ (n : ℕ). Doubled (add binary64 (fin true 0 e) (fin true 0 e)) (pos n)) (sym (nearest_zero e))
    (naught (add binary64 (fin true 0 e) (fin true 0 e)) (0 * up e) (down e) (down_pos e) (zero-mul (up e)) (twice true 0 e f (room (0 * up e) (down e) (down_pos e) (zero-mul (up e)))))
  where
    room : (a d : ℕ) → 0 < d → a ≡ 0 → a < 2 ^ 31 * d
    room a d h z = omega arith
doubled (fin true (suc m) e) f h = absurd h
