-- The limit: which doubles have their nearest whole number within it, and what the sign of one says.
use Rattle.std.proofs.Common.{◌≡◌, ℕ, zero, suc, ◌+◌, ◌*◌, ◌/◌, ◌^◌, ◌<◌, ◌≤◌, Bool, true, false, not, ◌&&◌, T, ltb, leb, ℤ, pos, negsuc, ◌-ℤ◌, neg_ℤ, sym, refl, ap, ◌∙◌, div-lt_iff_lt-mul, mul-pos, zero-mul, arith, le→leb, ltb→lt, lt→ltb, leb→le, nltb→le, w32, SFits}
use native.Mathlib.Nat.{div-eq_of_lt}
use lib.IntN.{+ℤ_idl}
use lib.Ieee.{Float, nan, inf, fin, up, down, lt, neg}
use lib.Ieee.Fits.{and_l, and_r, and_i, up_pos, down_pos}
use Rattle.clip.specs.Domain.{within}
use Rattle.affine.specs.Grid.{nearest, whole_of}
use Rattle.affine.specs.Facts.{magnitude, Small}

same_test : (a b : Bool) → (T a → T b) → (T b → T a) → a ≡ b
same_test true true p q = refl
same_test true false p q = absurd (p tt)
same_test false true p q = absurd (q tt)
same_test false false p q = refl

-- ---- (2 * a + d) / (2 * d) is at most the limit exactly where a / d is below the limit and a half
pub twice_pos : (d : ℕ) → 0 < d → 0 < 2 * d
twice_pos d h = omega arith

pub within_then : (a d : ℕ) → 0 < d → (2 * a + d) / (2 * d) ≤ 1073741823 → a * 2 < 2147483647 * d
within_then a d D h = ends a d ((div-lt_iff_lt-mul (twice_pos d D)).0 (next ((2 * a + d) / (2 * d)) h))
  where
    next : (n : ℕ) → n ≤ 1073741823 → n < 1073741824
    next n h = omega arith

    ends : (a d : ℕ) → 2 * a + d < 1073741824 * (2 * d) → a * 2 < 2147483647 * d
    ends a d h = omega arith

then_within : (a d : ℕ) → 0 < d → a * 2 < 2147483647 * d → (2 * a + d) / (2 * d) ≤ 1073741823
then_within a d D h = last ((2 * a + d) / (2 * d)) ((div-lt_iff_lt-mul (twice_pos d D)).1 (starts a d h))
  where
    last : (n : ℕ) → n < 1073741824 → n ≤ 1073741823
    last n h = omega arith

    starts : (a d : ℕ) → a * 2 < 2147483647 * d → 2 * a + d < 1073741824 * (2 * d)
    starts a d h = omega arith

-- the comparison with 1073741823.5, which is 2147483647 halves, as `lt` has it
abbrev is_below : ℕ → ℕ → Bool
is_below a d = ltb (a * 2 ^ 1) (2147483647 * 1 * d)

below_then : (a d : ℕ) → 0 < d → T (is_below a d) → (2 * a + d) / (2 * d) ≤ 1073741823
below_then a d D t = then_within a d D (plain a d (ltb→lt (a * 2 ^ 1) (2147483647 * 1 * d) t))
  where
    plain : (a d : ℕ) → a * 2 ^ 1 < 2147483647 * 1 * d → a * 2 < 2147483647 * d
    plain a d h = omega arith

then_below : (a d : ℕ) → 0 < d → (2 * a + d) / (2 * d) ≤ 1073741823 → T (is_below a d)
then_below a d D h = lt→ltb (a * 2 ^ 1) (2147483647 * 1 * d) (spelt a d (within_then a d D h))
  where
    spelt : (a d : ℕ) → a * 2 < 2147483647 * d → a * 2 ^ 1 < 2147483647 * 1 * d
    spelt a d h = omega arith

-- ---- a magnitude with its sign lies within the limit where the magnitude does
within_pos : (n : ℕ) → T (within (pos n)) → n ≤ 1073741823
within_pos n t = leb→le n 1073741823 t

pos_within : (n : ℕ) → n ≤ 1073741823 → T (within (pos n))
pos_within n h = le→leb n 1073741823 h

within_neg : (n : ℕ) → T (within (neg_ℤ (pos n))) → n ≤ 1073741823
within_neg zero t = omega arith
within_neg (suc k) t = up_one k (leb→le k 1073741822 (and_l (leb k 1073741822) true t))
  where
    up_one : (k : ℕ) → k ≤ 1073741822 → suc k ≤ 1073741823
    up_one k h = omega arith

neg_within : (n : ℕ) → n ≤ 1073741823 → T (within (neg_ℤ (pos n)))
neg_within zero h = tt
neg_within (suc k) h = and_i (leb k 1073741822) true (le→leb k 1073741822 (down_one k h)) tt
  where
    down_one : (k : ℕ) → suc k ≤ 1073741823 → k ≤ 1073741822
    down_one k h = omega arith

-- so a double with its number within the limit is below 1073741823.5 in size
pub within_size : (s : Bool) (m : ℕ) (e : ℤ) → T (within (whole_of (fin s m e))) → m * up e * 2 < 2147483647 * down e
unfolding whole_of
within_size true m e t = within_then (m * up e) (down e) (down_pos e) (within_neg (nearest m e) t)
within_size false m e t = within_then (m * up e) (down e) (down_pos e) (within_pos (nearest m e) t)

-- ---- the two comparisons of the code, at 1073741823.5 and its opposite
abbrev above : Float
above = fin false 2147483647 (negsuc 0)

abbrev below : Float
below = fin true 2147483647 (negsuc 0)

pub small_is : (x : Float) → (lt x above && lt below x) ≡ within (whole_of x)
unfolding lt whole_of
small_is nan = refl
small_is (inf true) = refl
small_is (inf false) = refl
small_is (fin false m e) =
    let a : ℕ = m * up e in
    let d : ℕ = down e in
    same_test _ _
    (λ t. pos_within (nearest m e) (below_then a d (down_pos e) (and_l (is_below a d) _ t)))
    (λ t. and_i (is_below a d) _ (then_below a d (down_pos e) (within_pos (nearest m e) t)) (lt→ltb 0 (2147483647 * 1 * d + a * 2 ^ 1) (some a d (down_pos e))))
  where
    some : (a d : ℕ) → 0 < d → 0 < 2147483647 * 1 * d + a * 2 ^ 1
    some a d h = omega arith
small_is (fin true m e) =
    let a : ℕ = m * up e in
    let d : ℕ = down e in
    same_test _ _
    (λ t. neg_within (nearest m e) (below_then a d (down_pos e) (and_r (ltb 0 (a * 2 ^ 1 + 2147483647 * 1 * d)) _ t)))
    (λ t. and_i (ltb 0 (a * 2 ^ 1 + 2147483647 * 1 * d)) _ (lt→ltb 0 (a * 2 ^ 1 + 2147483647 * 1 * d) (some a d (down_pos e))) (then_below a d (down_pos e) (within_neg (nearest m e) t)))
  where
    some : (a d : ℕ) → 0 < d → 0 < a * 2 ^ 1 + 2147483647 * 1 * d
    some a d h = omega arith

-- ---- the sign
abbrev pub naught : Float
naught = fin false 0 (pos 0)

pub nearest_zero : (e : ℤ) → nearest 0 e ≡ 0
nearest_zero e = ap (λ (z : ℕ). (2 * z + down e) / (2 * down e)) (zero-mul (up e)) ∙ div-eq_of_lt (less (down e) (down_pos e))
  where
    less : (d : ℕ) → 0 < d → 2 * 0 + d < 2 * d
    less d h = omega arith

-- nothing positive lies below zero
not_below : (a d : ℕ) → T (ltb (a * 1) (0 * 1 * d)) → ⊥
not_below a d t = no a d (ltb→lt (a * 1) (0 * 1 * d) t)
  where
    no : (a d : ℕ) → a * 1 < 0 * 1 * d → ⊥
    no a d h = omega arith

-- and something negative does, unless it is zero
is_below_lem : (m u d : ℕ) → 0 < u → T (not (ltb 0 (suc m * u * 1 + 0 * 1 * d))) → ⊥
is_below_lem m u d U t = no (suc m * u) (0 * 1 * d) (mul-pos (first m) U) (nltb→le 0 (suc m * u * 1 + 0 * 1 * d) t)
  where
    first : (m : ℕ) → 0 < suc m
    first m = omega arith

    no : (a z : ℕ) → 0 < a → a * 1 + z ≤ 0 → ⊥
    no a z h k = omega arith

pub small_below : (x : Float) → T (within (whole_of x)) → T (lt x naught) → Small (neg x)
unfolding lt whole_of neg Small
small_below nan w t = absurd t
small_below (inf s) w t = absurd w
small_below (fin false m e) w t = absurd (not_below (m * up e) (down e) t)
small_below (fin true m e) w t = within_neg (nearest m e) w

pub small_above : (x : Float) → T (within (whole_of x)) → T (not (lt x naught)) → Small x
unfolding lt whole_of Small
small_above nan w t = absurd w
small_above (inf s) w t = absurd w
small_above (fin false m e) w t = within_pos (nearest m e) w
small_above (fin true zero e) w t = tt
small_above (fin true (suc m) e) w t = absurd (is_below_lem m (up e) (down e) (up_pos e) t)

pub grid_below : (x : Float) → T (lt x naught) → T (within (whole_of x)) → neg_ℤ (magnitude (neg x)) ≡ whole_of x
unfolding lt whole_of neg magnitude
grid_below nan t w = absurd t
grid_below (inf s) t w = absurd w
grid_below (fin false m e) t w = absurd (not_below (m * up e) (down e) t)
grid_below (fin true m e) t w = refl

pub grid_above : (x : Float) → T (not (lt x naught)) → T (within (whole_of x)) → magnitude x ≡ whole_of x
unfolding lt whole_of magnitude
grid_above nan t w = absurd w
grid_above (inf s) t w = absurd w
grid_above (fin false m e) t w = refl
grid_above (fin true zero e) t w = ap pos (nearest_zero e) ∙ ap (λ (n : ℕ). neg_ℤ (pos n)) (sym (nearest_zero e))
grid_above (fin true (suc m) e) t w = absurd (is_below_lem m (up e) (down e) (up_pos e) t)

-- ---- in 32 bits
pub within_fits : (z : ℤ) → T (within z) → SFits w32 z
within_fits (pos n) t = record { sfits = room n (within_pos n t) }
  where
    room : (n : ℕ) → n ≤ 1073741823 → n < 2147483648
    room n h = omega arith
within_fits (negsuc n) t = record { sfits = room n (within_neg (suc n) t) }
  where
    room : (n : ℕ) → suc n ≤ 1073741823 → n < 2147483648
    room n h = omega arith

pub opposite_is : (z : ℤ) → pos 0 -ℤ z ≡ neg_ℤ z
opposite_is z = +ℤ_idl (neg_ℤ z)
