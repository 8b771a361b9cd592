-- Twice a double is exact where it is far from the largest: the sum of a double with itself loses nothing in rounding, subnormals counted.
use Rattle.std.proofs.Common.{◌≡◌, ℕ, zero, suc, ◌+◌, ◌-◌, ◌*◌, ◌%◌, ◌^◌, ◌<◌, ◌≤◌, Bool, ◌&&◌, T, eqb, ltb, leb, ℤ, pos, negsuc, sym, ap, ◌∙◌, subst, le_trans, le_of_eq, lt_of_lt_of_le, le_of_suc-le-suc, lt_irrefl, mul_assoc, mul_comm, add-mul, mul-pos, one-mul, lt_of_not-le, mul-one, mul_left_comm, arith, eqb→eq, ltb→lt, leb→le, pow_pos, pow_mono, pow-add, shl_lt}
use lib.Ieee.Fits.{and_l, and_r}
use lib.Pow.{pow-lt}
use lib.Ieee.{Float, fin, binary64, up, down, round, add, fits}
use lib.Ieee.Exact.{HasValue, round_exact}
use Rattle.affine.proofs.Sums.{sum_like}

doubled : (n : ℕ) → n + n ≡ n * 2
doubled n = omega arith

-- a + a times 2 ^ l, for a = m * 2 ^ k and for a = m / 2 ^ k
whole_part : (m k l : ℕ) → (m * 2 ^ k * 1 + m * 2 ^ k * 1) * 2 ^ l ≡ m * 2 ^ (k + (1 + l)) * (1 * 1)
whole_part m k l =
    let P : ℕ = m * 2 ^ k in
    let L : ℕ = 2 ^ l in
    ap (λ (x : ℕ). (x + x) * L) (mul-one P) ∙ add-mul P P L ∙ doubled (P * L) ∙ sym (mul-one (P * L * 2)) ∙ ap (λ (x : ℕ). x * 1) (right m k l)
  where
    right : (m k l : ℕ) → m * 2 ^ k * 2 ^ l * 2 ≡ m * 2 ^ (k + (1 + l))
    right m k l =
        mul_assoc (m * 2 ^ k) (2 ^ l) 2 ∙ mul_assoc m (2 ^ k) (2 ^ l * 2)
        ∙ ap (λ (x : ℕ). m * (2 ^ k * x)) (mul_comm (2 ^ l) 2 ∙ sym (pow-add 2 1 l)) ∙ ap (λ (x : ℕ). m * x) (sym (pow-add 2 k (1 + l)))

fraction_part : (m k j l : ℕ) → j + k ≡ 1 + l → (m * 1 * 2 ^ k + m * 1 * 2 ^ k) * 2 ^ l ≡ m * 2 ^ j * (2 ^ k * 2 ^ k)
fraction_part m k j l e =
    let D : ℕ = 2 ^ k in
    ap (λ (x : ℕ). (x * D + x * D) * 2 ^ l) (mul-one m) ∙ add-mul (m * D) (m * D) (2 ^ l) ∙ doubled (m * D * 2 ^ l)
    ∙ mul_assoc (m * D) (2 ^ l) 2 ∙ ap (λ (x : ℕ). m * D * x) (mul_comm (2 ^ l) 2 ∙ sym (pow-add 2 1 l) ∙ ap (λ (x : ℕ). 2 ^ x) (sym e) ∙ pow-add 2 j k)
    ∙ mul_assoc m D (2 ^ j * D) ∙ ap (λ (x : ℕ). m * x) (mul_left_comm D (2 ^ j) D) ∙ sym (mul_assoc m (2 ^ j) (D * D))

add_is : (s : Bool) (m : ℕ) (e : ℤ) → add binary64 (fin s m e) (fin s m e) ≡ round binary64 s (m * up e * down e + m * up e * down e) (down e * down e)
unfolding add
add_is s m e = sum_like binary64 s (m * up e * down e) (m * up e * down e) (down e * down e)

-- the exponent of a power of two that another one reaches
exponent_le : (a l : ℕ) → 2 ^ a ≤ 2 ^ l → a ≤ l
exponent_le a l h = le_of_suc-le-suc (lt_of_not-le (λ (g : suc l ≤ a). lt_irrefl (2 ^ l) (lt_of_lt_of_le (pow-lt g) h)))

-- ---- what the format holds
digits : (s : Bool) (m : ℕ) (e : ℤ) → T (fits binary64 (fin s m e)) → m < 2 ^ 53
unfolding fits
digits s zero e h = pow_pos 53
digits s (suc m) e h =
    let a = and_l (eqb (suc m % 2) 1 && ltb (suc m) (2 ^ 53) && leb (down e) (2 ^ 1074)) _ h in
    let b = and_l (eqb (suc m % 2) 1 && ltb (suc m) (2 ^ 53)) _ a in
    ltb→lt _ _ (and_r (eqb (suc m % 2) 1) _ b)

places : (s : Bool) (m k : ℕ) → T (fits binary64 (fin s m (negsuc k))) → suc k ≤ 1074
unfolding fits
places s zero k h = le_trans (exponent_le (suc k) 0 (le_of_eq (sym (one-mul (2 ^ suc k)) ∙ eqb→eq (1 * 2 ^ suc k) 1 h))) (omega arith)
places s (suc m) k h =
    let a = and_l (eqb (suc m % 2) 1 && ltb (suc m) (2 ^ 53) && leb (2 ^ suc k) (2 ^ 1074)) _ h in
    exponent_le (suc k) 1074 (leb→le _ _ (and_r (eqb (suc m % 2) 1 && ltb (suc m) (2 ^ 53)) _ a))

-- ---- exactly twice
pub twice : (s : Bool) (m : ℕ) (e : ℤ) → T (fits binary64 (fin s m e)) → m * up e < 2 ^ 31 * down e
    → HasValue (add binary64 (fin s m e) (fin s m e)) s (m * up e * down e + m * up e * down e) (down e * down e)
twice s m (pos k) f b =
    subst (λ (x : Float). HasValue x s (m * 2 ^ k * 1 + m * 2 ^ k * 1) (1 * 1)) (sym (add_is s m (pos k)))
    (round_exact binary64 s _ _ m (k + (1 + 1074)) (omega arith) (digits s m (pos k) f)
    (subst (λ (x : ℕ). x < 2 ^ 2098) (mul_assoc m (2 ^ k) (2 ^ 1075) ∙ ap (λ (x : ℕ). m * x) (sym (pow-add 2 k 1075)))
    (lt_of_lt_of_le (shl_lt 31 1075 (lt_of_lt_of_le b (le_of_eq (mul-one (2 ^ 31))))) (pow_mono {i = 31 + 1075} {j = 2098} (omega arith))))
    (whole_part m k 1074))
twice s m (negsuc k) f b =
    subst (λ (x : Float). HasValue x s (m * 1 * 2 ^ suc k + m * 1 * 2 ^ suc k) (2 ^ suc k * 2 ^ suc k)) (sym (add_is s m (negsuc k)))
    (round_exact binary64 s _ _ m (1075 - suc k) (mul-pos (pow_pos (suc k)) (pow_pos (suc k))) (digits s m (negsuc k) f)
    (lt_of_lt_of_le (shl_lt 53 (1075 - suc k) (digits s m (negsuc k) f)) (pow_mono {i = 53 + (1075 - suc k)} {j = 2098} (omega arith)))
    (fraction_part m (suc k) (1075 - suc k) 1074 (back k (places s m k f))))
  where
    back : (k : ℕ) → suc k ≤ 1074 → 1075 - suc k + suc k ≡ 1 + 1074
    back k h = omega arith
