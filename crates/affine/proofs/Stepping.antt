-- A double within the limit, stepped up to 3 * 2 ^ 51 and down again, is a whole number of at most 2 ^ 30.
use Rattle.std.proofs.Common.{◌≡◌, ℕ, suc, ◌+◌, ◌-◌, ◌*◌, ◌/◌, ◌%◌, ◌^◌, ◌<◌, ◌≤◌, Bool, true, false, not, T, leb, ℤ, pos, negsuc, nat_abs, sym, refl, ap, ◌∙◌, subst, true≢false, le_trans, le_of_eq, lt_of_lt_of_le, lt_of_le_of_lt, mul-le-mul_right, mul_assoc, suc-mul, div-lt_iff_lt-mul, add-mul, mul-lt-mul_of_pos_right, mul-pos, lt_of_not-le, le-div_iff_mul-le, mul-one, mul_right_comm, not-le_of_lt, arith, leb→le, pow_pos, pow_mono, pow-add}
use Prim.Native.Nat.{compare}
use native.Mathlib.Nat.{eq_of_mul-eq-mul_right}
use lib.Dec.{nleb→lt}
use lib.Pow.{pow-lt}
use lib.Ieee.{Float, nan, inf, fin, binary64, up, down, size, round, sum, add, sub, of_bits, of_int}
use lib.Ieee.Digits.{size-lt, size-le}
use lib.Ieee.Exact.{HasValue}
use lib.Ieee.Fits.{down_pos, nearest-le}
use lib.Ieee.Nearest.{closest, closest_same, nearest-ge}
use lib.Ieee.Order.{drop}
use lib.Ieee.Scale.{round_same, grid, round_val}
use Rattle.clip.specs.Domain.{within}
use Rattle.affine.specs.Grid.{whole_of}
use Rattle.affine.specs.Facts.{stepped}
use Rattle.affine.proofs.Limits.{within_size}
use Rattle.affine.proofs.Sums.{sum_like, sum_below, sum_above}

-- ---- between 2 ^ p and 2 ^ (p + 1), in units of 2 ^ -l, there are p + 1 + l digits
digits : (n c p l : ℕ) → 0 < c → 2 ^ p * c ≤ n → n < 2 ^ suc p * c → size (n * 2 ^ l / c) ≡ suc p + l
digits n c p l C h k =
    let lo : 2 ^ (p + l) * c ≤ n * 2 ^ l = le_trans (le_of_eq (ap (λ (x : ℕ). x * c) (pow-add 2 p l) ∙ mul_right_comm (2 ^ p) (2 ^ l) c)) (mul-le-mul_right (2 ^ l) h) in
    let hi : n * 2 ^ l < 2 ^ (suc p + l) * c =
    lt_of_lt_of_le (mul-lt-mul_of_pos_right k (pow_pos l)) (le_of_eq (mul_right_comm (2 ^ suc p) c (2 ^ l) ∙ ap (λ (x : ℕ). x * c) (sym (pow-add 2 (suc p) l)))) in
    let q = n * 2 ^ l / c in
    let few : size q ≤ suc p + l = size-le q (suc p + l) ((div-lt_iff_lt-mul C).1 hi) in
    let many : p + l < size q = lt_of_not-le (λ (g : size q ≤ p + l). not-le_of_lt (lt_of_lt_of_le (size-lt q) (pow_mono g)) ((le-div_iff_mul-le C).1 lo)) in
    omega arith

-- from q * l / l to q / 1
whole : (x : Float) (q l : ℕ) → 0 < l → HasValue x false (q * l) l → HasValue x false q 1
whole nan q l h v = absurd v
whole (inf s) q l h v = absurd v
whole (fin s m e) q l h v = (v.0, mul-one (m * up e) ∙ eq_of_mul-eq-mul_right l h (m * up e) (q * down e) (v.1 ∙ mul_right_comm q l (down e)))

-- next to 2 ^ 52 a double is a whole number
rounded : (n c : ℕ) → 0 < c → 2 ^ 52 * c ≤ n → n < 2 ^ 53 * c → HasValue (round binary64 false n c) false (closest n c) 1
rounded n c C h k =
    let d : drop 53 (n * 2 ^ 1074) c ≡ 1074 = ap (λ (z : ℕ). z - 53) (digits n c 52 1074 C h k) in
    let g : grid binary64 n c ≡ closest n c * 2 ^ 1074 = at n c C 1074 (drop 53 (n * 2 ^ 1074) c) d in
    let b : closest n c * 2 ^ 1074 < 2 ^ (1074 + 1024) =
    lt_of_le_of_lt (mul-le-mul_right (2 ^ 1074) (top n c C k)) (lt_of_le_of_lt (le_of_eq (sym (pow-add 2 53 1074))) (pow-lt {i = 53 + 1074} {j = 1074 + 1024} (omega arith))) in
    whole (round binary64 false n c) (closest n c) (2 ^ 1074) (pow_pos 1074)
    (subst (λ (z : ℕ). HasValue (round binary64 false n c) false z (2 ^ 1074)) g (round_val binary64 n c (subst (λ (z : ℕ). z < 2 ^ (1074 + 1024)) (sym g) b)))
  where
    at : (n c : ℕ) → 0 < c → (l k : ℕ) → k ≡ l → closest (n * 2 ^ l) (c * 2 ^ k) * 2 ^ k ≡ closest n c * 2 ^ l
    at n c C l k e =
        ap (λ (z : ℕ). closest (n * 2 ^ l) (c * 2 ^ z) * 2 ^ z) e
        ∙ ap (λ (z : ℕ). z * 2 ^ l) (closest_same (n * 2 ^ l) (c * 2 ^ l) n c (mul-pos C (pow_pos l)) C (mul_right_comm n (2 ^ l) c ∙ mul_assoc n c (2 ^ l)))

    top : (n c : ℕ) → 0 < c → n < 2 ^ 53 * c → closest n c ≤ 2 ^ 53
    top n c C h = le_trans (nearest-le (n / c) (compare (n % c * 2) c)) ((div-lt_iff_lt-mul C).1 h)

-- ---- up: the sum with 3 * 2 ^ 51, over the double's divisor
abbrev mid : ℕ
mid = 6755399441055744

abbrev centre : Float
centre = fin false 3 (pos 51)

abbrev moved : Bool → ℕ → ℕ → ℕ
moved false a d = a + mid * d
moved true a d = mid * d - a

up_is : (s : Bool) (m : ℕ) (e : ℤ) → m * up e * 2 < 2147483647 * down e → add binary64 (fin s m e) centre ≡ round binary64 false (moved s (m * up e) (down e)) (down e)
unfolding add
up_is false m e h =
    let a : ℕ = m * up e in
    let b : ℕ = mid * down e in
    sum_like binary64 false (a * 1) b (down e * 1)
    ∙ ap (λ (z : ℕ). round binary64 false (z + b) (down e * 1)) (mul-one a) ∙ ap (λ (z : ℕ). round binary64 false (a + b) z) (mul-one (down e))
up_is true m e h =
    let a : ℕ = m * up e in
    let b : ℕ = mid * down e in
    sum_below binary64 true (a * 1) b (down e * 1) (less a (down e) h)
    ∙ ap (λ (z : ℕ). round binary64 false (b - z) (down e * 1)) (mul-one a) ∙ ap (λ (z : ℕ). round binary64 false (b - a) z) (mul-one (down e))
  where
    less : (a d : ℕ) → a * 2 < 2147483647 * d → a * 1 < mid * d
    less a d h = omega arith

-- a whole number at most 2 ^ 30 from 3 * 2 ^ 51
record Middling (y : Float) : Type 0 where
  number : ℕ
  value : HasValue y false number 1
  least : mid - 1073741824 ≤ number
  most : number ≤ mid + 1073741824

risen : (s : Bool) (m : ℕ) (e : ℤ) → m * up e * 2 < 2147483647 * down e → Middling (add binary64 (fin s m e) centre)
risen s m e h = subst Middling (sym (up_is s m e h)) (by (moved s (m * up e) (down e)) (down e) (down_pos e) (least s (m * up e) (down e) h) (most s (m * up e) (down e) h))
  where
    least : (s : Bool) (a d : ℕ) → a * 2 < 2147483647 * d → (mid - 1073741824) * d ≤ moved s a d
    least true a d h = omega arith
    least false a d h = omega arith

    most : (s : Bool) (a d : ℕ) → a * 2 < 2147483647 * d → moved s a d < (mid + 1073741824) * d
    most true a d h = omega arith
    most false a d h = omega arith

    by : (n c : ℕ) → 0 < c → (mid - 1073741824) * c ≤ n → n < (mid + 1073741824) * c → Middling (round binary64 false n c)
    by n c C h k = record {
      number = closest n c;
      value = rounded n c C (omega arith) (omega arith);
      least = le_trans ((le-div_iff_mul-le C).1 h) (nearest-ge (n / c) (compare (n % c * 2) c));
      most = le_trans (nearest-le (n / c) (compare (n % c * 2) c)) ((div-lt_iff_lt-mul C).1 k);
    }

-- ---- down: the difference is exact
pub record Stepped (y : Float) : Type 0 where
  pub number : ℤ
  pub is : y ≡ of_int binary64 number
  pub small : nat_abs number ≤ 1073741824

-- w / 1 less 3 * 2 ^ 51, where w is at least that, and where it is less
over : (a j d : ℕ) → a ≡ (mid + j) * d → (a - mid * d) * 1 ≡ j * (d * 1)
over a j d e =
    let p : (mid + j) * d ≡ mid * d + j * d = add-mul mid j d in
    let q : j * (d * 1) ≡ j * d = ap (λ (z : ℕ). j * z) (mul-one d) in
    omega arith

under : (a w j d : ℕ) → a ≡ w * d → w + suc j ≡ mid → (mid * d - a) * 1 ≡ suc j * (d * 1)
under a w j d e h =
    let p : w * d + suc j * d ≡ mid * d = sym (add-mul w (suc j) d) ∙ ap (λ (z : ℕ). z * d) h in
    let q : suc j * (d * 1) ≡ suc j * d = ap (λ (z : ℕ). suc j * z) (mul-one d) in
    omega arith

opened : (n : ℕ) (k : ℤ) → sub binary64 (fin false n k) centre ≡ sum binary64 false (n * up k * 1) true (mid * down k) (down k * 1)
unfolding sub
opened n k = refl

fallen : (y : Float) → Middling y → Stepped (sub binary64 y centre)
unfolding of_int
fallen nan h = absurd h.value
fallen (inf s) h = absurd h.value
fallen (fin true n k) h = absurd (true≢false h.value.0)
fallen (fin false n k) h = by (leb mid h.number) (leb→le mid h.number) (nleb→lt mid h.number)
  where
    up_by : (w j : ℕ) → w ≡ mid + j → w ≤ mid + 1073741824 → n * up k * 1 ≡ w * down k → Stepped (sub binary64 (fin false n k) centre)
    up_by w j e g v =
        let v' : n * up k * 1 ≡ (mid + j) * down k = v ∙ ap (λ (z : ℕ). z * down k) e in
        record {
          number = pos j;
          is =
              opened n k ∙ sum_above binary64 false (n * up k * 1) (mid * down k) (down k * 1) (omega (arith, v', add-mul mid j (down k)))
              ∙ round_same binary64 false (n * up k * 1 - mid * down k) (down k * 1) j 1 (omega (arith, down_pos k)) (omega arith) (over (n * up k * 1) j (down k) v');
          small = omega arith;
        }

    down_by : (w j : ℕ) → w + suc j ≡ mid → mid - 1073741824 ≤ w → n * up k * 1 ≡ w * down k → Stepped (sub binary64 (fin false n k) centre)
    down_by w j e g v =
        let p : w * down k + suc j * down k ≡ mid * down k = sym (add-mul w (suc j) (down k)) ∙ ap (λ (z : ℕ). z * down k) e in
        let q : suc j * down k ≡ j * down k + down k = suc-mul j (down k) in
        record {
          number = negsuc j;
          is =
              opened n k ∙ sum_below binary64 false (n * up k * 1) (mid * down k) (down k * 1) (omega (arith, down_pos k))
              ∙ round_same binary64 true (mid * down k - n * up k * 1) (down k * 1) (suc j) 1 (omega (arith, down_pos k)) (omega arith) (under (n * up k * 1) w j (down k) v e);
          small = omega arith;
        }

    by : (x : Bool) → (T x → mid ≤ h.number) → (T (not x) → h.number < mid) → Stepped (sub binary64 (fin false n k) centre)
    by true p q = let g = p tt in up_by h.number (h.number - mid) (omega arith) h.most h.value.1
    by false p q = let g = q tt in down_by h.number (mid - suc h.number) (omega arith) h.least h.value.1

pub stepped_is : (x : Float) → T (within (whole_of x)) → Stepped (stepped x)
unfolding stepped of_bits whole_of
stepped_is nan w = absurd w
stepped_is (inf s) w = absurd w
stepped_is (fin s m e) w = fallen (add binary64 (fin s m e) centre) (risen s m e (within_size s m e w))
