-- A double that the machine's difference tells to be nearer than a half to a whole number has that number for its nearest.
use Rattle.std.proofs.Common.{◌≡◌, ℕ, zero, suc, ◌+◌, ◌-◌, ◌*◌, ◌<◌, ◌≤◌, Bool, true, false, not, ◌&&◌, ◌||◌, T, eqb, ltb, ℤ, negsuc, sym, refl, ap, ◌∙◌, subst, mul_assoc, suc-mul, add-mul, add_comm, lt_of_mul-lt-mul_right, mul-pos, lt_of_not-le, zero-mul, mul-one, mul_right_comm, arith, eqb→eq, ltb→lt, nltb→le}
use lib.Ieee.{Float, nan, inf, fin, binary64, up, down, round, sum, sub, neg, lt, le, of_bits}
use lib.Ieee.Exact.{HasValue}
use lib.Ieee.Fits.{and_l, and_r, down_pos}
use lib.Ieee.Order.{round_mono}
use Rattle.affine.specs.Grid.{nearest, signed, whole_of}
use Rattle.affine.specs.Laws.{IsNearest}
use Rattle.affine.specs.Facts.{is_near}
use Rattle.affine.proofs.Laws.{nearest_only}
use Rattle.affine.proofs.Sums.{sum_like, sum_below, sum_above, round_turned}

-- one half, as the code's literal is
abbrev half : Float
half = fin false 1 (negsuc 0)

abbrev near : Float → Bool
near y = lt y half && lt (fin true 1 (negsuc 0)) y

-- ---- what rounds to less than a half is less
above_or_level : (a b : ℕ) → T (ltb a b || (eqb a b && true)) → T (ltb b a) → ⊥
above_or_level a b t u = by (ltb a b) (eqb a b) (ltb→lt a b) (eqb→eq a b) t
  where
    by : (p q : Bool) → (T p → a < b) → (T q → a ≡ b) → T (p || (q && true)) → ⊥
    by true q h k t = let l = ltb→lt b a u in let g = h tt in omega arith
    by false true h k t = let l = ltb→lt b a u in let g = k tt in omega arith
    by false false h k t = t

not_both : (y : Float) → T (le half y) → T (lt y half) → ⊥
unfolding le lt
not_both nan t u = u
not_both (inf true) t u = t
not_both (inf false) t u = u
not_both (fin true n d) t u =
    let z = eqb→eq (1 * 1 * down d) 0 (and_r (eqb (1 * 1 * down d) (n * up d * 2)) (eqb (1 * 1 * down d) 0) t) in
    omega (arith, down_pos d)
not_both (fin false n d) t u = above_or_level (1 * 1 * down d) (n * up d * 2) t u

half_is : round binary64 false 1 2 ≡ half
unfolding round
half_is = refl

below_half : (n c : ℕ) → 0 < c → T (lt (round binary64 false n c) half) → 2 * n < c
below_half n c C t =
    lt_of_not-le
    (λ (g : c ≤ 2 * n). not_both (round binary64 false n c) (subst (λ (z : Float). T (le z (round binary64 false n c))) half_is (round_mono binary64 1 2 n c (omega arith) C (omega arith))) t)

turned : (y : Float) → lt (fin true 1 (negsuc 0)) (neg y) ≡ lt y half
unfolding lt neg
turned nan = refl
turned (inf true) = refl
turned (inf false) = refl
turned (fin true n d) = ap (λ (z : ℕ). ltb 0 z) (add_comm (1 * 1 * down d) (n * up d * 2))
turned (fin false n d) = refl

near_small : (s : Bool) (n c : ℕ) → 0 < c → T (near (round binary64 s n c)) → 2 * n < c
near_small false n c C t = below_half n c C (and_l (lt (round binary64 false n c) half) (lt (fin true 1 (negsuc 0)) (round binary64 false n c)) t)
near_small true n c C t =
    let u = and_r (lt (round binary64 true n c) half) (lt (fin true 1 (negsuc 0)) (round binary64 true n c)) t in
    below_half n c C (subst T (ap (lt (fin true 1 (negsuc 0))) (round_turned binary64 n c) ∙ turned (round binary64 false n c)) u)

-- ---- sums and differences nearer to zero than a half
near_like : (s : Bool) (a b c : ℕ) → 0 < c → T (near (sum binary64 s a s b c)) → 2 * (a + b) < c
near_like s a b c C t = near_small s (a + b) c C (subst (λ (z : Float). T (near z)) (sum_like binary64 s a b c) t)

-- either number is less than the other and a half
record Close (a b c : ℕ) : Type 0 where
  under : 2 * a < 2 * b + c
  over : 2 * b < 2 * a + c

near_unlike : (s : Bool) (a b c : ℕ) → 0 < c → T (near (sum binary64 s a (not s) b c)) → Close a b c
near_unlike s a b c C t = by (ltb a b) (ltb→lt a b) (nltb→le a b)
  where
    by : (x : Bool) → (T x → a < b) → (T (not x) → b ≤ a) → Close a b c
    by true h k =
        let l = h tt in
        let g = near_small (not s) (b - a) c C (subst (λ (z : Float). T (near z)) (sum_below binary64 s a b c l) t) in
        record { under = omega arith; over = omega arith }
    by false h k =
        let l = k tt in
        let g = near_small (s && ltb b a) (a - b) c C (subst (λ (z : Float). T (near z)) (sum_above binary64 s a b c l) t) in
        record { under = omega arith; over = omega arith }

-- ---- a double less a whole number j, over one divisor
record Less (x : Float) (s t : Bool) (a j d : ℕ) : Type 0 where
  scale : ℕ
  some : 0 < scale
  is : x ≡ sum binary64 s (a * scale) (not t) (j * d * scale) (d * scale)

opened : (s : Bool) (m : ℕ) (e : ℤ) (u : Bool) (n : ℕ) (k : ℤ) → sub binary64 (fin s m e) (fin u n k) ≡ sum binary64 s (m * up e * down k) (not u) (n * up k * down e) (down e * down k)
unfolding sub
opened s m e u n k = refl

less : (s t : Bool) (m : ℕ) (e : ℤ) (y : Float) (j : ℕ) → HasValue y t j 1 → Less (sub binary64 (fin s m e) y) s t (m * up e) j (down e)
less s t m e nan j v = absurd v
less s t m e (inf u) j v = absurd v
less s t m e (fin u n k) j v = record {
  scale = down k;
  some = down_pos k;
  is =
      opened s m e u n k ∙ ap (λ (b : Bool). sum binary64 s (m * up e * down k) (not b) (n * up k * down e) (down e * down k)) v.0
      ∙ ap (λ (z : ℕ). sum binary64 s (m * up e * down k) (not t) z (down e * down k)) (moved (n * up k) j (down k) (down e) v.1);
}
  where
    moved : (a j k d : ℕ) → a * 1 ≡ j * k → a * d ≡ j * d * k
    moved a j k d h = ap (λ (z : ℕ). z * d) (sym (mul-one a) ∙ h) ∙ mul_right_comm j k d

-- ---- so j with its sign is the double's nearest whole number
same_sign : (m : ℕ) (e : ℤ) (j k : ℕ) → Close (m * up e * k) (j * down e * k) (down e * k) → IsNearest m e j
same_sign m e j k h =
    let u : 2 * (m * up e) < 2 * (j * down e) + down e = lt_of_mul-lt-mul_right k (spread (m * up e) (j * down e) (down e) k h.under) in
    let o : 2 * (j * down e) < 2 * (m * up e) + down e = lt_of_mul-lt-mul_right k (spread (j * down e) (m * up e) (down e) k h.over) in
    record { above = omega arith; below = u }
  where
    spread : (a b c k : ℕ) → 2 * (a * k) < 2 * (b * k) + c * k → 2 * a * k < (2 * b + c) * k
    spread a b c k h =
        let p : 2 * a * k ≡ 2 * (a * k) = mul_assoc 2 a k in
        let q : (2 * b + c) * k ≡ 2 * b * k + c * k = add-mul (2 * b) c k in
        let r : 2 * b * k ≡ 2 * (b * k) = mul_assoc 2 b k in
        omega arith

other_sign : (m : ℕ) (e : ℤ) (j k : ℕ) → 2 * (m * up e * k + j * down e * k) < down e * k → (j ≡ 0) × IsNearest m e j
other_sign m e j k h = by j (lt_of_mul-lt-mul_right k (joined (m * up e) (j * down e) (down e) k h))
  where
    joined : (a b c k : ℕ) → 2 * (a * k + b * k) < c * k → 2 * (a + b) * k < c * k
    joined a b c k h =
        let p : 2 * (a + b) * k ≡ 2 * ((a + b) * k) = mul_assoc 2 (a + b) k in
        let q : (a + b) * k ≡ a * k + b * k = add-mul a b k in
        omega arith

    by : (j : ℕ) → 2 * (m * up e + j * down e) < down e → (j ≡ 0) × IsNearest m e j
    by zero g = (refl, record { above = rw (zero-mul (down e)) (omega arith); below = rw (zero-mul (down e)) (omega arith) })
    by (suc j) g = absurd (let p : suc j * down e ≡ j * down e + down e = suc-mul j (down e) in omega arith)

signed_zero : (s t : Bool) (n j : ℕ) → j ≡ n → j ≡ 0 → signed s n ≡ signed t j
signed_zero s t n j h z = ap (signed s) (sym h ∙ z) ∙ by s t ∙ ap (signed t) (sym z)
  where
    by : (s t : Bool) → signed s 0 ≡ signed t 0
    by true true = refl
    by true false = refl
    by false true = refl
    by false false = refl

told : (x y : Float) → T (is_near x y) → T (near (sub binary64 x y))
unfolding is_near of_bits neg
told x y h = h

pub near_is : (s t : Bool) (m : ℕ) (e : ℤ) (y : Float) (j : ℕ) → HasValue y t j 1 → T (is_near (fin s m e) y) → whole_of (fin s m e) ≡ signed t j
unfolding whole_of
near_is s t m e y j v h =
    let l = less s t m e y j v in
    let g : T (near (sum binary64 s (m * up e * l.scale) (not t) (j * down e * l.scale) (down e * l.scale))) = subst (λ (z : Float). T (near z)) l.is (told (fin s m e) y h) in
    by s t l.scale (mul-pos (down_pos e) l.some) g
  where
    by : (s t : Bool) (k : ℕ) → 0 < down e * k → T (near (sum binary64 s (m * up e * k) (not t) (j * down e * k) (down e * k))) → signed s (nearest m e) ≡ signed t j
    by true true k K g = ap (signed true) (sym (nearest_only m e j (same_sign m e j k (near_unlike true (m * up e * k) (j * down e * k) (down e * k) K g))))
    by false false k K g = ap (signed false) (sym (nearest_only m e j (same_sign m e j k (near_unlike false (m * up e * k) (j * down e * k) (down e * k) K g))))
    by true false k K g =
        let o = other_sign m e j k (near_like true (m * up e * k) (j * down e * k) (down e * k) K g) in
        signed_zero true false (nearest m e) j (nearest_only m e j o.1) o.0
    by false true k K g =
        let o = other_sign m e j k (near_like false (m * up e * k) (j * down e * k) (down e * k) K g) in
        signed_zero false true (nearest m e) j (nearest_only m e j o.1) o.0
