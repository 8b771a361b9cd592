-- A stored value is found exactly where it is the same content.
use Prim.Native.Nat.{ℕ, ◌%◌, ◌/◌, ◌<◌}
use mathlib.Core.Path.{◌≡◌, refl, sym, ap, ◌∙◌}
use mathlib.Core.Bool.{Bool, true, false, cond, ◌&&◌}
use mathlib.Core.List.{List, [], ◌∷◌}
use native.Mathlib.Omega.{arith}
use native.Mathlib.Nat.{zero-mod}
use lib.Dec.{eqb}
use borrow.Author.Tests.{eq-eqb, ne_eqb, eqb-true, eqb-false}
use Rattle.table.specs.Texts.{same_text}
use Rattle.table.specs.Values.{same_content, same_value}
use Rattle.layer.specs.Calls.{bit_of, bits_of}
use Rattle.tile.specs.Holding.{same_bytes}
use Rattle.given.specs.Given.{Content, text, float, double, int, uint, sint, bool, unsigned, mark}
use Rattle.given.specs.Asked.{tag_of, Fine}
use Rattle.given.proofs.Numbers.{bits_are}

-- the one number that tells apart contents of kind k, of their bits
abbrev pub rest : ℕ → ℕ → ℕ
rest k n = cond (eqb k 2) (unsigned 2147483648 n) (cond (eqb k 3) (unsigned 9223372036854775808 n) n)

-- both halves are equal where the numbers are
halves_same : (n m : ℕ) → (eqb (n % 4294967296) (m % 4294967296) && eqb (n / 4294967296) (m / 4294967296)) ≡ eqb n m
halves_same n m = by (eqb (n % 4294967296) (m % 4294967296)) (eqb (n / 4294967296) (m / 4294967296)) refl refl
  where
    by : (a b : Bool) → eqb (n % 4294967296) (m % 4294967296) ≡ a → eqb (n / 4294967296) (m / 4294967296) ≡ b → (a && b) ≡ eqb n m
    by true true p q = sym (eq-eqb n m (omega (arith, eqb-true (n % 4294967296) (m % 4294967296) p, eqb-true (n / 4294967296) (m / 4294967296) q)))
    by true false p q = sym (ne_eqb n m (λ e. eqb-false (n / 4294967296) (m / 4294967296) q (omega arith)))
    by false true p q = sym (ne_eqb n m (λ e. eqb-false (n % 4294967296) (m % 4294967296) p (omega arith)))
    by false false p q = sym (ne_eqb n m (λ e. eqb-false (n % 4294967296) (m % 4294967296) p (omega arith)))

-- equal, or both a zero: equal once a zero has no sign
zeros_same : (sign n m : ℕ) → cond (eqb n m) true (eqb (n % sign) 0 && eqb (m % sign) 0) ≡ cond (eqb (unsigned sign n) (unsigned sign m)) true false
zeros_same sign n m = by (eqb (n % sign) 0) (eqb (m % sign) 0) (eqb n m) refl refl refl
  where
    -- a zero is no other number
    not_zero : (x : ℕ) → eqb (x % sign) 0 ≡ false → 0 ≡ x → ⊥
    not_zero x h e = eqb-false (x % sign) 0 h (ap (λ (y : ℕ). y % sign) (sym e) ∙ zero-mod sign)

    apart : (x y : ℕ) → eqb (x % sign) 0 ≡ true → eqb (y % sign) 0 ≡ false → x ≡ y → ⊥
    apart x y p q e = eqb-false (y % sign) 0 q (ap (λ (z : ℕ). z % sign) (sym e) ∙ eqb-true (x % sign) 0 p)

    by : (a b c : Bool) → eqb (n % sign) 0 ≡ a → eqb (m % sign) 0 ≡ b → eqb n m ≡ c → cond c true (a && b) ≡ cond (eqb (cond a 0 n) (cond b 0 m)) true false
    by true true true p q r = refl
    by true true false p q r = refl
    by true false true p q r = absurd (apart n m p q (eqb-true n m r))
    by true false false p q r = rw (ne_eqb 0 m (not_zero m q))
    by false true true p q r = absurd (apart m n q p (sym (eqb-true n m r)))
    by false true false p q r = rw (ne_eqb n 0 (λ e. not_zero n p (sym e)))
    by false false true p q r = rw r
    by false false false p q r = rw r

-- ---- contents of kind k by their halves; of a float these are its 32 bits and 0
abbrev Small : ℕ → ℕ → Type 0
Small k n = k ≡ 2 → n < 4294967296

-- the tests for a zero, on the halves and on the bits
float_zero : (n : ℕ) → n < 4294967296 → (eqb (n % 4294967296 % 2147483648) 0 && eqb (n / 4294967296) 0) ≡ eqb (n % 2147483648) 0
float_zero n h =
    let a : n % 4294967296 % 2147483648 ≡ n % 2147483648 = omega arith in
    let b : n / 4294967296 ≡ 0 = omega arith in
    rw (a, b) (by (eqb (n % 2147483648) 0))
  where
    by : (t : Bool) → (t && true) ≡ t
    by true = refl
    by false = refl

double_zero : (n : ℕ) → (eqb (n % 4294967296) 0 && eqb (n / 4294967296 % 2147483648) 0) ≡ eqb (n % 9223372036854775808) 0
double_zero n = by (eqb (n % 4294967296) 0) (eqb (n / 4294967296 % 2147483648) 0) refl refl
  where
    by : (a b : Bool) → eqb (n % 4294967296) 0 ≡ a → eqb (n / 4294967296 % 2147483648) 0 ≡ b → (a && b) ≡ eqb (n % 9223372036854775808) 0
    by true true p q = sym (eq-eqb (n % 9223372036854775808) 0 (omega (arith, eqb-true (n % 4294967296) 0 p, eqb-true (n / 4294967296 % 2147483648) 0 q)))
    by true false p q = sym (ne_eqb (n % 9223372036854775808) 0 (λ e. eqb-false (n / 4294967296 % 2147483648) 0 q (omega arith)))
    by false true p q = sym (ne_eqb (n % 9223372036854775808) 0 (λ e. eqb-false (n % 4294967296) 0 p (omega arith)))
    by false false p q = sym (ne_eqb (n % 9223372036854775808) 0 (λ e. eqb-false (n % 4294967296) 0 p (omega arith)))

contents_same : (k n m : ℕ) → Small k n → Small k m → same_content k (n % 4294967296) (n / 4294967296) (m % 4294967296) (m / 4294967296) ≡ cond (eqb (rest k n) (rest k m)) true false
contents_same k n m g h = by (eqb k 2) (eqb k 3) refl
  where
    zero : Bool → Bool → ℕ → Bool
    zero a b x = cond a (eqb (x % 4294967296 % 2147483648) 0 && eqb (x / 4294967296) 0) (cond b (eqb (x % 4294967296) 0 && eqb (x / 4294967296 % 2147483648) 0) false)

    told : Bool → Bool → ℕ → ℕ
    told a b x = cond a (unsigned 2147483648 x) (cond b (unsigned 9223372036854775808 x) x)

    by : (a b : Bool) → eqb k 2 ≡ a → cond (eqb (n % 4294967296) (m % 4294967296) && eqb (n / 4294967296) (m / 4294967296)) true (zero a b n && zero a b m) ≡ cond (eqb (told a b n) (told a b m)) true false
    by true b e = rw (halves_same n m, float_zero n (g (eqb-true k 2 e)), float_zero m (h (eqb-true k 2 e))) (zeros_same 2147483648 n m)
    by false true e = rw (halves_same n m, double_zero n, double_zero m) (zeros_same 9223372036854775808 n m)
    by false false e = rw (halves_same n m)

-- ---- a stored number, of kind k and bits n, against a value
module _ (texts : List ℕ) (k n : ℕ) (number : eqb k 1 ≡ false) (g : Small k n) where
  column : (K m : ℕ) (t : List ℕ) → Small K m → cond (eqb k K) (cond (eqb k 1) (same_text texts (n % 4294967296) (n / 4294967296) t) (same_content k (n % 4294967296) (n / 4294967296) (m % 4294967296) (m / 4294967296))) false ≡ same_bytes (k ∷ rest k n ∷ []) (K ∷ rest K m ∷ [])
  column K m t h = by (eqb k K) refl
    where
      by : (b : Bool) → eqb k K ≡ b → cond b (cond (eqb k 1) (same_text texts (n % 4294967296) (n / 4294967296) t) (same_content k (n % 4294967296) (n / 4294967296) (m % 4294967296) (m / 4294967296))) false ≡ cond b (cond (eqb (rest k n) (rest K m)) true false) false
      by false e = refl
      by true e = let q = eqb-true k K e in rw (number, ← q) (contents_same k n m g (λ x. h (sym q ∙ x)))

  pub number_found : (key : List ℕ) (b : Content) → Fine b → same_value texts k (n % 4294967296) (n / 4294967296) (tag_of key b).value (tag_of key b).text ≡ same_bytes (k ∷ rest k n ∷ []) (mark b)
  number_found key (text t) f = rw number
  number_found key (float m) f = column 2 m [] (λ e. f)
  number_found key (double m) f = column 3 m [] (λ e. absurd (omega arith))
  number_found key (int m) f = column 4 (bits_of m) [] (λ e. absurd (omega arith)) ∙ rw (bits_are m)
  number_found key (uint m) f = column 5 m [] (λ e. absurd (omega arith))
  number_found key (sint m) f = column 6 (bits_of m) [] (λ e. absurd (omega arith)) ∙ rw (bits_are m)
  number_found key (bool m) f = column 7 (bit_of m) [] (λ e. absurd (omega arith))
