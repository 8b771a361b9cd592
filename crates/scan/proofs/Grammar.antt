-- Laws of the grammar's parts: a varint byte by byte, so many bytes one by one, and what may be taken out of them.
use Prim.Native.Nat.{ℕ, suc, ◌+◌, ◌*◌, ◌-◌, ◌%◌}
use mathlib.Core.Path.{◌≡◌, refl, ap}
use mathlib.Core.Bool.{Bool, true, false}
use mathlib.Core.List.{List, ◌∷◌}
use native.Mathlib.Nat.{mul-add, mul_assoc}
use native.Mathlib.Omega.{arith}
use borrow.Author.Tests.{ltb-true, ltb-false}
use lib.Dec.{ltb}
use lib.ListN.{take, drop}
use Rattle.wire.specs.Reading.{VarintRead, good, cut, over, behind, read_of}
use Rattle.messages.specs.declared.key.Kind.{Kind}
use Rattle.messages.specs.declared.key.Follows.{Follows}
use Rattle.messages.specs.declared.key.Follows.TheVariants.{Wrong as wrong, AVarint as aVarint, Bytes as bytes, ABody as aBody}
use Rattle.scan.specs.Grammar.{Then, Within, IsBody, Content}
use Rattle.scan.specs.declared.Digit.{Digit}
use Rattle.scan.specs.declared.Digit.TheVariants.{Bad as bad, More as more, Ends as ends}
use Rattle.scan.specs.Automaton.{unit, digit}
use Rattle.scan.specs.Rest.{Digits}

-- ---- what follows may be weakened, and a choice in it taken out
pub then_map : (r : VarintRead) (bs : List ℕ) (K L : ℕ → List ℕ → Type 0) → ((n : ℕ) (x : List ℕ) → K n x → L n x) → Then r bs K → Then r bs L
then_map (good n k) bs K L f t = f n (drop k bs) t
then_map cut bs K L f t = absurd t
then_map (over p) bs K L f t = absurd t

pub then_out : (r : VarintRead) (bs : List ℕ) (K : ℕ → ℕ → List ℕ → Type 0) → Then r bs (λ n x. (c : ℕ) × K c n x) → (c : ℕ) × Then r bs (K c)
then_out (good n k) bs K t = (t.0, t.1)
then_out cut bs K t = absurd t
then_out (over p) bs K t = absurd t

pub within_map : {n : ℕ} {bs : List ℕ} {A B C : List ℕ → Type 0} → ((x : List ℕ) → B x → C x) → Within n bs A B → Within n bs A C
within_map {n} {bs} f w = record { there = w.there; inside = w.inside; rest = f (drop n bs) w.rest }

pub within_in : {n : ℕ} {bs : List ℕ} {A B C : List ℕ → Type 0} → ((x : List ℕ) → A x → B x) → Within n bs A C → Within n bs B C
within_in {n} {bs} f w = record { there = w.there; inside = f (take n bs) w.inside; rest = w.rest }

module _ (P : Kind → List ℕ → Type 0) where
  pub content_map : (f : Follows) (bs : List ℕ) (K L : List ℕ → Type 0) → ((x : List ℕ) → K x → L x) → Content P f bs K → Content P f bs L
  content_map wrong bs K L f t = absurd t
  content_map aVarint bs K L f t = then_map (read_of 2 9 bs) bs (λ n r. K r) (λ n r. L r) (λ n x k. f x k) t
  content_map (bytes n) bs K L f t = within_map f t
  content_map (aBody body) bs K L f t = then_map (read_of 2 9 bs) bs (λ n r. Within n r (IsBody P body) K) (λ n r. Within n r (IsBody P body) L) (λ n x w. within_map f w) t

  pub content_out : (f : Follows) (bs : List ℕ) (K : ℕ → List ℕ → Type 0) → Content P f bs (λ x. (c : ℕ) × K c x) → (c : ℕ) × Content P f bs (K c)
  content_out wrong bs K t = absurd t
  content_out aVarint bs K t = then_out (read_of 2 9 bs) bs (λ c n r. K c r) t
  content_out (bytes n) bs K t = (t.rest.0, record { there = t.there; inside = tt; rest = t.rest.1 })
  content_out (aBody body) bs K t =
      then_out (read_of 2 9 bs) bs (λ c n r. Within n r (IsBody P body) (K c))
      (then_map (read_of 2 9 bs) bs (λ n r. Within n r (IsBody P body) (λ x. (c : ℕ) × K c x)) (λ n r. (c : ℕ) × Within n r (IsBody P body) (K c)) (λ n x w. (w.rest.0, record { there = w.there; inside = w.inside; rest = w.rest.1 })) t)

-- ---- a varint, byte by byte
abbrev pub Turned : ℕ → Digit → List ℕ → (ℕ → List ℕ → Type 0) → Type 0
Turned i bad bs K = ⊥
Turned i (more v) bs K = Digits (suc i) v bs K
Turned i (ends n) bs K = K n bs

module _ (K : ℕ → List ℕ → Type 0) (v u b : ℕ) where
  digits_sum : (low n : ℕ) → v + u * (low + 128 * n) ≡ v + u * low + u * 128 * n
  digits_sum low n = omega (arith, mul-add u low (128 * n), mul_assoc u 128 n)

  behind_is : (r : VarintRead) (bs : List ℕ) → Then (behind (b % 128) r) (b ∷ bs) (λ n x. K (v + u * n) x) ≡ Then r bs (λ n x. K (v + u * (b % 128) + u * 128 * n) x)
  behind_is (good n k) bs = ap (λ (m : ℕ). K m (drop k bs)) (digits_sum (b % 128) n)
  behind_is cut bs = refl
  behind_is (over p) bs = refl

pub digit_is : (i v b : ℕ) (bs : List ℕ) (K : ℕ → List ℕ → Type 0) → Digits i v (b ∷ bs) K ≡ Turned i (digit i v b) bs K
digit_is i v b bs K = by (ltb i 9) refl (ltb b 128) refl (ltb b 2) refl
  where
    by : (x : Bool) → ltb i 9 ≡ x → (y : Bool) → ltb b 128 ≡ y → (z : Bool) → ltb b 2 ≡ z → Digits i v (b ∷ bs) K ≡ Turned i (digit i v b) bs K
    by true p true q z s =
        let e : 9 - i ≡ suc (8 - i) = omega (arith, ltb-true i 9 p) in
        rw (e, p, q) refl
    by true p false q z s =
        let e : 9 - i ≡ suc (8 - i) = omega (arith, ltb-true i 9 p) in
        let d : 9 - suc i ≡ 8 - i = omega arith in
        rw (e, p, q, d) (behind_is K v (unit i) b (read_of 2 (8 - i) bs) bs)
    by false p y q true s =
        let e : 9 - i ≡ 0 = omega (arith, ltb-false i 9 p) in
        rw (e, p, s) refl
    by false p y q false s =
        let e : 9 - i ≡ 0 = omega (arith, ltb-false i 9 p) in
        rw (e, p, s) refl

-- ---- so many bytes, one by one
module _ {n b : ℕ} {bs : List ℕ} {A B : List ℕ → Type 0} where
  pub within_next : Within (suc n) (b ∷ bs) A B → Within n bs (λ m. A (b ∷ m)) B
  within_next w = record { there = omega (arith, w.there); inside = w.inside; rest = w.rest }

  pub within_back : Within n bs (λ m. A (b ∷ m)) B → Within (suc n) (b ∷ bs) A B
  within_back w = record { there = omega (arith, w.there); inside = w.inside; rest = w.rest }
