-- The larger and the smaller of two numbers: a bound on them, the limit asked of them, and which of the two they are.
use mathlib.Core.Path.{◌≡◌, refl}
use mathlib.Core.Bool.{Bool, true, false, ◌&&◌}
use mir.Syntax.{w32}
use mir.Val.{to_z, of_z}
use lib.IntN.{ℤ, neg_ℤ}
use lib.Signed.{◌≤ℤ◌, ◌<ℤ◌, le_z}
use Rattle.whole.proofs.Parts.{zarith}
use Rattle.whole.proofs.Laws.{<-≤}
use Rattle.whole.proofs.Machine.{Back, le_yes}
use Rattle.whole.proofs.Cases.{by_le, le_is}
use Rattle.promise.proofs.Joined.{same, both, both_is}
use Rattle.clip.specs.Domain.{limit, within}
use Rattle.clip.specs.Cutting.{least, most}

-- a property that every smaller number keeps holds of both numbers where it holds of the larger one; one that every larger number keeps, where it holds of the smaller one
module _ (P : ℤ → Type 0) where
  most_down : ((x y : ℤ) → x ≤ℤ y → P y → P x) → (a b : ℤ) → P (most a b) → P a × P b
  most_down f a b = by_le (λ z. P z → P a × P b) a b b a (λ h k. (f a b h k, k)) (λ h k. (k, f b a (<-≤ h) k))

  least_up : ((x y : ℤ) → x ≤ℤ y → P x → P y) → (a b : ℤ) → P (least a b) → P a × P b
  least_up f a b = by_le (λ z. P z → P a × P b) a b a b (λ h k. (k, f a b h k)) (λ h k. (f b a (<-≤ h) k, k))

pub most_lt : (a b c : ℤ) → most a b <ℤ c → (a <ℤ c) × (b <ℤ c)
most_lt a b c = most_down (λ z. z <ℤ c) (λ x y h k. omega zarith) a b

pub lt_least : (a b c : ℤ) → c <ℤ least a b → (c <ℤ a) × (c <ℤ b)
lt_least a b c = least_up (λ z. c <ℤ z) (λ x y h k. omega zarith) a b

most_le : (a b c : ℤ) → most a b ≤ℤ c → (a ≤ℤ c) × (b ≤ℤ c)
most_le a b c = most_down (λ z. z ≤ℤ c) (λ x y h k. omega zarith) a b

le_least : (a b c : ℤ) → c ≤ℤ least a b → (c ≤ℤ a) × (c ≤ℤ b)
le_least a b c = least_up (λ z. c ≤ℤ z) (λ x y h k. omega zarith) a b

most_to : (a b c : ℤ) → a ≤ℤ c → b ≤ℤ c → most a b ≤ℤ c
most_to a b c i j = by_le (λ z. z ≤ℤ c) a b b a (λ h. j) (λ h. i)

least_from : (a b c : ℤ) → c ≤ℤ a → c ≤ℤ b → c ≤ℤ least a b
least_from a b c i j = by_le (λ z. c ≤ℤ z) a b a b (λ h. i) (λ h. j)

-- both numbers lie within the limit exactly where the smaller one is not below it and the larger one not above it
pub both_within : (m n : ℤ) → (le_z (neg_ℤ limit) (least m n) && le_z (most m n) limit) ≡ (within m && within n)
both_within m n = same (le_z (neg_ℤ limit) (least m n) && le_z (most m n) limit) (within m && within n)
    (λ e. let k = both (le_z (neg_ℤ limit) (least m n)) (le_z (most m n) limit) e in
    let l = le_least m n (neg_ℤ limit) (le_yes k.0) in
    let u = most_le m n limit (le_yes k.1) in
    both_is (both_is (le_is l.0) (le_is u.0)) (both_is (le_is l.1) (le_is u.1)))
    (λ e. let k = both (within m) (within n) e in
    let i = both (le_z (neg_ℤ limit) m) (le_z m limit) k.0 in
    let j = both (le_z (neg_ℤ limit) n) (le_z n limit) k.1 in
    both_is (le_is (least_from m n (neg_ℤ limit) (le_yes i.0) (le_yes j.0))) (le_is (most_to m n limit (le_yes i.1) (le_yes j.1))))

-- two numbers of two points: by number, or by point
pub by_ends : (s t u v : Bool) → (s && t && (u && v)) ≡ (s && u && (t && v))
by_ends true true u v = refl
by_ends true false true v = refl
by_ends true false false v = refl
by_ends false t u v = refl

-- the smaller and the larger of two numbers, as the machine reads them back
module _ {m n : ℤ} (bm : Back w32 m) (bn : Back w32 n) where
  abbrev test : Bool
  test = le_z (to_z w32 (of_z w32 m)) (to_z w32 (of_z w32 n))

  told : (t : Bool) → test ≡ t → le_z m n ≡ t
  told t e = rw (bm, bn) at e

  pub least_first : test ≡ true → to_z w32 (of_z w32 m) ≡ least m n
  least_first e = rw (bm, told true e) refl

  pub least_second : test ≡ false → to_z w32 (of_z w32 n) ≡ least m n
  least_second e = rw (bn, told false e) refl

  pub most_first : test ≡ true → to_z w32 (of_z w32 n) ≡ most m n
  most_first e = rw (bn, told true e) refl

  pub most_second : test ≡ false → to_z w32 (of_z w32 m) ≡ most m n
  most_second e = rw (bm, told false e) refl
