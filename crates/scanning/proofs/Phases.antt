-- One message: each way of the code is the automaton's, and a sound phase has the digits that it asks for.
use Prim.Native.Nat.{ℕ, zero, suc, ◌+◌, ◌-◌, ◌≤◌, ◌<◌}
use mathlib.Core.Path.{◌≡◌, refl, ap}
use native.Mathlib.Omega.{arith}
use Rattle.scan.specs.declared.Digit.{Digit}
use Rattle.scan.specs.declared.Digit.TheVariants.{More, Ends}
use Rattle.scan.specs.declared.Phase.{Phase}
use Rattle.scan.specs.declared.Phase.TheVariants.{Field, Key, Number, Lead, Skip, Packed}
use Rattle.scan.specs.declared.Next.{Next}
use Rattle.scan.specs.declared.Next.TheVariants.{On, Opens}
use Rattle.messages.specs.declared.key.Kind.{Kind}
use Rattle.messages.specs.declared.key.Body.{Body}
use Rattle.messages.specs.declared.key.Body.TheVariants.{Any, Varints, Within}
use Rattle.messages.specs.declared.key.Follows.{Follows}
use Rattle.messages.specs.declared.key.Follows.TheVariants.{AVarint, Bytes, ABody}
use Rattle.messages.specs.Keys.{follows}
use Rattle.scan.specs.Automaton.{unit, digit, passing, packing, unended, begun, following, in_key, in_number, in_lead, in_packed, move}
use Rattle.scan.specs.Alive.{SoundIn}
use Rattle.scan.proofs.Needs.{unit_some}

-- ---- a byte more is read, a byte less is to come
one_more : (i : ℕ) → i + 1 ≡ suc i
one_more i = omega arith

one_less : (n : ℕ) → suc n - 1 ≡ n
one_less n = omega arith

pub passing_more : (n : ℕ) → (n ≡ 0 → ⊥) → Skip (n - 1) ≡ passing n
passing_more zero h = absurd (h refl)
passing_more (suc n) h = ap Skip (one_less n)

pub packing_more : (n : ℕ) → (n ≡ 0 → ⊥) → Packed (n - 1) 0 ≡ packing n
packing_more zero h = absurd (h refl)
packing_more (suc n) h = ap (λ (m : ℕ). Packed m 0) (one_less n)

-- ---- a body begins
module _ (b : Body) (n : ℕ) where
  pub begun_any : (p : Phase) → b ≡ Any → p ≡ passing n → On p ≡ begun b n
  begun_any p e h = rw (e, h) refl

  pub begun_varints : (p : Phase) → b ≡ Varints → p ≡ packing n → On p ≡ begun b n
  begun_varints p e h = rw (e, h) refl

  pub begun_within : (k : Kind) → b ≡ Within k → Opens k n ≡ begun b n
  begun_within k e = rw e refl

-- ---- what follows a key
module _ (f : Follows) where
  pub follows_varint : f ≡ AVarint → On (Number 0) ≡ following f
  follows_varint e = rw e refl

  pub follows_bytes : (n : ℕ) (p : Phase) → f ≡ Bytes n → p ≡ passing n → On p ≡ following f
  follows_bytes n p e h = rw (e, h) refl

  pub follows_body : (b : Body) → f ≡ ABody b → On (Lead b 0 0) ≡ following f
  follows_body b e = rw e refl

-- ---- a digit of a number, of a length, of a packed list
module _ (i : ℕ) (d : Digit) where
  pub number_more : (v : ℕ) → d ≡ More v → On (Number (i + 1)) ≡ in_number i d
  number_more v e = rw e (ap (λ (m : ℕ). On (Number m)) (one_more i))

  pub number_ends : (v : ℕ) → d ≡ Ends v → On Field ≡ in_number i d
  number_ends v e = rw e refl

  module _ (b : Body) where
    pub lead_more : (v : ℕ) → d ≡ More v → On (Lead b (i + 1) v) ≡ in_lead b i d
    lead_more v e = rw e (ap (λ (m : ℕ). On (Lead b m v)) (one_more i))

    pub lead_ends : (n : ℕ) (r : Next) → d ≡ Ends n → r ≡ begun b n → r ≡ in_lead b i d
    lead_ends n r e h = rw (e, h) refl

  module _ (n : ℕ) where
    pub packed_more : (v : ℕ) → d ≡ More v → (n ≡ 0 → ⊥) → On (Packed (n - 1) (i + 1)) ≡ in_packed n i d
    packed_more v e h = rw e (by n h)
      where
        by : (n : ℕ) → (n ≡ 0 → ⊥) → On (Packed (n - 1) (i + 1)) ≡ unended n i
        by zero h = absurd (h refl)
        by (suc n) h = rw (one_less n, one_more i) refl

    pub packed_ends : (w : ℕ) (p : Phase) → d ≡ Ends w → p ≡ packing n → On p ≡ in_packed n i d
    packed_ends w p e h = rw (e, h) refl

  module _ (k : Kind) where
    pub key_more : (v : ℕ) → d ≡ More v → On (Key (i + 1) v) ≡ in_key k i d
    key_more v e = rw e (ap (λ (m : ℕ). On (Key m v)) (one_more i))

    pub key_ends : (n : ℕ) (f : Follows) (r : Next) → d ≡ Ends n → f ≡ follows k n → r ≡ following f → r ≡ in_key k i d
    key_ends n f r e h g = rw e (rw h at g)

-- ---- the phases
module _ (k : Kind) (p : Phase) (b : ℕ) (r : Next) where
  pub move_field : (d : Digit) → p ≡ Field → d ≡ digit 0 0 b → r ≡ in_key k 0 d → r ≡ move k p b
  move_field d e h g = rw e (rw h at g)

  pub move_key : (i v : ℕ) (d : Digit) → p ≡ Key i v → d ≡ digit i v b → r ≡ in_key k i d → r ≡ move k p b
  move_key i v d e h g = rw e (rw h at g)

  pub move_number : (i : ℕ) (d : Digit) → p ≡ Number i → d ≡ digit i 0 b → r ≡ in_number i d → r ≡ move k p b
  move_number i d e h g = rw e (rw h at g)

  pub move_lead : (c : Body) (i v : ℕ) (d : Digit) → p ≡ Lead c i v → d ≡ digit i v b → r ≡ in_lead c i d → r ≡ move k p b
  move_lead c i v d e h g = rw e (rw h at g)

  pub move_packed : (n i : ℕ) (d : Digit) → p ≡ Packed n i → d ≡ digit i 0 b → r ≡ in_packed n i d → r ≡ move k p b
  move_packed n i d e h g = rw e (rw h at g)

pub move_skip : (k : Kind) (p : Phase) (b n : ℕ) (q : Phase) → p ≡ Skip n → q ≡ passing n → On q ≡ move k p b
move_skip k p b n q e h = rw (e, h) refl

-- ---- what the calls ask
module _ (p : Phase) (s : SoundIn p) where
  ready_key : (i v : ℕ) → p ≡ Key i v → (i ≤ 9) × (v < unit i)
  ready_key i v e = let h = rw e at s in (h.2, h.1)

  ready_lead : (c : Body) (i v : ℕ) → p ≡ Lead c i v → (i ≤ 9) × (v < unit i)
  ready_lead c i v e = let h = rw e at s in (h.1, h.0)

  ready_number : (i : ℕ) → p ≡ Number i → (i ≤ 9) × (0 < unit i)
  ready_number i e = let h = rw e at s in (h, unit_some i)

  ready_packed : (n i : ℕ) → p ≡ Packed n i → (i ≤ 9) × (0 < unit i)
  ready_packed n i e = let h = rw e at s in (h, unit_some i)

  pub few_key : (i v : ℕ) → p ≡ Key i v → i ≤ 9
  few_key i v e = (ready_key i v e).0

  pub few_lead : (c : Body) (i v : ℕ) → p ≡ Lead c i v → i ≤ 9
  few_lead c i v e = (ready_lead c i v e).0

  pub few_number : (i : ℕ) → p ≡ Number i → i ≤ 9
  few_number i e = (ready_number i e).0

  pub few_packed : (n i : ℕ) → p ≡ Packed n i → i ≤ 9
  few_packed n i e = (ready_packed n i e).0

  pub small_key : (i v : ℕ) → p ≡ Key i v → v < unit i
  small_key i v e = (ready_key i v e).1

  pub small_lead : (c : Body) (i v : ℕ) → p ≡ Lead c i v → v < unit i
  small_lead c i v e = (ready_lead c i v e).1

pub nought_small : (i : ℕ) → 0 < unit i
nought_small i = unit_some i
