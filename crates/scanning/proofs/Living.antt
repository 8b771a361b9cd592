-- What is alive: each way of the code is the definition's. Where the code asks for the room behind what is needed, no sum is made.
use Prim.Native.Nat.{ℕ, suc, ◌+◌, ◌-◌, ◌%◌, ◌≤◌, ◌<◌}
use mathlib.Core.Path.{◌≡◌, refl, sym}
use mathlib.Core.Bool.{Bool, true, false, not, ◌&&◌, ◌||◌}
use native.Mathlib.Omega.{arith}
use borrow.Author.Tests.{lt-ltb, le-ltb, le-leb, lt-leb, eq-eqb, ne_eqb, eqb-true, eqb-false}
use mir.Syntax.{w64}
use mir.Val.{Fits}
use lib.Dec.{ltb, eqb}
use Rattle.messages.specs.declared.key.Kind.{Kind}
use Rattle.messages.specs.declared.key.Kind.TheVariants.{Tile}
use Rattle.messages.specs.declared.key.Body.{Body}
use Rattle.messages.specs.declared.key.Body.TheVariants.{Within}
use Rattle.messages.specs.declared.key.Follows.{Follows}
use Rattle.messages.specs.declared.key.Follows.TheVariants.{ABody}
use Rattle.messages.specs.Keys.{follows}
use Rattle.scan.specs.declared.Phase.{Phase}
use Rattle.scan.specs.declared.Phase.TheVariants.{Field, Key, Number, Lead, Skip, Packed}
use Rattle.scan.specs.declared.Where.{Where}
use Rattle.scan.specs.declared.Where.TheVariants.{Outside, One, Two}
use Rattle.scan.specs.declared.State.{State}
use Rattle.scan.specs.declared.State.TheVariants.{At}
use Rattle.scan.specs.Automaton.{unit}
use Rattle.scan.specs.Alive.{least, loose, is_type, least_body, need, slack, is_body, may, fine, roomy, alive, SoundIn, Sound}
use Rattle.scanning.proofs.Digits.{unit_ten}

-- ---- a byte and so many more
module _ (more : ℕ) (s : Bool) (room : ℕ) where
  pub room_short : room ≤ more → false ≡ roomy (suc more) s room
  unfolding roomy
  room_short h = rw (lt-leb (suc more) room (omega (arith, h))) refl

  pub room_spare : more < room → s ≡ true → true ≡ roomy (suc more) s room
  unfolding roomy
  room_spare h e = rw (le-leb (suc more) room (omega (arith, h)), e) refl

  same_gap : more < room → eqb (room - more) 2 ≡ eqb room (suc (suc more))
  same_gap h = by (eqb room (suc (suc more))) refl
    where
      by : (b : Bool) → eqb room (suc (suc more)) ≡ b → eqb (room - more) 2 ≡ b
      by true e = eq-eqb (room - more) 2 (omega (arith, eqb-true room (suc (suc more)) e))
      by false e = ne_eqb (room - more) 2 (λ z. eqb-false room (suc (suc more)) e (omega (arith, z, h)))

  pub room_exact : more < room → s ≡ false → not (eqb (room - more) 2) ≡ roomy (suc more) s room
  unfolding roomy
  room_exact h e = rw (le-leb (suc more) room (omega (arith, h)), e, same_gap h) refl

module _ (i type room more : ℕ) (r : Bool) (m : more ≡ least type) where
  pub key_room_longer : i < 9 → r ≡ roomy (suc more) true room → r ≡ roomy (suc (least type)) (ltb i 9 || loose type) room
  key_room_longer h e = rw (lt-ltb i 9 h, sym m) e

  pub key_room_last : (s : Bool) → 9 ≤ i → s ≡ loose type → r ≡ roomy (suc more) s room → r ≡ roomy (suc (least type)) (ltb i 9 || loose type) room
  key_room_last s h l e = rw (le-ltb i 9 h, sym m, sym l) e

-- ---- the length of a body
module _ (b : Body) (k : Kind) (i v : ℕ) (e : b ≡ Within k) where
  pub body_raised : (u : ℕ) → v ≡ 1 → u ≡ unit i → v + u ≡ least_body b i v
  body_raised u h g = rw (e, eq-eqb v 1 h, sym g) refl

  pub body_plain : (v ≡ 1 → ⊥) → v ≡ least_body b i v
  body_plain h = rw (e, ne_eqb v 1 h) refl

pub raised_fits : (i v u : ℕ) → i ≤ 9 → v ≡ 1 → u ≡ unit i → Fits w64 (v + u)
raised_fits i v u h e g = record { fits = omega (arith, e, g, unit_ten i h) }

-- ---- the room of a phase
module _ (p : Phase) (room : ℕ) where
  pub roomy_field : p ≡ Field → not (eqb room 1) ≡ roomy (need p) (slack p) room
  unfolding roomy
  roomy_field e = rw (e, le-leb 0 room (omega arith)) refl

  module _ (r : Bool) where
    pub roomy_key : (i v : ℕ) → p ≡ Key i v → r ≡ roomy (suc (least (v % 8))) (ltb i 9 || loose (v % 8)) room → r ≡ roomy (need p) (slack p) room
    roomy_key i v e h = rw e h

    pub roomy_number : (i : ℕ) → p ≡ Number i → r ≡ roomy 1 (ltb i 9) room → r ≡ roomy (need p) (slack p) room
    roomy_number i e h = rw e h

    pub roomy_lead : (b : Body) (i v more : ℕ) → p ≡ Lead b i v → more ≡ least_body b i v → r ≡ roomy (suc more) (ltb i 9) room → r ≡ roomy (need p) (slack p) room
    roomy_lead b i v more e m h = rw (e, sym m) h

    pub roomy_skip : (n : ℕ) → p ≡ Skip n → r ≡ roomy (suc n) false room → r ≡ roomy (need p) (slack p) room
    roomy_skip n e h = rw e h

    pub roomy_packed : (n i : ℕ) → p ≡ Packed n i → r ≡ roomy (suc n) false room → r ≡ roomy (need p) (slack p) room
    roomy_packed n i e h = rw e h

-- ---- what follows a key
pub may_body : (nests : Bool) (f : Follows) (b : Body) (r : Bool) → f ≡ ABody b → r ≡ is_body nests b → r ≡ may nests f
may_body nests f b r e h = rw e h

module _ (nests : Bool) (k : Kind) (p : Phase) (r : Bool) where
  pub fine_type : (i v : ℕ) → p ≡ Key i v → i < 5 → r ≡ is_type (v % 8) → r ≡ fine nests k p
  fine_type i v e h g = rw (e, lt-ltb i 5 h) g

  pub fine_key : (i v : ℕ) (f : Follows) → p ≡ Key i v → 5 ≤ i → f ≡ follows k v → r ≡ may nests f → r ≡ fine nests k p
  fine_key i v f e h m g = rw (e, le-ltb i 5 h) (rw m at g)

  pub fine_lead : (b : Body) (i v : ℕ) → p ≡ Lead b i v → r ≡ is_body nests b → r ≡ fine nests k p
  fine_lead b i v e g = rw e g

-- ---- the state
module _ (s : State) (w : Where) (p : Phase) (e : s ≡ At w p) where
  pub sound_at : Sound s → SoundIn p
  sound_at h = rw e at h

  pub alive_outside : (r : Bool) → w ≡ Outside → r ≡ fine true Tile p → r ≡ alive s
  alive_outside r h g = rw (e, h) g

  pub alive_one : (k : Kind) (n : ℕ) (f r : Bool) → w ≡ One k n → f ≡ fine true k p → r ≡ roomy (need p) (slack p) n → (f && r) ≡ alive s
  alive_one k n f r h g m = rw (e, h, sym g, sym m) refl

  pub alive_two : (k : Kind) (n : ℕ) (l : Kind) (m : ℕ) (f r : Bool) → w ≡ Two k n l m → f ≡ fine false k p → r ≡ roomy (need p) (slack p) n → ((f && r) && not (eqb m 1)) ≡ alive s
  alive_two k n l m f r h g q = rw (e, h, sym g, sym q) refl

pub lead_few : (p : Phase) (b : Body) (i v : ℕ) → SoundIn p → p ≡ Lead b i v → i ≤ 9
lead_few p b i v s e = let h = rw e at s in h.1
