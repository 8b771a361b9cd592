-- A refusal is known by what it says: no two say the same, and none says what an accepted answer says. With these, an answer enum's `said…` leaves one value for each answer.
use mathlib.Core.Path.{◌≡◌, refl, sym, ◌∙◌, ap}
use mathlib.Core.Bool.{false, cond}
use Prim.Native.Nat.{ℕ, ◌≤◌}
use native.Mathlib.Omega.{arith}
use borrow.Author.Tests.{ne_eqb}
use lib.Dec.{eqb}
use Rattle.refusal.specs.declared.Refusal.{Refusal}
use Rattle.refusal.specs.declared.Refusal.TheVariants.{Job, Kind, Box, State, Coord, Empty, Room, Command, Step, Text, Turn, Extent, Name, Wire, Count, NoParams, CutParams, Utf8, Again}
use Rattle.refusal.specs.declared.Fault.{Fault}
use Rattle.refusal.specs.Refusals.{number_of}
use Rattle.refusal.specs.Said.{Said, accepted, refused, refused_at, plain}

-- the refusal of a number
refusal_of : ℕ → Refusal
refusal_of n =
    cond (eqb n 1) Job (
    cond (eqb n 2) Kind (
    cond (eqb n 3) Box (
    cond (eqb n 4) State (
    cond (eqb n 5) Coord (
    cond (eqb n 6) Empty (
    cond (eqb n 7) Room (
    cond (eqb n 8) Command (
    cond (eqb n 10) Step (
    cond (eqb n 11) Text (
    cond (eqb n 12) Turn (
    cond (eqb n 13) Extent (
    cond (eqb n 14) Name (
    cond (eqb n 15) Wire (
    cond (eqb n 16) Count (
    cond (eqb n 17) NoParams (
    cond (eqb n 18) CutParams (
    cond (eqb n 22) Utf8 (
    Again))))))))))))))))))

read_back : (r : Refusal) → refusal_of (number_of r) ≡ r
unfolding refusal_of
read_back Job = refl
read_back Kind = refl
read_back Box = refl
read_back State = refl
read_back Coord = refl
read_back Empty = refl
read_back Room = refl
read_back Command = refl
read_back Step = refl
read_back Text = refl
read_back Turn = refl
read_back Extent = refl
read_back Name = refl
read_back Wire = refl
read_back Count = refl
read_back NoParams = refl
read_back CutParams = refl
read_back Utf8 = refl
read_back Again = refl

pub same_refusal : (r r' : Refusal) → number_of r ≡ number_of r' → r ≡ r'
same_refusal r r' e = sym (read_back r) ∙ ap refusal_of e ∙ read_back r'

pub numbered : (r : Refusal) → 1 ≤ number_of r
numbered Job = omega arith
numbered Kind = omega arith
numbered Box = omega arith
numbered State = omega arith
numbered Coord = omega arith
numbered Empty = omega arith
numbered Room = omega arith
numbered Command = omega arith
numbered Step = omega arith
numbered Text = omega arith
numbered Turn = omega arith
numbered Extent = omega arith
numbered Name = omega arith
numbered Wire = omega arith
numbered Count = omega arith
numbered NoParams = omega arith
numbered CutParams = omega arith
numbered Utf8 = omega arith
numbered Again = omega arith

-- `number`: the number of what it was told to be
pub is_numbered : {r x : Refusal} → r ≡ x → number_of x ≡ number_of r
is_numbered e = sym (ap number_of e)

-- an accepted call has 0
pub not_zero : (r : Refusal) → number_of r ≡ 0 → ⊥
not_zero r e = omega (arith, numbered r)

pub never_zero : (r : Refusal) → eqb (number_of r) 0 ≡ false
never_zero r = ne_eqb (number_of r) 0 (not_zero r)

-- no call gives 9, which was CUT
pub never_nine : (r : Refusal) → number_of r ≡ 9 → ⊥
never_nine Job e = omega arith
never_nine Kind e = omega arith
never_nine Box e = omega arith
never_nine State e = omega arith
never_nine Coord e = omega arith
never_nine Empty e = omega arith
never_nine Room e = omega arith
never_nine Command e = omega arith
never_nine Step e = omega arith
never_nine Text e = omega arith
never_nine Turn e = omega arith
never_nine Extent e = omega arith
never_nine Name e = omega arith
never_nine Wire e = omega arith
never_nine Count e = omega arith
never_nine NoParams e = omega arith
never_nine CutParams e = omega arith
never_nine Utf8 e = omega arith
never_nine Again e = omega arith

module _ {X : Type 0} {v v' : X} where
  pub one_fault : (f f' : Fault) → refused_at f v ≡ refused_at f' v' → f ≡ f'
  one_fault f f' e =
      let r : f.refusal ≡ f'.refusal = same_refusal f.refusal f'.refusal (ap (λ (s : Said X). s.number) e) in
      λ i. record { refusal = r i; place = (e i).place }

  pub never_fault : (f : Fault) → accepted v ≡ refused_at f v' → ⊥
  never_fault f e = not_zero f.refusal (sym (ap (λ (s : Said X). s.number) e))

  pub one_refusal : (r r' : Refusal) → refused r v ≡ refused r' v' → r ≡ r'
  one_refusal r r' e = ap (λ (f : Fault). f.refusal) (one_fault (plain r) (plain r') e)

  pub never_both : (r : Refusal) → accepted v ≡ refused r v' → ⊥
  never_both r e = never_fault (plain r) e
