-- Every turn of a sound state is sound.
use Prim.Native.Nat.{ℕ, zero, suc, ◌+◌, ◌*◌, ◌-◌, ◌%◌, ◌≤◌, ◌<◌}
use mathlib.Core.Path.{◌≡◌, refl, ap}
use mathlib.Core.Bool.{Bool, true, false, cond}
use mathlib.Core.List.{List, [], ◌∷◌}
use native.Mathlib.Nat.{mul-add}
use native.Mathlib.Omega.{arith}
use borrow.Author.Tests.{ltb-true}
use lib.Dec.{ltb, leb}
use Rattle.messages.specs.declared.key.Kind.{Kind}
use Rattle.messages.specs.declared.key.Kind.TheVariants.{Tile as tile}
use Rattle.messages.specs.declared.key.Body.{Body}
use Rattle.messages.specs.declared.key.Body.TheVariants.{Any as any, Varints as varints, Within as within}
use Rattle.messages.specs.declared.key.Follows.{Follows}
use Rattle.messages.specs.declared.key.Follows.TheVariants.{Wrong as wrong, AVarint as aVarint, Bytes as bytes, ABody as aBody}
use Rattle.messages.specs.Keys.{follows}
use Rattle.scan.specs.declared.Digit.{Digit}
use Rattle.scan.specs.declared.Digit.TheVariants.{Bad as bad, More as more, Ends as ends}
use Rattle.scan.specs.declared.Phase.{Phase}
use Rattle.scan.specs.declared.Phase.TheVariants.{Field as field, Key as key, Number as number, Lead as lead, Skip as skip, Packed as packed}
use Rattle.scan.specs.declared.Next.{Next}
use Rattle.scan.specs.declared.Next.TheVariants.{Dead as dead, On as on, Opens as opens}
use Rattle.scan.specs.declared.Where.{Where}
use Rattle.scan.specs.declared.Where.TheVariants.{Outside as none, One as one, Two as two}
use Rattle.scan.specs.declared.State.{State}
use Rattle.scan.specs.declared.State.TheVariants.{Lost as lost, At as at}
use Rattle.scan.specs.Automaton.{unit, digit, passing, packing, following, begun, in_key, in_number, in_lead, in_packed, move, emptied, settled, opened, entered, turn, run}
use Rattle.scan.specs.Alive.{SoundIn, Sound}
use Rattle.scan.proofs.Needs.{unit_some}

abbrev SoundNext : Next → Type 0
SoundNext dead = Unit {0}
SoundNext (on phase) = SoundIn phase
SoundNext (opens k n) = Unit {0}

abbrev SoundDigit : ℕ → Digit → Type 0
SoundDigit i bad = Unit {0}
SoundDigit i (more v) = (v < unit (suc i)) × (suc i ≤ 9)
SoundDigit i (ends n) = Unit {0}

-- seven bits more
pub seven : (u v r : ℕ) → v < u → r ≤ 127 → v + u * r < u * 128
seven u v r h g =
    let s : r + (127 - r) ≡ 127 = omega (arith, g) in
    omega (arith, h, mul-add u r (127 - r), ap (λ (m : ℕ). u * m) s)

digit_sound : (i v b : ℕ) → v < unit i → SoundDigit i (digit i v b)
digit_sound i v b h = by (ltb i 9) refl (ltb b 128) (ltb b 2)
  where
    by : (x : Bool) → ltb i 9 ≡ x → (y z : Bool) → SoundDigit i (cond x (cond y (ends (v + unit i * b)) (more (v + unit i * (b % 128)))) (cond z (ends (v + unit i * b)) bad))
    by true e true z = tt
    by true e false z = (seven (unit i) v (b % 128) h (omega arith), omega (arith, ltb-true i 9 e))
    by false e y true = tt
    by false e y false = tt

passing_sound : (n : ℕ) → SoundIn (passing n)
passing_sound zero = tt
passing_sound (suc n) = tt

packing_sound : (n : ℕ) → SoundIn (packing n)
packing_sound zero = tt
packing_sound (suc n) = omega arith

following_sound : (f : Follows) → SoundNext (following f)
following_sound wrong = tt
following_sound aVarint = omega arith
following_sound (bytes n) = passing_sound n
following_sound (aBody body) = (omega arith, omega arith)

key_sound : (kind : Kind) (i : ℕ) (d : Digit) → SoundDigit i d → SoundNext (in_key kind i d)
key_sound kind i bad h = tt
key_sound kind i (more v) h = (omega arith, h.0, h.1)
key_sound kind i (ends n) h = following_sound (follows kind n)

number_sound : (i : ℕ) (d : Digit) → SoundDigit i d → SoundNext (in_number i d)
number_sound i bad h = tt
number_sound i (more v) h = h.1
number_sound i (ends n) h = tt

begun_sound : (body : Body) (n : ℕ) → SoundNext (begun body n)
begun_sound any n = passing_sound n
begun_sound varints n = packing_sound n
begun_sound (within k) n = tt

lead_sound : (body : Body) (i : ℕ) (d : Digit) → SoundDigit i d → SoundNext (in_lead body i d)
lead_sound body i bad h = tt
lead_sound body i (more v) h = h
lead_sound body i (ends n) h = begun_sound body n

packed_sound : (n i : ℕ) (d : Digit) → SoundDigit i d → SoundNext (in_packed n i d)
packed_sound n i bad h = tt
packed_sound zero i (more v) h = tt
packed_sound (suc n) i (more v) h = h.1
packed_sound n i (ends w) h = packing_sound n

move_sound : (kind : Kind) (phase : Phase) (b : ℕ) → SoundIn phase → SoundNext (move kind phase b)
move_sound kind field b h = key_sound kind 0 (digit 0 0 b) (digit_sound 0 0 b (omega arith))
move_sound kind (key i v) b h = key_sound kind i (digit i v b) (digit_sound i v b h.1)
move_sound kind (number i) b h = number_sound i (digit i 0 b) (digit_sound i 0 b (unit_some i))
move_sound kind (lead body i v) b h = lead_sound body i (digit i v b) (digit_sound i v b h.0)
move_sound kind (skip n) b h = passing_sound n
move_sound kind (packed n i) b h = packed_sound n i (digit i 0 b) (digit_sound i 0 b (unit_some i))

emptied_sound : (w : Where) → Sound (emptied w)
emptied_sound none = tt
emptied_sound (one k zero) = tt
emptied_sound (one k (suc n)) = tt
emptied_sound (two k zero l zero) = tt
emptied_sound (two k zero l (suc m)) = tt
emptied_sound (two k (suc n) l m) = tt

settled_sound : (w : Where) (phase : Phase) → SoundIn phase → Sound (settled w phase)
settled_sound w field h = emptied_sound w
settled_sound w (key i v) h = h
settled_sound w (number i) h = h
settled_sound w (lead body i v) h = h
settled_sound w (skip n) h = tt
settled_sound w (packed n i) h = h

opened_sound : (w : Where) (k : Kind) (m : ℕ) → Sound (opened w k m)
opened_sound none k m = emptied_sound (one k m)
opened_sound (one l n) k m = by (leb m n)
  where
    by : (t : Bool) → Sound (cond t (emptied (two k m l (n - m))) lost)
    by true = emptied_sound (two k m l (n - m))
    by false = tt
opened_sound (two l n h r) k m = tt

entered_sound : (w : Where) (x : Next) → SoundNext x → Sound (entered w x)
entered_sound w dead h = tt
entered_sound w (on phase) h = settled_sound w phase h
entered_sound w (opens k m) h = opened_sound w k m

pub turn_sound : (s : State) (b : ℕ) → Sound s → Sound (turn s b)
turn_sound lost b h = tt
turn_sound (at none phase) b h = entered_sound none (move tile phase b) (move_sound tile phase b h)
turn_sound (at (one k zero) phase) b h = tt
turn_sound (at (one k (suc n)) phase) b h = entered_sound (one k n) (move k phase b) (move_sound k phase b h)
turn_sound (at (two k zero l m) phase) b h = tt
turn_sound (at (two k (suc n) l m) phase) b h = entered_sound (two k n l m) (move k phase b) (move_sound k phase b h)

pub run_sound : (s : State) (bs : List ℕ) → Sound s → Sound (run s bs)
run_sound s [] h = h
run_sound s (b ∷ bs) h = run_sound (turn s b) bs (turn_sound s b h)
