-- The automaton: one byte at a time, no message kept. A state is where we stand (bytes left in the messages around us) and the phase of the field we are in.
use Rattle.std.specs.Prelude.{ℕ, zero, suc, ◌+◌, ◌*◌, ◌-◌, ◌%◌, cond, List, [], ◌∷◌, ltb, leb}
use Rattle.scan.specs.declared.Digit.{Digit}
use Rattle.scan.specs.declared.Digit.TheVariants.{Bad as bad, More as more, Ends as ends}
use Rattle.scan.specs.declared.Phase.{Phase}
use Rattle.scan.specs.declared.Phase.TheVariants.{Field as field, Key as key, Number as number, Lead as lead, Skip as skip, Packed as packed}
use Rattle.scan.specs.declared.Next.{Next}
use Rattle.scan.specs.declared.Next.TheVariants.{Dead as dead, On as on, Opens as opens}
use Rattle.scan.specs.declared.Where.{Where}
use Rattle.scan.specs.declared.Where.TheVariants.{Outside as none, One as one, Two as two}
use Rattle.scan.specs.declared.State.{State}
use Rattle.scan.specs.declared.State.TheVariants.{Lost as lost, At as at}
use Rattle.messages.specs.declared.key.Kind.{Kind}
use Rattle.messages.specs.declared.key.Kind.TheVariants.{Tile as tile}
use Rattle.messages.specs.declared.key.Body.{Body}
use Rattle.messages.specs.declared.key.Body.TheVariants.{Any as any, Varints as varints, Within as within}
use Rattle.messages.specs.declared.key.Follows.{Follows}
use Rattle.messages.specs.declared.key.Follows.TheVariants.{Wrong as wrong, AVarint as aVarint, Bytes as bytes, ABody as aBody}
use Rattle.messages.specs.Keys.{follows}

-- ---- varints: i bytes are read, v is their value
abbrev pub unit : ℕ → ℕ
unit zero = 1
unit (suc i) = unit i * 128

abbrev pub digit : ℕ → ℕ → ℕ → Digit
digit i v b = cond (ltb i 9) (cond (ltb b 128) (ends (v + unit i * b)) (more (v + unit i * (b % 128)))) (cond (ltb b 2) (ends (v + unit i * b)) bad)

-- ---- one message
abbrev pub passing : ℕ → Phase
passing zero = field
passing (suc n) = skip n

abbrev pub packing : ℕ → Phase
packing zero = field
packing (suc n) = packed n 0

abbrev pub following : Follows → Next
following wrong = dead
following aVarint = on (number 0)
following (bytes n) = on (passing n)
following (aBody body) = on (lead body 0 0)

abbrev pub begun : Body → ℕ → Next
begun any n = on (passing n)
begun varints n = on (packing n)
begun (within kind) n = opens kind n

abbrev pub in_key : Kind → ℕ → Digit → Next
in_key kind i bad = dead
in_key kind i (more v) = on (key (suc i) v)
in_key kind i (ends n) = following (follows kind n)

abbrev pub in_number : ℕ → Digit → Next
in_number i bad = dead
in_number i (more v) = on (number (suc i))
in_number i (ends n) = on field

abbrev pub in_lead : Body → ℕ → Digit → Next
in_lead body i bad = dead
in_lead body i (more v) = on (lead body (suc i) v)
in_lead body i (ends n) = begun body n

abbrev pub unended : ℕ → ℕ → Next
unended zero i = dead
unended (suc n) i = on (packed n (suc i))

abbrev pub in_packed : ℕ → ℕ → Digit → Next
in_packed n i bad = dead
in_packed n i (more v) = unended n i
in_packed n i (ends w) = on (packing n)

abbrev pub move : Kind → Phase → ℕ → Next
move kind field b = in_key kind 0 (digit 0 0 b)
move kind (key i v) b = in_key kind i (digit i v b)
move kind (number i) b = in_number i (digit i 0 b)
move kind (lead body i v) b = in_lead body i (digit i v b)
move kind (skip n) b = on (passing n)
move kind (packed n i) b = in_packed n i (digit i 0 b)

-- ---- messages one inside the other. The room of the innermost counts all of its bytes that are still to come; that of the one around it, those behind the
-- inner one
-- a message that has no bytes left, and no field begun, is shut
abbrev pub emptied : Where → State
emptied none = at none field
emptied (one k zero) = at none field
emptied (one k (suc n)) = at (one k (suc n)) field
emptied (two k zero l zero) = at none field
emptied (two k zero l (suc m)) = at (one l (suc m)) field
emptied (two k (suc n) l m) = at (two k (suc n) l m) field

abbrev pub settled : Where → Phase → State
settled w field = emptied w
settled w (key i v) = at w (key i v)
settled w (number i) = at w (number i)
settled w (lead body i v) = at w (lead body i v)
settled w (skip n) = at w (skip n)
settled w (packed n i) = at w (packed n i)

abbrev pub opened : Where → Kind → ℕ → State
opened none k m = emptied (one k m)
opened (one l n) k m = cond (leb m n) (emptied (two k m l (n - m))) lost
opened (two l n h r) k m = lost

abbrev pub entered : Where → Next → State
entered w dead = lost
entered w (on phase) = settled w phase
entered w (opens k m) = opened w k m

-- a byte, before it is asked whether the state is alive
abbrev pub turn : State → ℕ → State
turn lost b = lost
turn (at none phase) b = entered none (move tile phase b)
turn (at (one k zero) phase) b = lost
turn (at (one k (suc n)) phase) b = entered (one k n) (move k phase b)
turn (at (two k zero l r) phase) b = lost
turn (at (two k (suc n) l r) phase) b = entered (two k n l r) (move k phase b)

abbrev pub start : State
start = at none field

-- the bytes one after the other
abbrev pub run : State → List ℕ → State
run s [] = s
run s (b ∷ bs) = run (turn s b) bs

-- a state that is no message's end: one byte more may come in the innermost message
abbrev pub Roomy : Where → Type 0
Roomy none = Unit {0}
Roomy (one k zero) = ⊥
Roomy (one k (suc n)) = Unit {0}
Roomy (two k zero l m) = ⊥
Roomy (two k (suc n) l m) = Unit {0}

abbrev pub SettledAt : Where → Phase → Type 0
SettledAt w field = Roomy w
SettledAt w (key i v) = Unit {0}
SettledAt w (number i) = Unit {0}
SettledAt w (lead body i v) = Unit {0}
SettledAt w (skip n) = Unit {0}
SettledAt w (packed n i) = Unit {0}

abbrev pub Settled : State → Type 0
Settled lost = Unit {0}
Settled (at w phase) = SettledAt w phase
