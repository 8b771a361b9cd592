-- What finishes a tile from a state, in the grammar's words alone.
use Rattle.std.specs.Prelude.{ℕ, zero, suc, ◌+◌, ◌*◌, ◌-◌, List}
use Rattle.messages.specs.declared.key.Kind.{Kind}
use Rattle.messages.specs.declared.key.Kind.TheVariants.{Tile as tile}
use Rattle.messages.specs.Keys.{follows}
use Rattle.scan.specs.Grammar.{Varint, Varints, Within, IsBody, Content, Message, Level}
use Rattle.scan.specs.declared.Phase.{Phase}
use Rattle.scan.specs.declared.Phase.TheVariants.{Field as field, Key as key, Number as number, Lead as lead, Skip as skip, Packed as packed}
use Rattle.scan.specs.declared.Next.{Next}
use Rattle.scan.specs.declared.Next.TheVariants.{Dead as dead, On as on, Opens as opens}
use Rattle.scan.specs.declared.Where.TheVariants.{Outside as none, One as one, Two as two}
use Rattle.scan.specs.declared.State.{State}
use Rattle.scan.specs.declared.State.TheVariants.{Lost as lost, At as at}
use Rattle.scan.specs.Automaton.{unit}

-- the rest of a varint that has i bytes of value v
abbrev pub Digits : ℕ → ℕ → List ℕ → (ℕ → List ℕ → Type 0) → Type 0
Digits i v bs K = Varint (9 - i) bs (λ n r. K (v + unit i * n) r)

-- the rest of a packed list; where no varint is begun, it may end
abbrev pub Packed : ℕ → List ℕ → Type 0
Packed zero bs = Varints bs
Packed (suc i) bs = Digits (suc i) 0 bs (λ n r. Varints r)

module _ (P : Kind → List ℕ → Type 0) (kind : Kind) where
  abbrev pub Inner : Phase → List ℕ → Type 0
  Inner field bs = Message P kind bs
  Inner (key i v) bs = Digits i v bs (λ k r. Content P (follows kind k) r (Message P kind))
  Inner (number i) bs = Digits i 0 bs (λ n r. Message P kind r)
  Inner (lead body i v) bs = Digits i v bs (λ n r. Within n r (IsBody P body) (Message P kind))
  Inner (skip n) bs = Within (suc n) bs (λ m. Unit {0}) (Message P kind)
  Inner (packed n i) bs = Within (suc n) bs (Packed i) (Message P kind)

  abbrev pub After : Next → List ℕ → Type 0
  After dead bs = ⊥
  After (on phase) bs = Inner phase bs
  After (opens k n) bs = Within n bs (P k) (Message P kind)

abbrev pub Rest : State → List ℕ → Type 0
Rest lost q = ⊥
Rest (at none phase) q = Inner (Level 2) tile phase q
Rest (at (one k n) phase) q = Within n q (Inner (Level 1) k phase) (Level 3 tile)
Rest (at (two k n l m) phase) q = Within n q (Inner (Level 0) k phase) (λ r. Within m r (Level 2 l) (Level 3 tile))
