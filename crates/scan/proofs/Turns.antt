-- The whole state: a byte in front of what finishes the tile is a turn.
use Prim.Native.Nat.{ℕ, zero, suc, ◌+◌, ◌*◌, ◌-◌, ◌≤◌}
use mathlib.Core.Path.{◌≡◌, refl}
use mathlib.Core.Logic.{◌↔◌}
use mathlib.Core.Bool.{Bool, true, false, cond}
use mathlib.Core.List.{List, [], ◌∷◌}
use native.Mathlib.Nat.{sub-zero, suc-sub-suc}
use native.Mathlib.Omega.{arith}
use borrow.Author.Tests.{leb-true, leb-false}
use lib.Dec.{leb}
use Rattle.messages.specs.declared.key.Kind.{Kind}
use Rattle.messages.specs.declared.key.Kind.TheVariants.{Tile as tile}
use Rattle.messages.specs.Keys.{follows}
use Rattle.scan.specs.Grammar.{Varint, Within, IsBody, Content, Message, Level}
use Rattle.scan.specs.declared.Phase.{Phase}
use Rattle.scan.specs.declared.Phase.TheVariants.{Field as field, Key as key, Number as number, Lead as lead, Skip as skip, Packed as packed}
use Rattle.scan.specs.declared.Next.{Next}
use Rattle.scan.specs.declared.Next.TheVariants.{Dead as dead, On as on, Opens as opens}
use Rattle.scan.specs.declared.Where.{Where}
use Rattle.scan.specs.declared.Where.TheVariants.{Outside as none, One as one, Two as two}
use Rattle.scan.specs.declared.State.{State}
use Rattle.scan.specs.declared.State.TheVariants.{Lost as lost, At as at}
use Rattle.scan.specs.Automaton.{unit, move, emptied, settled, opened, entered, turn, Roomy, SettledAt, Settled}
use Rattle.scan.specs.Rest.{Inner, After, Rest}
use Rattle.scan.proofs.Grammar.{within_in, within_next, within_back}
use Rattle.scan.proofs.Moves.{moves}

-- ---- one part inside another is one before another
nest_in : {A B C : List ℕ → Type 0} (m n : ℕ) (q : List ℕ) → Within n q (λ x. Within m x A B) C → (m ≤ n) × Within m q A (λ r. Within (n - m) r B C)
nest_in zero n q w = rw (sub-zero n) (omega arith, record { there = omega arith; inside = w.inside.inside; rest = record { there = w.there; inside = w.inside.rest; rest = w.rest } })
nest_in (suc m) zero q w = absurd (omega (arith, w.inside.there))
nest_in (suc m) (suc n) [] w = absurd (omega (arith, w.there))
nest_in (suc m) (suc n) (b ∷ q) w =
    let r = nest_in m n q (within_in (λ x v. within_next v) (within_next w)) in
    rw (suc-sub-suc n m) (omega (arith, r.0), within_back r.1)

nest_out : {A B C : List ℕ → Type 0} (m n : ℕ) (q : List ℕ) → m ≤ n → Within m q A (λ r. Within (n - m) r B C) → Within n q (λ x. Within m x A B) C
nest_out zero n q h v = let w = rw (sub-zero n) at v in record { there = w.rest.there; inside = record { there = omega arith; inside = w.inside; rest = w.rest.inside }; rest = w.rest.rest }
nest_out (suc m) zero q h w = absurd (omega (arith, h))
nest_out (suc m) (suc n) [] h w = absurd (omega (arith, w.there))
nest_out (suc m) (suc n) (b ∷ q) h w = within_back (within_in (λ x v. within_back v) (nest_out m n q (omega (arith, h)) (within_next (rw (suc-sub-suc n m) at w))))

-- ---- a message that has no bytes left is done
nothing_left : (P : Kind → List ℕ → Type 0) (k : Kind) {B : List ℕ → Type 0} (q : List ℕ) → Within 0 q (Message P k) B ↔ B q
nothing_left P k q = (λ w. w.rest, λ b. record { there = omega arith; inside = (0, refl); rest = b })

emptied_is : (w : Where) (q : List ℕ) → Rest (at w field) q ↔ Rest (emptied w) q
emptied_is none q = (λ r. r, λ r. r)
emptied_is (one k zero) q = nothing_left (Level 1) k q
emptied_is (one k (suc n)) q = (λ r. r, λ r. r)
emptied_is (two k zero l zero) q = (λ r. r.rest.rest, λ r. record { there = omega arith; inside = (0, refl); rest = record { there = omega arith; inside = (0, refl); rest = r } })
emptied_is (two k zero l (suc m)) q = nothing_left (Level 0) k q
emptied_is (two k (suc n) l m) q = (λ r. r, λ r. r)

settled_is : (w : Where) (phase : Phase) (q : List ℕ) → Rest (at w phase) q ↔ Rest (settled w phase) q
settled_is w field q = emptied_is w q
settled_is w (key i v) q = (λ r. r, λ r. r)
settled_is w (number i) q = (λ r. r, λ r. r)
settled_is w (lead body i v) q = (λ r. r, λ r. r)
settled_is w (skip n) q = (λ r. r, λ r. r)
settled_is w (packed n i) q = (λ r. r, λ r. r)

-- what finishes the tile behind a move
abbrev Entered : Where → Next → List ℕ → Type 0
Entered none x q = After (Level 2) tile x q
Entered (one k n) x q = Within n q (After (Level 1) k x) (Level 3 tile)
Entered (two k n l m) x q = Within n q (After (Level 0) k x) (λ r. Within m r (Level 2 l) (Level 3 tile))

never : {n : ℕ} {q : List ℕ} {B : List ℕ → Type 0} → Within n q (λ m. ⊥) B ↔ ⊥
never = (λ w. w.inside, λ t. absurd t)

dead_is : (w : Where) (q : List ℕ) → Entered w dead q ↔ ⊥
dead_is none q = (λ t. t, λ t. t)
dead_is (one k n) q = never
dead_is (two k n l m) q = never

on_is : (w : Where) (phase : Phase) (q : List ℕ) → Entered w (on phase) q ↔ Rest (at w phase) q
on_is none phase q = (λ t. t, λ t. t)
on_is (one k n) phase q = (λ t. t, λ t. t)
on_is (two k n l m) phase q = (λ t. t, λ t. t)

opened_is : (w : Where) (k : Kind) (m : ℕ) (q : List ℕ) → Entered w (opens k m) q ↔ Rest (opened w k m) q
opened_is none k m q = emptied_is (one k m) q
opened_is (one l n) k m q = by (leb m n) refl
  where
    by : (t : Bool) → leb m n ≡ t → Entered (one l n) (opens k m) q ↔ Rest (cond t (emptied (two k m l (n - m))) lost) q
    by true e =
        let i = emptied_is (two k m l (n - m)) q in
        (λ w. i.0 (nest_in m n q w).1, λ r. nest_out m n q (leb-true m n e) (i.1 r))
    by false e = (λ w. absurd (omega (arith, (nest_in m n q w).0, leb-false m n e)), λ t. absurd t)
opened_is (two l n h r) k m q = (λ w. w.inside.inside, λ t. absurd t)

entered_is : (w : Where) (x : Next) (q : List ℕ) → Entered w x q ↔ Rest (entered w x) q
entered_is w dead q = dead_is w q
entered_is w (on phase) q =
    let a = on_is w phase q in
    let b = settled_is w phase q in
    (λ t. b.0 (a.0 t), λ r. a.1 (b.1 r))
entered_is w (opens k m) q = opened_is w k m q

-- ---- nothing finishes a phase but at a field
no_digits : (K : ℕ → List ℕ → Type 0) (m : ℕ) → Varint m [] K → ⊥
no_digits K zero t = t
no_digits K (suc m) t = t

module _ (P : Kind → List ℕ → Type 0) (k : Kind) where
  pub nothing_but : (w : Where) (phase : Phase) → Inner P k phase [] → (Roomy w → ⊥) → SettledAt w phase → ⊥
  nothing_but w field t h s = h s
  nothing_but w (key i v) t h s = no_digits (λ n r. Content P (follows k (v + unit i * n)) r (Message P k)) (9 - i) t
  nothing_but w (number i) t h s = no_digits (λ n r. Message P k r) (9 - i) t
  nothing_but w (lead body i v) t h s = no_digits (λ n r. Within (v + unit i * n) r (IsBody P body) (Message P k)) (9 - i) t
  nothing_but w (skip n) t h s = omega (arith, t.there)
  nothing_but w (packed n i) t h s = omega (arith, t.there)

-- ---- a byte
pub turns : (s : State) (b : ℕ) (q : List ℕ) → Settled s → Rest s (b ∷ q) ↔ Rest (turn s b) q
turns lost b q s = (λ t. t, λ t. t)
turns (at none phase) b q s =
    let a = moves (Level 2) tile phase b q in
    let e = entered_is none (move tile phase b) q in
    (λ r. e.0 (a.0 r), λ r. a.1 (e.1 r))
turns (at (one k zero) phase) b q s = (λ r. nothing_but (Level 1) k (one k zero) phase r.inside (λ x. x) s, λ t. absurd t)
turns (at (one k (suc n)) phase) b q s =
    let e = entered_is (one k n) (move k phase b) q in
    (λ r. e.0 (within_in (λ x t. (moves (Level 1) k phase b x).0 t) (within_next r)), λ r. within_back (within_in (λ x t. (moves (Level 1) k phase b x).1 t) (e.1 r)))
turns (at (two k zero l m) phase) b q s = (λ r. nothing_but (Level 0) k (two k zero l m) phase r.inside (λ x. x) s, λ t. absurd t)
turns (at (two k (suc n) l m) phase) b q s =
    let e = entered_is (two k n l m) (move k phase b) q in
    (λ r. e.0 (within_in (λ x t. (moves (Level 0) k phase b x).0 t) (within_next r)), λ r. within_back (within_in (λ x t. (moves (Level 0) k phase b x).1 t) (e.1 r)))
