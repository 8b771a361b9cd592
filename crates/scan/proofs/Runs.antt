-- What finishes the tile after some bytes is what finishes the state that they lead to; and it may end only
-- where a field of the tile may begin.
use Prim.Native.Nat.{ℕ, zero, suc, ◌-◌}
use mathlib.Core.Path.{◌≡◌, refl}
use mathlib.Core.Logic.{◌↔◌}
use mathlib.Core.Bool.{Bool, true, false, cond}
use mathlib.Core.List.{List, [], ◌∷◌, ◌++◌}
use native.Mathlib.Omega.{arith}
use lib.Dec.{leb}
use Rattle.messages.specs.declared.key.Kind.{Kind}
use Rattle.messages.specs.declared.key.Kind.TheVariants.{Tile as tile}
use Rattle.scan.specs.Grammar.{Level}
use Rattle.scan.specs.declared.Phase.{Phase}
use Rattle.scan.specs.declared.Phase.TheVariants.{Field as field, Key as key, Number as number, Lead as lead, Skip as skip, Packed as packed}
use Rattle.scan.specs.declared.Next.{Next}
use Rattle.scan.specs.declared.Next.TheVariants.{Dead as dead, On as on, Opens as opens}
use Rattle.scan.specs.declared.Where.{Where}
use Rattle.scan.specs.declared.Where.TheVariants.{Outside as none, One as one, Two as two}
use Rattle.scan.specs.declared.State.{State}
use Rattle.scan.specs.declared.State.TheVariants.{Lost as lost, At as at}
use Rattle.scan.specs.Automaton.{move, emptied, settled, opened, entered, turn, run, start, Settled}
use Rattle.scan.specs.Rest.{Rest}
use Rattle.scan.proofs.Turns.{nothing_but, turns}

-- ---- every turn leaves a settled state
emptied_settled : (w : Where) → Settled (emptied w)
emptied_settled none = tt
emptied_settled (one k zero) = tt
emptied_settled (one k (suc n)) = tt
emptied_settled (two k zero l zero) = tt
emptied_settled (two k zero l (suc m)) = tt
emptied_settled (two k (suc n) l m) = tt

settled_settled : (w : Where) (phase : Phase) → Settled (settled w phase)
settled_settled w field = emptied_settled w
settled_settled w (key i v) = tt
settled_settled w (number i) = tt
settled_settled w (lead body i v) = tt
settled_settled w (skip n) = tt
settled_settled w (packed n i) = tt

opened_settled : (w : Where) (k : Kind) (m : ℕ) → Settled (opened w k m)
opened_settled none k m = emptied_settled (one k m)
opened_settled (one l n) k m = by (leb m n)
  where
    by : (t : Bool) → Settled (cond t (emptied (two k m l (n - m))) lost)
    by true = emptied_settled (two k m l (n - m))
    by false = tt
opened_settled (two l n h r) k m = tt

entered_settled : (w : Where) (x : Next) → Settled (entered w x)
entered_settled w dead = tt
entered_settled w (on phase) = settled_settled w phase
entered_settled w (opens k m) = opened_settled w k m

pub turn_settled : (s : State) (b : ℕ) → Settled (turn s b)
turn_settled lost b = tt
turn_settled (at none phase) b = entered_settled none (move tile phase b)
turn_settled (at (one k zero) phase) b = tt
turn_settled (at (one k (suc n)) phase) b = entered_settled (one k n) (move k phase b)
turn_settled (at (two k zero l m) phase) b = tt
turn_settled (at (two k (suc n) l m) phase) b = entered_settled (two k n l m) (move k phase b)

pub run_settled : (s : State) (p : List ℕ) → Settled s → Settled (run s p)
run_settled s [] h = h
run_settled s (b ∷ p) h = run_settled (turn s b) p (turn_settled s b)

-- ---- what finishes the tile after some bytes
pub runs : (s : State) (p q : List ℕ) → Settled s → Rest s (p ++ q) ↔ Rest (run s p) q
runs s [] q h = (λ r. r, λ r. r)
runs s (b ∷ p) q h =
    let a = turns s b (p ++ q) h in
    let e = runs (turn s b) p q (turn_settled s b) in
    (λ r. e.0 (a.0 r), λ r. a.1 (e.1 r))

-- ---- it may end only where a field of the tile may begin
pub done : (s : State) → Settled s → Rest s [] → s ≡ start
done lost h r = absurd r
done (at none field) h r = refl
done (at none (key i v)) h r = absurd (nothing_but (Level 2) tile (one tile 0) (key i v) r (λ x. x) h)
done (at none (number i)) h r = absurd (nothing_but (Level 2) tile (one tile 0) (number i) r (λ x. x) h)
done (at none (lead body i v)) h r = absurd (nothing_but (Level 2) tile (one tile 0) (lead body i v) r (λ x. x) h)
done (at none (skip n)) h r = absurd (nothing_but (Level 2) tile (one tile 0) (skip n) r (λ x. x) h)
done (at none (packed n i)) h r = absurd (nothing_but (Level 2) tile (one tile 0) (packed n i) r (λ x. x) h)
done (at (one k zero) phase) h r = absurd (nothing_but (Level 1) k (one k zero) phase r.inside (λ x. x) h)
done (at (one k (suc n)) phase) h r = absurd (omega (arith, r.there))
done (at (two k zero l m) phase) h r = absurd (nothing_but (Level 0) k (two k zero l m) phase r.inside (λ x. x) h)
done (at (two k (suc n) l m) phase) h r = absurd (omega (arith, r.there))
