-- The whole state: each way of the code is the automaton's.
use Prim.Native.Nat.{ℕ, zero, suc, ◌-◌, ◌≤◌, ◌<◌}
use mathlib.Core.Path.{◌≡◌, refl}
use native.Mathlib.Omega.{arith}
use borrow.Author.Tests.{le-leb, lt-leb}
use Rattle.messages.specs.declared.key.Kind.{Kind}
use Rattle.messages.specs.declared.key.Kind.TheVariants.{Tile}
use Rattle.scan.specs.declared.Phase.{Phase}
use Rattle.scan.specs.declared.Phase.TheVariants.{Field, Key, Number, Lead, Skip, Packed}
use Rattle.scan.specs.declared.Next.{Next}
use Rattle.scan.specs.declared.Next.TheVariants.{On, Opens}
use Rattle.scan.specs.declared.Where.{Where}
use Rattle.scan.specs.declared.Where.TheVariants.{Outside, One, Two}
use Rattle.scan.specs.declared.State.{State}
use Rattle.scan.specs.declared.State.TheVariants.{Lost, At}
use Rattle.scan.specs.Automaton.{move, emptied, settled, opened, entered, turn}

module _ (w : Where) where
  pub empty_none : w ≡ Outside → At Outside Field ≡ emptied w
  empty_none e = rw e refl

  pub empty_one : (k : Kind) (n : ℕ) → w ≡ One k n → n ≡ 0 → At Outside Field ≡ emptied w
  empty_one k n e h = rw (e, h) refl

  pub some_one : (k : Kind) (n : ℕ) → w ≡ One k n → (n ≡ 0 → ⊥) → At (One k n) Field ≡ emptied w
  some_one k n e h = rw e (by n h)
    where
      by : (n : ℕ) → (n ≡ 0 → ⊥) → At (One k n) Field ≡ emptied (One k n)
      by zero h = absurd (h refl)
      by (suc n) h = refl

  module _ (k : Kind) (n : ℕ) (l : Kind) (m : ℕ) (e : w ≡ Two k n l m) where
    pub some_two : 0 < n → At (Two k n l m) Field ≡ emptied w
    some_two h = rw e (by n h)
      where
        by : (n : ℕ) → 0 < n → At (Two k n l m) Field ≡ emptied (Two k n l m)
        by zero h = absurd (omega (arith, h))
        by (suc n) h = refl

    pub empty_both : n ≤ 0 → m ≡ 0 → At Outside Field ≡ emptied w
    empty_both h g = let z : n ≡ 0 = omega (arith, h) in rw (e, z, g) refl

    pub empty_two : n ≤ 0 → (m ≡ 0 → ⊥) → At (One l m) Field ≡ emptied w
    empty_two h g = let z : n ≡ 0 = omega (arith, h) in rw (e, z) (by m g)
      where
        by : (m : ℕ) → (m ≡ 0 → ⊥) → At (One l m) Field ≡ emptied (Two k 0 l m)
        by zero g = absurd (g refl)
        by (suc m) g = refl

  pub settled_other : (p : Phase) → (p ≡ Field → ⊥) → At w p ≡ settled w p
  settled_other Field h = absurd (h refl)
  settled_other (Key i v) h = refl
  settled_other (Number i) h = refl
  settled_other (Lead b i v) h = refl
  settled_other (Skip n) h = refl
  settled_other (Packed n i) h = refl

  module _ (k : Kind) (m : ℕ) where
    pub open_none : (r : State) → w ≡ Outside → r ≡ emptied (One k m) → r ≡ opened w k m
    open_none r e h = rw e h

    pub open_unfit : (l : Kind) (n : ℕ) → w ≡ One l n → n < m → Lost ≡ opened w k m
    open_unfit l n e h = rw (e, lt-leb m n h) refl

    pub open_one : (l : Kind) (n : ℕ) (r : State) → w ≡ One l n → m ≤ n → r ≡ emptied (Two k m l (n - m)) → r ≡ opened w k m
    open_one l n r e h g = rw (e, le-leb m n h) g

  pub enter_on : (x : Next) (p : Phase) (r : State) → x ≡ On p → r ≡ settled w p → r ≡ entered w x
  enter_on x p r e h = rw e h

  pub enter_opens : (x : Next) (k : Kind) (m : ℕ) (r : State) → x ≡ Opens k m → r ≡ opened w k m → r ≡ entered w x
  enter_opens x k m r e h = rw e h

one_less : (n : ℕ) → suc n - 1 ≡ n
one_less n = omega arith

module _ (s : State) (b : ℕ) where
  module _ (w : Where) (p : Phase) (e : s ≡ At w p) where
    pub turn_none : (x : Next) (r : State) → w ≡ Outside → x ≡ move Tile p b → r ≡ entered Outside x → r ≡ turn s b
    turn_none x r f h g = rw (e, f) (rw h at g)

    module _ (k : Kind) (n : ℕ) where
      pub turn_one : (x : Next) (r : State) → w ≡ One k n → (n ≡ 0 → ⊥) → x ≡ move k p b → r ≡ entered (One k (n - 1)) x → r ≡ turn s b
      turn_one x r f z h g = rw (e, f) (by n z (rw h at g))
        where
          by : (n : ℕ) → (n ≡ 0 → ⊥) → r ≡ entered (One k (n - 1)) (move k p b) → r ≡ turn (At (One k n) p) b
          by zero z g = absurd (z refl)
          by (suc n) z g = rw (one_less n) at g

      module _ (l : Kind) (m : ℕ) where
        pub turn_shut_two : w ≡ Two k n l m → n ≡ 0 → Lost ≡ turn s b
        turn_shut_two f h = rw (e, f, h) refl

        pub turn_two : (x : Next) (r : State) → w ≡ Two k n l m → (n ≡ 0 → ⊥) → x ≡ move k p b → r ≡ entered (Two k (n - 1) l m) x → r ≡ turn s b
        turn_two x r f z h g = rw (e, f) (by n z (rw h at g))
          where
            by : (n : ℕ) → (n ≡ 0 → ⊥) → r ≡ entered (Two k (n - 1) l m) (move k p b) → r ≡ turn (At (Two k n l m) p) b
            by zero z g = absurd (z refl)
            by (suc n) z g = rw (one_less n) at g
