-- A definition that goes by a test on whole numbers is taken apart by the test's two cases, and a fact makes its test true.
--     by_lt by_le           what holds in both cases holds of the whole
--     le_is lt_is           a fact makes its test true
--     lt_not                and the opposite one makes it false
--     le_not                a test is the opposite of the other one, turned
use mathlib.Core.Path.{◌≡◌, refl}
use mathlib.Core.Bool.{Bool, true, false, cond, not}
use lib.IntN.{ℤ}
use lib.Signed.{◌≤ℤ◌, ◌<ℤ◌, lt_z, le_z}
use Rattle.whole.proofs.Parts.{zarith}
use Rattle.whole.proofs.Machine.{lt_yes, lt_no, le_yes, le_no}

pub by_lt : {A : Type 0} (P : A → Type 0) (x y : ℤ) (p q : A) → (x <ℤ y → P p) → (y ≤ℤ x → P q) → P (cond (lt_z x y) p q)
by_lt P x y p q f g = go (lt_z x y) refl
  where
    go : (t : Bool) → lt_z x y ≡ t → P (cond t p q)
    go true e = f (lt_yes e)
    go false e = g (lt_no e)

pub by_le : {A : Type 0} (P : A → Type 0) (x y : ℤ) (p q : A) → (x ≤ℤ y → P p) → (y <ℤ x → P q) → P (cond (le_z x y) p q)
by_le P x y p q f g = go (le_z x y) refl
  where
    go : (t : Bool) → le_z x y ≡ t → P (cond t p q)
    go true e = f (le_yes e)
    go false e = g (le_no e)

pub le_is : {x y : ℤ} → x ≤ℤ y → le_z x y ≡ true
le_is {x} {y} h = go (le_z x y) refl
  where
    go : (t : Bool) → le_z x y ≡ t → le_z x y ≡ true
    go true e = e
    go false e = absurd (let k : y <ℤ x = le_no e in omega zarith)

pub lt_is : {x y : ℤ} → x <ℤ y → lt_z x y ≡ true
lt_is {x} {y} h = go (lt_z x y) refl
  where
    go : (t : Bool) → lt_z x y ≡ t → lt_z x y ≡ true
    go true e = e
    go false e = absurd (let k : y ≤ℤ x = lt_no e in omega zarith)

pub lt_not : {x y : ℤ} → y ≤ℤ x → lt_z x y ≡ false
lt_not {x} {y} h = go (lt_z x y) refl
  where
    go : (t : Bool) → lt_z x y ≡ t → lt_z x y ≡ false
    go true e = absurd (let k : x <ℤ y = lt_yes e in omega zarith)
    go false e = e

pub le_not : (x y : ℤ) → le_z x y ≡ not (lt_z y x)
le_not x y = go (le_z x y) (lt_z y x) refl refl
  where
    go : (s t : Bool) → le_z x y ≡ s → lt_z y x ≡ t → s ≡ not t
    go true true e f = absurd (let h : x ≤ℤ y = le_yes e in let k : y <ℤ x = lt_yes f in omega zarith)
    go true false e f = refl
    go false true e f = refl
    go false false e f = absurd (let h : y <ℤ x = le_no e in let k : x ≤ℤ y = lt_no f in omega zarith)
