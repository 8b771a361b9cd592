-- Laws by which a definition that goes by tests is taken apart by what the code's branches tell.
--     search (needs, tests)    rewrites tests on natural numbers, at any depth
--     search (needs, cases)    also goes backwards through tests on flags and on what calls answered, some four deep
use mathlib.Core.Path.{◌≡◌, refl, sym, ◌∙◌}
use mathlib.Core.Bool.{Bool, true, false, cond}
use borrow.Author.Tests.{lt-ltb, le-ltb, le-leb, lt-leb, eq-eqb, ne_eqb, not-true, not-false}
use Rattle.promise.specs.Answers.{Written, Gives, kept}

-- a value by its test
module _ {X : Type 0} (b : Bool) (v x y : X) where
  pub is_yes : b ≡ true → v ≡ x → v ≡ cond b x y
  is_yes h e = rw h e

  pub is_no : b ≡ false → v ≡ y → v ≡ cond b x y
  is_no h e = rw h e

-- an answer and a memory by their test
module _ {A M : Type 0} (b : Bool) (v w : Written A M) (r : A) (m : M) where
  pub gives_yes : b ≡ true → Gives v r m → Gives (cond b v w) r m
  gives_yes h g = rw h g

  pub gives_no : b ≡ false → Gives w r m → Gives (cond b v w) r m
  gives_no h g = rw h g

pub gives_kept : {A M : Type 0} (a : A) (m : M) → Gives (kept a m) a m
gives_kept a m = record { answer = refl; memory = refl }

-- what a call that answers a test tells
module _ (t b : Bool) (e : t ≡ b) where
  pub told_yes : t ≡ true → b ≡ true
  told_yes h = sym e ∙ h

  pub told_no : t ≡ false → b ≡ false
  told_no h = sym e ∙ h

pub ruleset tests = (lt-ltb, le-ltb, le-leb, lt-leb, eq-eqb, ne_eqb)

pub ruleset cases = (is_yes, is_no, gives_yes, gives_no, gives_kept, tests, not-true, not-false, told_yes, told_no)

-- an answer by what it was found to be
pub found : {R A M : Type 0} (f : R → A) {w : Written A M} {m : M} (r x : R) → r ≡ x → Gives w (f r) m → Gives w (f x) m
found f r x e g = rw e at g
