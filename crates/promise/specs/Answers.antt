-- What a call owes (document 01, "What each call owes"): its whole answer and every element of the memory lent to it.
-- M is the lent memory: `List ℕ` or `List ℤ` for one list, a record of lists for several.
use Rattle.std.specs.Prelude.{◌≡◌}

-- an answer, and the lent memory after the call
pub record Written (A M : Type 0) : Type 0 where
  pub answer : A
  pub memory : M

-- the answer r and the memory m are those of w
pub record Gives {A M : Type 0} (w : Written A M) (r : A) (m : M) : Type 0 where
  pub answer : r ≡ w.answer
  pub memory : m ≡ w.memory

-- an answer that leaves the memory as it was: what each refusal is
abbrev pub kept : {A M : Type 0} → A → M → Written A M
kept a m = record { answer = a; memory = m }
