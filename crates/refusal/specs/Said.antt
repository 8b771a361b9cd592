-- What an answer says in document 01's own terms, whatever enum carries it: the refusal's number and place, both zero where the call is accepted, and the
-- values. For each answer enum a definition `said…` gives these case by case, and the promises are about them.
use Rattle.std.specs.Prelude.{ℕ}
use Rattle.refusal.specs.declared.Refusal.{Refusal}
use Rattle.refusal.specs.declared.Fault.{Fault}
use Rattle.refusal.specs.Refusals.{number_of}

pub record Said (X : Type 0) : Type 0 where
  pub number : ℕ
  pub place : ℕ
  pub values : X

abbrev pub accepted : {X : Type 0} → X → Said X
accepted v = record { number = 0; place = 0; values = v }

-- a refusal where it was met, and one that has no place
abbrev pub placed : Refusal → ℕ → Fault
placed r at = record { refusal = r; place = at }

abbrev pub plain : Refusal → Fault
plain r = placed r 0

-- "A refusal returns its number, count zero and the given state": v is these
abbrev pub refused_at : {X : Type 0} → Fault → X → Said X
refused_at f v = record { number = number_of f.refusal; place = f.place; values = v }

abbrev pub refused : {X : Type 0} → Refusal → X → Said X
refused r v = refused_at (plain r) v
