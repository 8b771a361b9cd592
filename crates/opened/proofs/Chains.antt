-- Bytes laid behind bytes, whatever they are: what every piece is made of; and bytes laid at the front of a text that has the room are shown there.
use mathlib.Core.Path.{◌≡◌, refl, ◌∙◌}
use mathlib.Core.List.{List, ◌++◌}
use Prim.Native.Nat.{ℕ, ◌+◌, ◌≤◌}
use native.Mathlib.Omega.{arith}
use borrow.Author.Tests.{le-leb}
use lib.ListN.{length, length-append}
use Rattle.promise.specs.Answers.{Gives}
use Rattle.promise.specs.Laid.{lay}
use Rattle.promise.proofs.Laying.{lay_next}
use Rattle.runs.specs.Fitting.{laid_in}
use Rattle.runs.proofs.Laws.{laid_fits}
use Rattle.printed.specs.Lending.{appended}
use Rattle.printed.specs.Printed.{shown}

pub laid : (bytes : List ℕ) (at : ℕ) (text l : List ℕ) → at + length bytes ≤ length text → l ≡ laid_in at bytes text → Gives (appended bytes at text) (at + length bytes) l
laid bytes at text l h e = record { answer = refl; memory = laid_fits at bytes text h l e }

pub then_laid : (one two text : List ℕ) (at : ℕ) {r q : ℕ} {l m : List ℕ} → at + length one ≤ length text
    → Gives (appended one at text) r l → Gives (appended two r l) q m → Gives (appended (one ++ two) at text) q m
then_laid one two text at h g k = record {
  answer = k.answer ∙ rw (g.answer, length-append one two) (omega arith);
  memory = k.memory ∙ rw (g.answer, g.memory) (lay_next at one two text h);
}

pub front : (room : ℕ) (bytes text : List ℕ) {r : ℕ} {l : List ℕ} → room ≤ length text → Gives (appended bytes 0 text) r l → Gives (shown room bytes text) r l
front room bytes text h g = rw (le-leb room (length text) h) (record { answer = g.answer ∙ omega arith; memory = g.memory })
