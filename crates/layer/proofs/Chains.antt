-- How a definition that is a chain of checks is taken apart by what the code's early returns tell: `search (needs, chain)`.
--     refused_by passed_by      a check that a function answered
--     none_open one_open        TURN, by cases on the open feature
use mathlib.Core.Path.{◌≡◌, refl}
use mathlib.Core.Bool.{Bool, true, false, not}
use borrow.Author.Tests.{not-true, not-false}
use Rattle.promise.specs.Answers.{Gives}
use Rattle.refusal.specs.declared.Refusal.{Refusal}
use Rattle.refusal.specs.Said.{Said}
use Rattle.refusal.specs.declared.Refusal.TheVariants.{Turn}
use Rattle.layer.specs.declared.Figures.{Figures}
use Rattle.std.specs.Prelude.{Option, Some, None, Err}
use Rattle.layer.specs.declared.Layer.{Layer}
use Rattle.layer.specs.Answers.{said_changed}
use Rattle.layer.specs.Held.{Memory, Change, check, when_open, written}

module _ (t b : Bool) (g : t ≡ b) (q : Refusal) (c : Change) (s : Layer) (m : Memory) where
  pub refused_by : not t ≡ true → Gives (written (check b q c) s m) (said_changed (Err (record { refusal = q; kept = s }))) m
  refused_by h = rw (← g, not-true t h) (record { answer = refl; memory = refl })

  pub passed_by : not t ≡ false → (r : Said Layer) (n : Memory) → Gives (written c s m) r n → Gives (written (check b q c) s m) r n
  passed_by h r n k = rw (← g, not-false t h) k

module _ (f : Option Figures) (go : Figures → Change) (s : Layer) (m : Memory) where
  pub none_open : f ≡ None → Gives (written (when_open f go) s m) (said_changed (Err (record { refusal = Turn; kept = s }))) m
  none_open e = rw e (record { answer = refl; memory = refl })

  pub one_open : (o : Figures) → f ≡ Some o → (r : Said Layer) (n : Memory) → Gives (written (go o) s m) r n → Gives (written (when_open f go) s m) r n
  one_open o e r n k = rw e k

pub ruleset chain = (refused_by, passed_by, none_open, one_open)
