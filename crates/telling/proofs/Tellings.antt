-- What C is told follows from what the proved function said.
use mathlib.Core.Path.{◌≡◌, ◌∙◌, ap}
use Rattle.promise.specs.Answers.{Written, Gives}
use Rattle.telling.specs.Telling.{told}

pub told_gives : {A B M : Type 0} (f : A → B) (w : Written A M) (a : A) (b : B) (m : M) → Gives w a m → b ≡ f a → Gives (told f w) b m
unfolding told
told_gives f w a b m g e = record { answer = e ∙ ap f g.answer; memory = g.memory }
