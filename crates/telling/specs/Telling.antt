-- An answer as C has it: a struct made of what the proved function says, with the lent memory as that function leaves it.
use Rattle.promise.specs.Answers.{Written}

unfoldable pub told : {A B M : Type 0} → (A → B) → Written A M → Written B M
told f w = record { answer = f w.answer; memory = w.memory }
