-- A promise leaves one answer and one memory: two that meet the same promise are equal. Said once, for every call.
use mathlib.Core.Path.{◌≡◌, sym, ◌∙◌}
use Rattle.promise.specs.Answers.{Written, Gives}

module _ {A M : Type 0} {w : Written A M} {r r' : A} {m m' : M} (g : Gives w r m) (g' : Gives w r' m') where
  pub one_answer : r ≡ r'
  one_answer = g.answer ∙ sym g'.answer

  pub one_memory : m ≡ m'
  one_memory = g.memory ∙ sym g'.memory
