-- A command's word: never refused where its count fits beside the id.
--     one_word_of what is laid tells the word: two answers with the same `word_of` are the same
use Rattle.std.specs.Prelude.{Option, Some, None, Result, Ok, Err}
use Rattle.std.specs.Result.{result_unwrap_or}
use mathlib.Core.Path.{◌≡◌, refl, sym, ◌∙◌, ap}
use mathlib.Core.List.{List}
use Prim.Native.Nat.{ℕ, ◌≤◌}
use native.Mathlib.Omega.{arith}
use borrow.Author.Tests.{le-leb}
use lib.ListN.{length, get_or}
use Rattle.refusal.specs.declared.Refusal.{Refusal}
use Rattle.refusal.specs.Said.{Said, accepted}
use Rattle.refusal.proofs.Laws.{never_both}
use Rattle.words.specs.Commands.{command_word, max_count, encoded, said_word}
use Rattle.encoder.specs.Pushed.{word_of}

-- the word that an answer has, 0 where it would be refused
pub word_is : (id n : ℕ) → n ≤ max_count → (r : Result ℕ Refusal) → said_word r ≡ encoded id n → result_unwrap_or r 0 ≡ command_word id n
word_is id n h r e = by r (e ∙ rw (le-leb n max_count h))
  where
    by : (r : Result ℕ Refusal) → said_word r ≡ accepted (command_word id n) → result_unwrap_or r 0 ≡ command_word id n
    by (Ok w) f = ap (λ (s : Said ℕ). s.values) f
    by (Err k) f = absurd (never_both k (sym f))

-- ---- one answer for what is laid
pub one_word_of : (v w : Option ℕ) → word_of v ≡ word_of w → v ≡ w
one_word_of None None e = refl
one_word_of None (Some n) e = absurd (let z : ◌≡◌ {A = ℕ} 0 1 = ap length e in omega arith)
one_word_of (Some m) None e = absurd (let z : ◌≡◌ {A = ℕ} 1 0 = ap length e in omega arith)
one_word_of (Some m) (Some n) e = let z : m ≡ n = ap (λ (l : List ℕ). get_or l 0 0) e in ap Some z
