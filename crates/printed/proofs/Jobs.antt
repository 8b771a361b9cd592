-- What each way through the `answer` of a program that takes a whole job tells, over plain lists: the text of the parts' answers, at the front of the lent text.
use mathlib.Core.List.{List}
use Prim.Native.Nat.{ℕ, ◌+◌, ◌*◌, ◌≤◌}
use native.Mathlib.Omega.{arith}
use lib.ListN.{length, take}
use lib.Seq.{length-take-le}
use Rattle.promise.specs.Answers.{Written, Gives}
use Rattle.refusal.specs.declared.Refusal.{Refusal}
use Rattle.refusal.specs.Refusals.{number_of}
use Rattle.refusal.specs.Said.{Said, accepted, refused}
use Rattle.refusal.proofs.Laws.{never_zero}
use Rattle.printed.specs.Printed.{Told, shown, words_text, words_room, refused_text, refused_room}
use Rattle.printed.proofs.Columns.{words_short, refused_short, told}
use Rattle.printed.specs.Jobs.{file_text}

module _ (taken : List ℕ → List ℕ → Written (Said ℕ) (List ℕ)) (n : Written (Said ℕ) (List ℕ)) (words text : List ℕ) (r : ℕ) (l : List ℕ) (nums : List ℕ) where
  -- the numbers were refused
  pub no_numbers : (x : Refusal) → refused_room ≤ length text → Gives n (refused x 0) nums → Gives (shown refused_room (refused_text (number_of x) 0) text) r l → Told (file_text taken n words) r l
  no_numbers x h g k = rw (← g.answer, never_zero x) (told refused_room (refused_text (number_of x) 0) text r l h (refused_short (number_of x) 0) k)

  module _ (k : ℕ) (g : Gives n (accepted k) nums) (m : List ℕ) where
    -- the job was refused
    pub no_job : (x : Refusal) (p : ℕ) → refused_room ≤ length text → Gives (taken (take k nums) words) (refused x p) m
        → Gives (shown refused_room (refused_text (number_of x) p) text) r l → Told (file_text taken n words) r l
    no_job x p h j q =
        rw (← g.answer, ← g.memory, ← j.answer, ← j.memory, never_zero x) (told refused_room (refused_text (number_of x) p) text r l h (refused_short (number_of x) p) q)

    -- the job has words
    pub all_words : (u : ℕ) → u ≤ length m → 27 + 21 * length m ≤ length text → Gives (taken (take k nums) words) (accepted u) m
        → Gives (shown (words_room (take u m)) (words_text (take u m)) text) r l → Told (file_text taken n words) r l
    all_words u v h j q =
        let h' : words_room (take u m) ≤ length text = omega (arith, length-take-le u m v) in
        rw (← g.answer, ← g.memory, ← j.answer, ← j.memory) (told (words_room (take u m)) (words_text (take u m)) text r l h' (words_short (take u m)) q)
