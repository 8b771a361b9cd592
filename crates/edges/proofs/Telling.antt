-- What each way through `answer` tells, over plain lists: the text of the parts' answers, at the front of the lent text.
use mathlib.Core.Path.{◌≡◌}
use mathlib.Core.List.{List}
use Prim.Native.Nat.{ℕ, ◌+◌, ◌*◌, ◌≤◌}
use native.Mathlib.Nat.{min-le_left}
use native.Mathlib.Omega.{arith}
use lib.ListN.{length, take, length-take}
use lib.Seq.{length-take-le}
use Rattle.promise.specs.Answers.{Written, Gives}
use Rattle.refusal.specs.declared.Refusal.{Refusal}
use Rattle.refusal.specs.Refusals.{number_of}
use Rattle.refusal.specs.Said.{Said, accepted, refused}
use Rattle.refusal.proofs.Laws.{never_zero}
use Rattle.edge_job.specs.EdgeJobs.{Lists}
use Rattle.printed.specs.Printed.{Told, shown, refused_text, refused_room}
use Rattle.printed.specs.Pairs.{edges_text, edges_room}
use Rattle.printed.proofs.Columns.{refused_short, told}
use Rattle.printed.proofs.Pairs.{edges_short}
use Rattle.job_file.specs.JobFile.{point_count, job_file_edges}
use Rattle.job_file.proofs.Taking.{count_within}
use Rattle.edges.specs.Program.{file_text}

-- two edges for each point of a file are not more than its numbers
pub within : (k : ℕ) (nums : List ℕ) (points room : ℕ) → points ≡ point_count (take k nums) → k ≤ room → 2 * points ≤ room
within k nums points room e h = omega (arith, e, count_within (take k nums), length-take k nums, min-le_left k (length nums))

module _ (n : Written (Said ℕ) (List ℕ)) (m : Lists) (text : List ℕ) (r : ℕ) (l : List ℕ) (nums : List ℕ) where
  -- the numbers were refused
  pub no_numbers : (x : Refusal) → refused_room ≤ length text → Gives n (refused x 0) nums → Gives (shown refused_room (refused_text (number_of x) 0) text) r l → Told (file_text n m) r l
  no_numbers x h g k = rw (← g.answer, never_zero x) (told refused_room (refused_text (number_of x) 0) text r l h (refused_short (number_of x) 0) k)

  module _ (k : ℕ) (g : Gives n (accepted k) nums) (after : Lists) where
    -- the job was refused
    pub no_job : (x : Refusal) (p : ℕ) → refused_room ≤ length text → Gives (job_file_edges (take k nums) m) (refused x p) after
        → Gives (shown refused_room (refused_text (number_of x) p) text) r l → Told (file_text n m) r l
    no_job x p h j q =
        rw (← g.answer, ← g.memory, ← j.answer, ← j.memory, never_zero x) (told refused_room (refused_text (number_of x) p) text r l h (refused_short (number_of x) p) q)

    -- the job is accepted
    pub all_edges : (u points : ℕ) → points ≡ point_count (take k nums) → 2 * points ≤ length after.edges → 27 + 21 * length after.edges ≤ length text
        → Gives (job_file_edges (take k nums) m) (accepted u) after
        → Gives (shown (edges_room (take (2 * points) after.edges)) (edges_text (take (2 * points) after.edges)) text) r l → Told (file_text n m) r l
    all_edges u points c v h j q =
        let es : List ℕ = take (2 * points) after.edges in
        let h' : edges_room es ≤ length text = omega (arith, length-take-le (2 * points) after.edges v) in
        rw (← g.answer, ← g.memory, ← j.answer, ← j.memory, ← c) (told (edges_room es) (edges_text es) text r l h' (edges_short es) q)
