-- What each way through `answer` tells, over plain lists: the text of the parts' answers, at the front of the lent text.
use mathlib.Core.Path.{◌≡◌, sym}
use mathlib.Core.List.{List}
use Prim.Native.Nat.{ℕ, ◌+◌, ◌≤◌}
use lib.ListN.{length, take}
use Rattle.promise.specs.Answers.{Written, Gives}
use Rattle.promise.proofs.Cases.{found}
use Rattle.refusal.specs.declared.Refusal.{Refusal}
use Rattle.refusal.specs.Refusals.{number_of}
use Rattle.refusal.specs.Said.{Said, accepted, refused}
use Rattle.refusal.proofs.Laws.{never_zero}
use Rattle.encoder.specs.declared.GeomEncoder.{GeomEncoder}
use Rattle.refusal.specs.declared.Refused.{Refused}
use Rattle.std.specs.Prelude.{Result, Ok, Err}
use Rattle.printed.specs.Printed.{Told, shown, refused_text, refused_room}
use Rattle.printed.specs.Losses.{losses_room}
use Rattle.printed.proofs.Columns.{refused_short, told}
use Rattle.printed.proofs.Lines.{losses_short}
use Rattle.job_file.specs.JobFile.{job_file_finished, file_end}
use Rattle.job_file.proofs.Taking.{file_balanced}
use Rattle.losses.specs.Program.{vertices_of, tally_text, file_text}

-- an accepted file's state: no more points are lost than were given
pub balanced : (file words l : List ℕ) (r : Result GeomEncoder (Refused ℕ)) (s : GeomEncoder) → r ≡ Ok s → Gives (job_file_finished file words) (file_end file r) l
    → s.tally.skipped + s.tally.taken_out ≤ s.tally.taken + s.tally.boundary
balanced file words l r s e g = file_balanced file words _ s (sym (found (file_end file) r (Ok s) e g).answer)

module _ (n : Written (Said ℕ) (List ℕ)) (words text : List ℕ) (r : ℕ) (l : List ℕ) (nums : List ℕ) where
  -- the numbers were refused
  pub no_numbers : (x : Refusal) → refused_room ≤ length text → Gives n (refused x 0) nums → Gives (shown refused_room (refused_text (number_of x) 0) text) r l → Told (file_text n words) r l
  no_numbers x h g k = rw (← g.answer, never_zero x) (told refused_room (refused_text (number_of x) 0) text r l h (refused_short (number_of x) 0) k)

  module _ (k : ℕ) (g : Gives n (accepted k) nums) (m : List ℕ) where
    -- the job was refused
    pub no_job : (f : Result GeomEncoder (Refused ℕ)) (x : Refused ℕ) → f ≡ Err x → refused_room ≤ length text → Gives (job_file_finished (take k nums) words) (file_end (take k nums) f) m
        → Gives (shown refused_room (refused_text (number_of x.refusal) x.kept) text) r l → Told (file_text n words) r l
    no_job f x e h j q =
        let o = found (file_end (take k nums)) f (Err x) e j in
        rw (← g.answer, ← g.memory, ← o.answer) (told refused_room (refused_text (number_of x.refusal) x.kept) text r l h (refused_short (number_of x.refusal) x.kept) q)

    -- the job is accepted
    pub all_lines : (f : Result GeomEncoder (Refused ℕ)) (s : GeomEncoder) → f ≡ Ok s → losses_room ≤ length text → Gives (job_file_finished (take k nums) words) (file_end (take k nums) f) m
        → Gives (shown losses_room (tally_text s.tally) text) r l → Told (file_text n words) r l
    all_lines f s e h j q =
        let t = s.tally in
        let o = found (file_end (take k nums)) f (Ok s) e j in
        rw (← g.answer, ← g.memory, ← o.answer)
        (told losses_room (tally_text t) text r l h (losses_short t.taken t.boundary t.skipped t.taken_out (vertices_of t)) q)
