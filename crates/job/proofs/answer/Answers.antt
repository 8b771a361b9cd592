-- The parts' answers, one after the other, are those of the definition; what is shown of the last one is the text.
use mathlib.Core.Path.{sym}
use native.Mathlib.Omega.{arith}
use lib.Seq.{length-take-le}
use Rattle.number_file.proofs.Places.{read_within}
use Rattle.job_file.proofs.Taking.{file_within}
use Rattle.job.specs.Program.{printed}
use Rattle.job_file.specs.JobFile.{job_file}
use Rattle.printed.proofs.Jobs.{no_numbers, no_job, all_words}
use Rattle.job.proofs.answer.Goals as goal

pub slice_bounds-encode_file-end : goal.slice_bounds-encode_file-end
slice_bounds-encode_file-end c = omega (arith, read_within _ _ _ _ (rw c.in-Ok.is at c.read_numbers.ensures))

pub slice_bounds-encode_file-end-in-Ok : goal.slice_bounds-encode_file-end-in-Ok
slice_bounds-encode_file-end-in-Ok c = sym (length-take-le _ _ (omega (arith, read_within _ _ _ _ (rw c.in-Ok.is at c.read_numbers.ensures))))

pub slice_bounds-show_words-end : goal.slice_bounds-show_words-end
slice_bounds-show_words-end c = omega (arith, file_within _ _ _ (sym (rw c.in-Ok-encode_file.is at c.encode_file.ensures).answer))

pub slice_bounds-show_words-end-in-Ok-encode_file : goal.slice_bounds-show_words-end-in-Ok-encode_file
slice_bounds-show_words-end-in-Ok-encode_file c = sym (length-take-le _ _ (omega (arith, file_within _ _ _ (sym (rw c.in-Ok-encode_file.is at c.encode_file.ensures).answer))))

pub returns-in-Err : goal.returns-in-Err
unfolding printed
returns-in-Err c =
    no_numbers job_file _ _ c.args.text.now _ _ _ c.in-Err.r c.requires.in_bounds
    (rw c.in-Err.is at c.read_numbers.ensures) (rw c.number.ensures at c.show_refused.ensures)

pub returns-in-Err-encode_file : goal.returns-in-Err-encode_file
unfolding printed
returns-in-Err-encode_file c =
    no_job job_file _ _ c.args.text.now _ _ _ _ (rw c.in-Ok.is at c.read_numbers.ensures) _ c.in-Err-encode_file.e.refusal _ c.requires.in_bounds
    (rw c.in-Err-encode_file.is at c.encode_file.ensures) (rw c.number-in-Err-encode_file.ensures at c.show_refused-in-Err-encode_file.ensures)

pub returns-in-Ok-encode_file : goal.returns-in-Ok-encode_file
unfolding printed
returns-in-Ok-encode_file c =
    let h = file_within _ _ _ (sym (rw c.in-Ok-encode_file.is at c.encode_file.ensures).answer) in
    all_words job_file _ _ c.args.text.now _ _ _ _ (rw c.in-Ok.is at c.read_numbers.ensures) _ c.in-Ok-encode_file.used
    (omega (arith, h)) (omega arith) (rw c.in-Ok-encode_file.is at c.encode_file.ensures) c.show_words.ensures
