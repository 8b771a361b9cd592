-- The parts' answers, one after the other, are those of the definition; what is shown of the last one is the text.
use mathlib.Core.Path.{sym}
use native.Mathlib.Omega.{arith}
use lib.Seq.{length-take-le}
use Rattle.number_file.proofs.Places.{read_within}
use Rattle.job_file.proofs.Surveying.{survey_within}
use Rattle.survey.specs.Program.{printed}
use Rattle.job_file.specs.SurveyFile.{survey_file}
use Rattle.printed.proofs.Jobs.{no_numbers, no_job, all_words}
use Rattle.survey.proofs.answer.Goals as goal

pub slice_bounds-encode_survey-end : goal.slice_bounds-encode_survey-end
slice_bounds-encode_survey-end c = omega (arith, read_within _ _ _ _ (rw c.in-Ok.is at c.read_numbers.ensures))

pub slice_bounds-encode_survey-end-in-Ok : goal.slice_bounds-encode_survey-end-in-Ok
slice_bounds-encode_survey-end-in-Ok c = sym (length-take-le _ _ (omega (arith, read_within _ _ _ _ (rw c.in-Ok.is at c.read_numbers.ensures))))

pub slice_bounds-show_words-end : goal.slice_bounds-show_words-end
slice_bounds-show_words-end c = omega (arith, survey_within _ _ _ (sym (rw c.in-Ok-encode_survey.is at c.encode_survey.ensures).answer))

pub slice_bounds-show_words-end-in-Ok-encode_survey : goal.slice_bounds-show_words-end-in-Ok-encode_survey
slice_bounds-show_words-end-in-Ok-encode_survey c = sym (length-take-le _ _ (omega (arith, survey_within _ _ _ (sym (rw c.in-Ok-encode_survey.is at c.encode_survey.ensures).answer))))

pub returns-in-Err : goal.returns-in-Err
unfolding printed
returns-in-Err c =
    no_numbers survey_file _ _ c.args.text.now _ _ _ c.in-Err.r c.requires.in_bounds
    (rw c.in-Err.is at c.read_numbers.ensures) (rw c.number.ensures at c.show_refused.ensures)

pub returns-in-Err-encode_survey : goal.returns-in-Err-encode_survey
unfolding printed
returns-in-Err-encode_survey c =
    no_job survey_file _ _ c.args.text.now _ _ _ _ (rw c.in-Ok.is at c.read_numbers.ensures) _ c.in-Err-encode_survey.e.refusal _ c.requires.in_bounds
    (rw c.in-Err-encode_survey.is at c.encode_survey.ensures) (rw c.number-in-Err-encode_survey.ensures at c.show_refused-in-Err-encode_survey.ensures)

pub returns-in-Ok-encode_survey : goal.returns-in-Ok-encode_survey
unfolding printed
returns-in-Ok-encode_survey c =
    let h = survey_within _ _ _ (sym (rw c.in-Ok-encode_survey.is at c.encode_survey.ensures).answer) in
    all_words survey_file _ _ c.args.text.now _ _ _ _ (rw c.in-Ok.is at c.read_numbers.ensures) _ c.in-Ok-encode_survey.used
    (omega (arith, h)) (omega arith) (rw c.in-Ok-encode_survey.is at c.encode_survey.ensures) c.show_words.ensures
