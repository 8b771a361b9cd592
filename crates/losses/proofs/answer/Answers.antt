-- The parts' answers, one after the other, are those of the definition; what is shown of the last one is the text.
use mathlib.Core.Path.{sym}
use native.Mathlib.Omega.{arith}
use lib.Seq.{length-take-le}
use Rattle.number_file.proofs.Places.{read_within}
use Rattle.number_file.specs.Numbers.{said_numbers}
use Rattle.losses.specs.Program.{printed}
use Rattle.promise.proofs.Cases.{found}
use Rattle.losses.proofs.Telling.{balanced, no_numbers, no_job, all_lines}
use Rattle.losses.proofs.answer.Goals as goal

pub slice_bounds-finish_file-end : goal.slice_bounds-finish_file-end
slice_bounds-finish_file-end c = omega (arith, read_within _ _ _ _ (found said_numbers _ _ c.in-Ok.is c.read_numbers.ensures))

pub slice_bounds-finish_file-end-in-Ok : goal.slice_bounds-finish_file-end-in-Ok
slice_bounds-finish_file-end-in-Ok c = sym (length-take-le _ _ (omega (arith, read_within _ _ _ _ (found said_numbers _ _ c.in-Ok.is c.read_numbers.ensures))))

pub show_tally-requires : goal.show_tally-requires
show_tally-requires c = balanced _ _ _ _ _ c.in-Ok-finish_file.is c.finish_file.ensures

pub returns-in-Err : goal.returns-in-Err
unfolding printed
returns-in-Err c =
    no_numbers _ c.args.words.now c.args.text.now _ _ _ c.in-Err.r (omega (arith, c.requires))
    (found said_numbers _ _ c.in-Err.is c.read_numbers.ensures) (rw c.number.ensures at c.show_refused.ensures)

pub returns-in-Err-finish_file : goal.returns-in-Err-finish_file
unfolding printed
returns-in-Err-finish_file c =
    no_job _ c.args.words.now c.args.text.now _ _ _ _ (found said_numbers _ _ c.in-Ok.is c.read_numbers.ensures) _
    c.finish_file.result c.in-Err-finish_file.e c.in-Err-finish_file.is (omega (arith, c.requires)) c.finish_file.ensures (rw c.number-in-Err-finish_file.ensures at c.show_refused-in-Err-finish_file.ensures)

pub returns-in-Ok-finish_file : goal.returns-in-Ok-finish_file
unfolding printed
returns-in-Ok-finish_file c =
    all_lines _ c.args.words.now c.args.text.now _ _ _ _ (found said_numbers _ _ c.in-Ok.is c.read_numbers.ensures) _
    c.finish_file.result c.in-Ok-finish_file.s c.in-Ok-finish_file.is c.requires c.finish_file.ensures c.show_tally.ensures
