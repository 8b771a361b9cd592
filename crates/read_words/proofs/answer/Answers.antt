-- The parts' answers, one after the other, are those of the definition; what is shown of the last one is the text.
use mathlib.Core.Path.{sym}
use native.Mathlib.Omega.{arith}
use lib.Seq.{length-take-le}
use Rattle.number_file.proofs.Places.{read_within}
use Rattle.number_file.specs.Numbers.{said_numbers}
use Rattle.decoder.specs.ReadingWords.{said_reading}
use Rattle.read_words.specs.Program.{printed}
use Rattle.promise.proofs.Cases.{found}
use Rattle.read_words.proofs.Telling.{read_room, no_numbers, no_reading, all_vertices}
use Rattle.read_words.proofs.answer.Goals as goal

pub slice_bounds-decode-end : goal.slice_bounds-decode-end
slice_bounds-decode-end c = omega (arith, read_within _ _ _ _ (found said_numbers _ _ c.in-Ok.is c.read_numbers.ensures))

pub slice_bounds-decode-end-in-Ok : goal.slice_bounds-decode-end-in-Ok
slice_bounds-decode-end-in-Ok c = sym (length-take-le _ _ (omega (arith, read_within _ _ _ _ (found said_numbers _ _ c.in-Ok.is c.read_numbers.ensures))))

pub overflow_mul-vertices : goal.overflow_mul-vertices
overflow_mul-vertices c = omega (arith, read_room _ _ _ _ (found said_reading _ _ c.in-Ok-decode.is c.decode.ensures))

pub slice_bounds-show_vertices-end : goal.slice_bounds-show_vertices-end
slice_bounds-show_vertices-end c = omega (arith, read_room _ _ _ _ (found said_reading _ _ c.in-Ok-decode.is c.decode.ensures))

pub slice_bounds-show_vertices-end-in-Ok-decode : goal.slice_bounds-show_vertices-end-in-Ok-decode
slice_bounds-show_vertices-end-in-Ok-decode c = sym (length-take-le _ _ (omega (arith, read_room _ _ _ _ (found said_reading _ _ c.in-Ok-decode.is c.decode.ensures))))

pub returns-in-Err : goal.returns-in-Err
unfolding printed
returns-in-Err c =
    no_numbers _ c.args.out.now c.args.text.now _ _ _ c.in-Err.r (omega (arith, c.requires))
    (found said_numbers _ _ c.in-Err.is c.read_numbers.ensures) (rw c.number.ensures at c.show_fault.ensures)

pub returns-in-Err-decode : goal.returns-in-Err-decode
unfolding printed
returns-in-Err-decode c =
    no_reading _ c.args.out.now c.args.text.now _ _ _ _ (found said_numbers _ _ c.in-Ok.is c.read_numbers.ensures) _
    c.in-Err-decode.f (omega (arith, c.requires)) (found said_reading _ _ c.in-Err-decode.is c.decode.ensures) (rw c.number-in-Err-decode.ensures at c.show_fault-in-Err-decode.ensures)

pub returns-in-Ok-decode : goal.returns-in-Ok-decode
unfolding printed
returns-in-Ok-decode c =
    all_vertices _ c.args.out.now c.args.text.now _ _ _ _ (found said_numbers _ _ c.in-Ok.is c.read_numbers.ensures) _
    c.in-Ok-decode.vertices (omega (arith, c.requires)) (found said_reading _ _ c.in-Ok-decode.is c.decode.ensures)
    c.show_vertices.ensures.shows (omega (arith, c.show_vertices.ensures.inside))
