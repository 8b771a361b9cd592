-- The parts' answers, one after the other, are those of the definition; what is shown of the last one is the text.
use mathlib.Core.Path.{sym}
use native.Mathlib.Omega.{arith}
use lib.ListN.{length}
use lib.Seq.{length-take-le}
use Rattle.number_file.proofs.Places.{read_within}
use Rattle.number_file.specs.Numbers.{said_numbers}
use Rattle.encoder.specs.Jobs.{said_encoded}
use Rattle.edge_job.specs.EdgeJobs.{lists}
use Rattle.edges.specs.Program.{printed}
use Rattle.promise.proofs.Cases.{found}
use Rattle.edges.proofs.Telling.{within, no_numbers, no_job, all_edges}
use Rattle.edges.proofs.answer.Goals as goal

pub slice_bounds-encode_file_edges-end : goal.slice_bounds-encode_file_edges-end
slice_bounds-encode_file_edges-end c = omega (arith, read_within _ _ _ _ (found said_numbers _ _ c.in-Ok.is c.read_numbers.ensures))

pub slice_bounds-encode_file_edges-end-in-Ok : goal.slice_bounds-encode_file_edges-end-in-Ok
slice_bounds-encode_file_edges-end-in-Ok c = sym (length-take-le _ _ (omega (arith, read_within _ _ _ _ (found said_numbers _ _ c.in-Ok.is c.read_numbers.ensures))))

pub slice_bounds-point_count-end : goal.slice_bounds-point_count-end
slice_bounds-point_count-end c = omega (arith, read_within _ _ _ _ (found said_numbers _ _ c.in-Ok.is c.read_numbers.ensures))

pub slice_bounds-point_count-end-in-Ok-encode_file_edges : goal.slice_bounds-point_count-end-in-Ok-encode_file_edges
slice_bounds-point_count-end-in-Ok-encode_file_edges c = sym (length-take-le _ _ (omega (arith, read_within _ _ _ _ (found said_numbers _ _ c.in-Ok.is c.read_numbers.ensures))))

pub overflow_mul-points : goal.overflow_mul-points
overflow_mul-points c = omega (arith, within c.in-Ok.n _ _ (length c.args.edges.now) c.point_count-points.ensures (omega (arith, read_within _ _ _ _ (found said_numbers _ _ c.in-Ok.is c.read_numbers.ensures))))

pub slice_bounds-show_edges-end : goal.slice_bounds-show_edges-end
slice_bounds-show_edges-end c = omega (arith, within c.in-Ok.n _ _ (length c.args.edges.now) c.point_count-points.ensures (omega (arith, read_within _ _ _ _ (found said_numbers _ _ c.in-Ok.is c.read_numbers.ensures))))

pub slice_bounds-show_edges-end-in-Ok-encode_file_edges : goal.slice_bounds-show_edges-end-in-Ok-encode_file_edges
slice_bounds-show_edges-end-in-Ok-encode_file_edges c = sym (length-take-le _ _ (omega (arith, within c.in-Ok.n _ _ (length c.args.edges.now) c.point_count-points.ensures (omega (arith, read_within _ _ _ _ (found said_numbers _ _ c.in-Ok.is c.read_numbers.ensures))))))

pub returns-in-Err : goal.returns-in-Err
unfolding printed
returns-in-Err c =
    no_numbers _ (lists c.args.words.now c.args.edges.now) c.args.text.now _ _ _ c.in-Err.r c.requires.in_bounds
    (found said_numbers _ _ c.in-Err.is c.read_numbers.ensures) (rw c.number.ensures at c.show_refused.ensures)

pub returns-in-Err-encode_file_edges : goal.returns-in-Err-encode_file_edges
unfolding printed
returns-in-Err-encode_file_edges c =
    no_job _ (lists c.args.words.now c.args.edges.now) c.args.text.now _ _ _ _ (found said_numbers _ _ c.in-Ok.is c.read_numbers.ensures) _ c.in-Err-encode_file_edges.e.refusal _ c.requires.in_bounds
    (found said_encoded _ _ c.in-Err-encode_file_edges.is c.encode_file_edges.ensures) (rw c.number-in-Err-encode_file_edges.ensures at c.show_refused-in-Err-encode_file_edges.ensures)

pub returns-in-Ok-encode_file_edges : goal.returns-in-Ok-encode_file_edges
unfolding printed
returns-in-Ok-encode_file_edges c =
    all_edges _ (lists c.args.words.now c.args.edges.now) c.args.text.now _ _ _ _ (found said_numbers _ _ c.in-Ok.is c.read_numbers.ensures) _ c.in-Ok-encode_file_edges.field-0 _ c.point_count-points.ensures
    (omega (arith, within c.in-Ok.n _ _ (length c.args.edges.now) c.point_count-points.ensures (omega (arith, read_within _ _ _ _ (found said_numbers _ _ c.in-Ok.is c.read_numbers.ensures))))) (omega arith) (found said_encoded _ _ c.in-Ok-encode_file_edges.is c.encode_file_edges.ensures) c.show_edges.ensures
