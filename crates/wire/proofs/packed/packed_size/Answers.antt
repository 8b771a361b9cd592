-- No words are no field; others take their varints, and the size of these before them.
use native.Mathlib.Omega.{arith}
use borrow.Author.Tests.{eqb-true, eqb-false}
use mathlib.Core.Path.{sym, ap, ◌∙◌}
use lib.ListN.{length}
use Rattle.wire.proofs.Fields.{varint_field_short, packed_none, packed_long, varints_few}
use Rattle.wire.proofs.packed.packed_size.Goals as goal

pub returns-then-is_empty : goal.returns-then-is_empty
returns-then-is_empty c = sym (ap length (packed_none c.args.field c.args.words.now (eqb-true (length c.args.words.now) 0 (sym c.is_empty.ensures ∙ c.if-is_empty.true))))

pub overflow_add-result : goal.overflow_add-result
overflow_add-result c = omega (arith, c.varint_field_size.ensures, varint_field_short c.args.field c.varints_size-size.result, c.varints_size-size.ensures, varints_few c.args.words.now (λ i. omega (arith, c.shared_slice_known-1.given i)), c.well_formed.1.0.1)

pub returns : goal.returns
returns c = omega (arith, c.varint_field_size.ensures, packed_long c.args.field c.args.words.now (eqb-false (length c.args.words.now) 0 (sym c.is_empty.ensures ∙ c.if-is_empty.false)) c.varints_size-size.result c.varints_size-size.ensures)
