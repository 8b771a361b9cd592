-- No words are no field; too short a list is left alone; in any other the size is put, and the varints behind it.
use Prim.Native.Nat.{◌+◌, ◌-◌, ◌≤◌}
use mathlib.Core.Path.{◌≡◌, sym, ◌∙◌}
use mathlib.Core.List.{◌++◌}
use native.Mathlib.Omega.{arith}
use borrow.Author.Tests.{eqb-true, eqb-false}
use lib.ListN.{length}
use borrow.Rule.Slice.PartMut.{mid_of}
use Rattle.wire.specs.Fields.{varint_field, varints, packed_field}
use Rattle.promise.proofs.Fronts.{put_short, put_nothing, put_done, both_inside, both_room, both_sum, both_done}
use Rattle.wire.proofs.Fields.{varint_field_short, packed_none, packed_parts, packed_long, varints_few}
use Rattle.wire.proofs.packed.put_packed.Goals as goal
use Rattle.wire.proofs.packed.put_packed.Tie as tie
use Rattle.wire.proofs.packed.put_packed.Reads as reads
use Rattle.wire.proofs.packed.put_packed.Lts as lts

-- the places on the way that the lemmas below speak of
abbrev After-varint_field_size : Type 0
After-varint_field_size = lts.After-varint_field_size tie.the-claims reads.Pre reads.Post

abbrev After-slice_known-2-1 : Type 0
After-slice_known-2-1 = lts.After-slice_known2 tie.the-claims reads.Pre reads.Post

-- the size that was reckoned is the field's
size : (c : After-varint_field_size) → c.varint_field_size.result + c.varints_size-size.result ≡ length (packed_field c.args.field c.args.words.now)
size c = omega (arith, c.varint_field_size.ensures, packed_long c.args.field c.args.words.now (eqb-false (length c.args.words.now) 0 (sym c.is_empty.ensures ∙ c.if-is_empty.false)) c.varints_size-size.result c.varints_size-size.ensures)

-- where the size has been put: the field's two parts, room for both, and for the second behind the first
module _ (c : After-slice_known-2-1) where
  parts : packed_field c.args.field c.args.words.now ≡ varint_field c.args.field c.varints_size-size.result ++ varints c.args.words.now
  parts = packed_parts c.args.field c.args.words.now (eqb-false (length c.args.words.now) 0 (sym c.is_empty.ensures ∙ c.if-is_empty.false)) c.varints_size-size.result c.varints_size-size.ensures

  room : length (packed_field c.args.field c.args.words.now) ≤ length c.args.out.now
  room = omega (arith, size c.before.before.before.before.before)

  behind : length (varints c.args.words.now) ≤ length (mid_of c.put_varint_field-at.result (length c.put_varint_field-at.new.out - c.put_varint_field-at.result) c.put_varint_field-at.new.out)
  behind = both_room _ _ _ _ parts c.put_varint_field-at.ensures room

pub returns-then-is_empty : goal.returns-then-is_empty
returns-then-is_empty c = rw (packed_none c.args.field c.args.words.now (eqb-true (length c.args.words.now) 0 (sym c.is_empty.ensures ∙ c.if-is_empty.true))) (put_nothing _)

pub overflow_add-varint_field_size : goal.overflow_add-varint_field_size
overflow_add-varint_field_size c = omega (arith, c.varint_field_size.ensures, varint_field_short c.args.field c.varints_size-size.result, c.varints_size-size.ensures, varints_few c.args.words.now (λ i. omega (arith, c.shared_slice_known-1.given i)), c.well_formed.1.0.1)

pub returns-then-out-varint_field_size : goal.returns-then-out-varint_field_size
returns-then-out-varint_field_size c = put_short _ _ (omega (arith, size c.before.before))

pub slice_bounds-lay_varints-count : goal.slice_bounds-lay_varints-count
slice_bounds-lay_varints-count c = both_inside _ _ _ _ (parts c.before) c.put_varint_field-at.ensures (room c.before)

pub slice_bounds-lay_varints-start : goal.slice_bounds-lay_varints-start
slice_bounds-lay_varints-start c = both_inside _ _ _ _ (parts c.before) c.put_varint_field-at.ensures (room c.before)

pub lay_varints-count-requires : goal.lay_varints-count-requires
lay_varints-count-requires c = behind c.before.before

pub overflow_add-result : goal.overflow_add-result
overflow_add-result c =
    let e = both_sum _ _ _ _ (parts c.before.before.before.before.before) c.put_varint_field-at.ensures (room c.before.before.before.before.before) (put_done (behind c.before.before.before.before.before) c.lay_varints-count.ensures) in
    omega (arith, e, room c.before.before.before.before.before)

pub returns : goal.returns
returns c =
    both_done _ _ _ _ (parts c.before.before.before.before.before) c.put_varint_field-at.ensures (room c.before.before.before.before.before) (put_done (behind c.before.before.before.before.before) c.lay_varints-count.ensures)
