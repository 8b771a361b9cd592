-- Each kind puts its field.
use Rattle.promise.proofs.Fronts.{put_as}
use Rattle.tile.proofs.Values.{text_inside, is_text, is_float, is_double, is_int, is_uint, is_sint, is_bool}
use lib.ListN.{length}
use Rattle.tile.proofs.value.put_value.Goals as goal

pub put_text-requires : goal.put_text-requires
put_text-requires c =
    record { good = text_inside (length c.args.texts.now) c.args.kind c.args.low c.args.high c.if-kind-eq-TEXT.true c.requires.good; room = rw (is_text _ _ _ _ c.if-kind-eq-TEXT.true) at c.requires.room }

pub returns-then-kind-eq-TEXT : goal.returns-then-kind-eq-TEXT
returns-then-kind-eq-TEXT c =
    put_as _ (is_text _ _ _ _ c.if-kind-eq-TEXT.true) c.put_text.ensures

pub returns-then-kind-eq-FLOAT : goal.returns-then-kind-eq-FLOAT
returns-then-kind-eq-FLOAT c =
    put_as _ (is_float _ _ _ _ c.if-kind-eq-FLOAT.true) c.put_fixed32.ensures

pub returns-then-kind-eq-DOUBLE : goal.returns-then-kind-eq-DOUBLE
returns-then-kind-eq-DOUBLE c =
    put_as _ (is_double _ _ _ _ _ c.of_halves.ensures c.if-kind-eq-DOUBLE.true) c.put_fixed64.ensures

pub returns-then-kind-eq-INT : goal.returns-then-kind-eq-INT
returns-then-kind-eq-INT c =
    put_as _ (is_int _ _ _ _ _ c.of_halves-then-kind-eq-INT.ensures c.if-kind-eq-INT.true) c.put_varint_field.ensures

pub returns-then-kind-eq-UINT : goal.returns-then-kind-eq-UINT
returns-then-kind-eq-UINT c =
    put_as _ (is_uint _ _ _ _ _ c.of_halves-then-kind-eq-UINT.ensures c.if-kind-eq-UINT.true) c.put_varint_field-then-kind-eq-UINT.ensures

pub returns-then-kind-eq-SINT : goal.returns-then-kind-eq-SINT
returns-then-kind-eq-SINT c =
    put_as _ (is_sint _ _ _ _ _ c.of_halves-then-kind-eq-SINT.ensures c.if-kind-eq-SINT.true _ c.zigzag.ensures) c.put_varint_field-then-kind-eq-SINT.ensures

pub returns : goal.returns
returns c =
    put_as _ (is_bool _ _ _ _ c.if-kind-eq-TEXT.false c.if-kind-eq-FLOAT.false c.if-kind-eq-DOUBLE.false c.if-kind-eq-INT.false c.if-kind-eq-UINT.false c.if-kind-eq-SINT.false) c.put_varint_field-2.ensures
