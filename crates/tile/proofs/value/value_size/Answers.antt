-- Each kind's size is that of its field.
use native.Mathlib.Omega.{arith}
use mathlib.Core.Path.{refl}
use lib.ListN.{length}
use Rattle.wire.specs.declared.field.ValueKind.TheVariants.{Float, Double}
use Rattle.wire.specs.declared.field.Field.TheVariants.{Value}
use Rattle.promise.proofs.Fronts.{long_as}
use Rattle.wire.proofs.Schema.{head_one}
use Rattle.wire.proofs.Fields.{fixed32_field_long, fixed64_field_long}
use Rattle.whole.specs.Twos.{wide}
use Rattle.tile.proofs.Values.{text_inside, is_text, is_float, is_double, is_int, is_uint, is_sint, is_bool}
use Rattle.tile.proofs.value.value_size.Goals as goal

pub text_size-requires : goal.text_size-requires
text_size-requires c =
    text_inside (length c.args.texts.now) c.args.kind c.args.low c.args.high c.if-kind-eq-TEXT.true c.requires

pub returns-then-kind-eq-TEXT : goal.returns-then-kind-eq-TEXT
returns-then-kind-eq-TEXT c =
    long_as (is_text _ _ _ _ c.if-kind-eq-TEXT.true) c.text_size.ensures

pub overflow_add-result : goal.overflow_add-result
overflow_add-result c = omega (arith, c.head_size.ensures, head_one (Value Float))

pub returns-then-kind-eq-FLOAT : goal.returns-then-kind-eq-FLOAT
returns-then-kind-eq-FLOAT c =
    long_as (is_float _ _ _ _ c.if-kind-eq-FLOAT.true) (omega (arith, c.head_size.ensures, head_one (Value Float), fixed32_field_long (Value Float) c.args.low))

pub overflow_add-result-then-kind-eq-DOUBLE : goal.overflow_add-result-then-kind-eq-DOUBLE
overflow_add-result-then-kind-eq-DOUBLE c = omega (arith, c.head_size-then-kind-eq-DOUBLE.ensures, head_one (Value Double))

pub returns-then-kind-eq-DOUBLE : goal.returns-then-kind-eq-DOUBLE
returns-then-kind-eq-DOUBLE c =
    long_as (is_double _ _ c.args.low c.args.high (wide c.args.low c.args.high) refl c.if-kind-eq-DOUBLE.true) (omega (arith, c.head_size-then-kind-eq-DOUBLE.ensures, head_one (Value Double), fixed64_field_long (Value Double) (wide c.args.low c.args.high)))

pub returns-then-kind-eq-INT : goal.returns-then-kind-eq-INT
returns-then-kind-eq-INT c =
    long_as (is_int _ _ _ _ _ c.of_halves.ensures c.if-kind-eq-INT.true) c.varint_field_size.ensures

pub returns-then-kind-eq-UINT : goal.returns-then-kind-eq-UINT
returns-then-kind-eq-UINT c =
    long_as (is_uint _ _ _ _ _ c.of_halves-then-kind-eq-UINT.ensures c.if-kind-eq-UINT.true) c.varint_field_size-then-kind-eq-UINT.ensures

pub returns-then-kind-eq-SINT : goal.returns-then-kind-eq-SINT
returns-then-kind-eq-SINT c =
    long_as (is_sint _ _ _ _ _ c.of_halves-then-kind-eq-SINT.ensures c.if-kind-eq-SINT.true _ c.zigzag.ensures) c.varint_field_size-then-kind-eq-SINT.ensures

pub returns : goal.returns
returns c =
    long_as (is_bool _ _ _ _ c.if-kind-eq-TEXT.false c.if-kind-eq-FLOAT.false c.if-kind-eq-DOUBLE.false c.if-kind-eq-INT.false c.if-kind-eq-UINT.false c.if-kind-eq-SINT.false) c.varint_field_size-2.ensures
