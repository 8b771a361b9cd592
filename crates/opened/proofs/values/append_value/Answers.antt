-- The tests are the definition's, one kind after the other.
use Rattle.opened.proofs.ByKind.{is_float, is_double, is_int, is_uint, is_sint, is_bool, is_empty}
use Rattle.opened.proofs.values.append_value.Goals as goal

pub returns-then-kind-eq-FLOAT : goal.returns-then-kind-eq-FLOAT
returns-then-kind-eq-FLOAT c =
    rw (is_float c.args.kind c.args.bits c.if-kind-eq-FLOAT.true) c.append_hex.ensures

pub returns-then-kind-eq-DOUBLE : goal.returns-then-kind-eq-DOUBLE
returns-then-kind-eq-DOUBLE c =
    rw (is_double c.args.kind c.args.bits c.if-kind-eq-FLOAT.false c.if-kind-eq-DOUBLE.true) c.append_hex-then-kind-eq-DOUBLE.ensures

pub returns-then-kind-eq-INT : goal.returns-then-kind-eq-INT
returns-then-kind-eq-INT c =
    rw (is_int c.args.kind c.args.bits c.if-kind-eq-FLOAT.false c.if-kind-eq-DOUBLE.false c.if-kind-eq-INT.true) c.append_signed.ensures

pub returns-then-kind-eq-UINT : goal.returns-then-kind-eq-UINT
returns-then-kind-eq-UINT c =
    rw (is_uint c.args.kind c.args.bits c.if-kind-eq-FLOAT.false c.if-kind-eq-DOUBLE.false c.if-kind-eq-INT.false c.if-kind-eq-UINT.true) c.append_named.ensures

pub returns-then-kind-eq-SINT : goal.returns-then-kind-eq-SINT
returns-then-kind-eq-SINT c =
    rw (is_sint c.args.kind c.args.bits c.if-kind-eq-FLOAT.false c.if-kind-eq-DOUBLE.false c.if-kind-eq-INT.false c.if-kind-eq-UINT.false c.if-kind-eq-SINT.true) c.append_signed-then-kind-eq-SINT.ensures

pub returns-then-kind-eq-BOOL : goal.returns-then-kind-eq-BOOL
returns-then-kind-eq-BOOL c =
    rw (is_bool c.args.kind c.args.bits c.if-kind-eq-FLOAT.false c.if-kind-eq-DOUBLE.false c.if-kind-eq-INT.false c.if-kind-eq-UINT.false c.if-kind-eq-SINT.false c.if-kind-eq-BOOL.true) c.append_bool.ensures

pub returns : goal.returns
returns c =
    rw (is_empty c.args.kind c.args.bits c.if-kind-eq-FLOAT.false c.if-kind-eq-DOUBLE.false c.if-kind-eq-INT.false c.if-kind-eq-UINT.false c.if-kind-eq-SINT.false c.if-kind-eq-BOOL.false) c.append.ensures
