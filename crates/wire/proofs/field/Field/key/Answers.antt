-- A number of at most 15 and a wire type of at most 5: the key is far from wrapping.
use native.Mathlib.Omega.{arith}
use Rattle.wire.proofs.Schema.{small}
use Rattle.wire.proofs.field.Field.key.Goals as goal

pub overflow_mul-result : goal.overflow_mul-result
overflow_mul-result c = omega (arith, c.number-number.ensures, (small c.args.self).number)

pub overflow_add-result : goal.overflow_add-result
overflow_add-result c = omega (arith, c.number-number.ensures, c.wire_type-wire_type.ensures, (small c.args.self).number, (small c.args.self).type)
