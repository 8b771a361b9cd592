-- Laws of MVT's fields: numbers and wire types are small, so every head is one byte.
use Prim.Native.Nat.{◌≤◌, ◌<◌}
use mathlib.Core.Path.{◌≡◌, ap}
use native.Mathlib.Omega.{arith}
use lib.ListN.{length}
use Rattle.wire.specs.declared.field.ValueKind.TheVariants.{Text, Float, Double, Int, Uint, Sint, Bool}
use Rattle.wire.specs.declared.field.Field.{Field}
use Rattle.wire.specs.declared.field.Field.TheVariants.{TileLayer, LayerName, LayerFeature, LayerKey, LayerValue, LayerExtent, LayerVersion, FeatureId, FeatureTags, FeatureType, FeatureGeometry, Value}
use Rattle.wire.specs.Schema.{number_of, type_of, key_of, head}
use Rattle.wire.proofs.Varints.{varint_one}

-- a number and a wire type
pub record Small (field : Field) : Type 0 where
  pub number : number_of field ≤ 15
  pub type : type_of field ≤ 5

pub small : (field : Field) → Small field
small TileLayer = record { number = omega arith; type = omega arith }
small LayerName = record { number = omega arith; type = omega arith }
small LayerFeature = record { number = omega arith; type = omega arith }
small LayerKey = record { number = omega arith; type = omega arith }
small LayerValue = record { number = omega arith; type = omega arith }
small LayerExtent = record { number = omega arith; type = omega arith }
small LayerVersion = record { number = omega arith; type = omega arith }
small FeatureId = record { number = omega arith; type = omega arith }
small FeatureTags = record { number = omega arith; type = omega arith }
small FeatureType = record { number = omega arith; type = omega arith }
small FeatureGeometry = record { number = omega arith; type = omega arith }
small (Value Text) = record { number = omega arith; type = omega arith }
small (Value Float) = record { number = omega arith; type = omega arith }
small (Value Double) = record { number = omega arith; type = omega arith }
small (Value Int) = record { number = omega arith; type = omega arith }
small (Value Uint) = record { number = omega arith; type = omega arith }
small (Value Sint) = record { number = omega arith; type = omega arith }
small (Value Bool) = record { number = omega arith; type = omega arith }

pub key_small : (field : Field) → key_of field < 128
key_small field = omega (arith, (small field).number, (small field).type)

pub head_one : (field : Field) → length (head field) ≡ 1
unfolding head
head_one field = ap length (varint_one (key_of field) (key_small field))
