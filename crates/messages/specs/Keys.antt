-- PB, a field's key: 8 × number + wire type, the number 1..536,870,911. What follows it goes by the wire type; a field that MVT's schema knows must have its own type.
use Rattle.std.specs.Prelude.{ℕ, ◌/◌, ◌%◌, cond, ◌&&◌, leb, eqb}
use Rattle.messages.specs.declared.key.Kind.{Kind}
use Rattle.messages.specs.declared.key.Kind.TheVariants.{Tile as tile, Layer as layer, Feature as feature, Value as value}
use Rattle.messages.specs.declared.key.Holds.{Holds}
use Rattle.messages.specs.declared.key.Holds.TheVariants.{Number as number, Four as four, Eight as eight, Text as text, Numbers as numbers, Message as message, Unknown as unknown}
use Rattle.messages.specs.declared.key.Body.TheVariants.{Any as any, Varints as varints, Within as within}
use Rattle.messages.specs.declared.key.Follows.{Follows}
use Rattle.messages.specs.declared.key.Follows.TheVariants.{Wrong as wrong, AVarint as aVarint, Bytes as bytes, ABody as aBody}
use Rattle.wire.specs.declared.field.ValueKind.TheVariants.{Text, Float, Double, Int, Uint, Sint, Bool as Truth}
use Rattle.wire.specs.declared.field.Field.TheVariants.{TileLayer, LayerName, LayerFeature, LayerKey, LayerValue, LayerExtent, LayerVersion, FeatureId, FeatureTags, FeatureType, FeatureGeometry, Value}
use Rattle.wire.specs.Schema.{number_of, varint_type, fixed64_type, delimited_type, fixed32_type}

-- what MVT's schema says of a field's number
abbrev pub knows : Kind → ℕ → Holds
knows tile n = cond (eqb n (number_of TileLayer)) (message layer) unknown
knows layer n =
    cond (eqb n (number_of LayerName)) text
    (cond (eqb n (number_of LayerFeature)) (message feature)
    (cond (eqb n (number_of LayerKey)) text
    (cond (eqb n (number_of LayerValue)) (message value)
    (cond (eqb n (number_of LayerExtent)) number
    (cond (eqb n (number_of LayerVersion)) number unknown)))))
knows feature n =
    cond (eqb n (number_of FeatureId)) number
    (cond (eqb n (number_of FeatureTags)) numbers
    (cond (eqb n (number_of FeatureType)) number
    (cond (eqb n (number_of FeatureGeometry)) numbers unknown)))
knows value n =
    cond (eqb n (number_of (Value Text))) text
    (cond (eqb n (number_of (Value Float))) four
    (cond (eqb n (number_of (Value Double))) eight
    (cond (eqb n (number_of (Value Int))) number
    (cond (eqb n (number_of (Value Uint))) number
    (cond (eqb n (number_of (Value Sint))) number
    (cond (eqb n (number_of (Value Truth))) number unknown))))))

abbrev pub only : ℕ → ℕ → Follows → Follows
only right type f = cond (eqb type right) f wrong

abbrev pub content : Holds → ℕ → Follows
content number type = only varint_type type aVarint
content four type = only fixed32_type type (bytes 4)
content eight type = only fixed64_type type (bytes 8)
content text type = only delimited_type type (aBody any)
content numbers type = cond (eqb type varint_type) aVarint (only delimited_type type (aBody varints))
content (message kind) type = only delimited_type type (aBody (within kind))
content unknown type =
    cond (eqb type varint_type) aVarint
    (cond (eqb type fixed64_type) (bytes 8)
    (cond (eqb type delimited_type) (aBody any)
    (cond (eqb type fixed32_type) (bytes 4) wrong)))

abbrev pub max_number : ℕ
max_number = 536870911

unfoldable pub follows : Kind → ℕ → Follows
follows kind key = cond (leb 1 (key / 8) && leb (key / 8) max_number) (content (knows kind (key / 8)) (key % 8)) wrong
