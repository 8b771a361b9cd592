-- MVT's message Value: one field, whose number is the kind (document 01: "Value: field = kind"). PB writes a float in four bytes and a double in eight, an
-- int as its 64 bits in two's complement, a sint by zigzag.
use Rattle.std.specs.Prelude.{ℕ, ◌≡◌, refl, cond, List, [], ◌∷◌, eqb}
use Rattle.words.specs.Params.{param}
use Rattle.wire.specs.declared.field.ValueKind.TheVariants.{Text, Float, Double, Int, Uint, Sint, Bool}
use Rattle.wire.specs.declared.field.Field.TheVariants.{Value}
use Rattle.wire.specs.Varints.{varint}
use Rattle.wire.specs.Schema.{head}
use Rattle.whole.specs.Twos.{wide}
use Rattle.wire.specs.Numbers.{zigzag, fixed32, fixed64}
use Rattle.wire.specs.Fields.{varint_field, fixed32_field, fixed64_field, delimited}
use Rattle.tile.specs.Texts.{text_field}

-- the message of a value's three words: its kind, then where its text starts and the text's length, or the low and the high half of its content.
-- The kinds are seven (STATE): what is none of the first six is a bool
unfoldable pub value_message : List ℕ → ℕ → ℕ → ℕ → List ℕ
value_message texts kind low high =
    cond (eqb kind 1) (text_field (Value Text) texts low high)
    (cond (eqb kind 2) (fixed32_field (Value Float) low)
    (cond (eqb kind 3) (fixed64_field (Value Double) (wide low high))
    (cond (eqb kind 4) (varint_field (Value Int) (wide low high))
    (cond (eqb kind 5) (varint_field (Value Uint) (wide low high))
    (cond (eqb kind 6) (varint_field (Value Sint) (zigzag (wide low high))) (varint_field (Value Bool) low))))))

-- ---- "b" among the texts "ab", the float 1.0, the double 1.0, the int -1, the largest uint, the sint -1, true
text_b : value_message (97 ∷ 98 ∷ []) 1 1 1 ≡ 10 ∷ 1 ∷ 98 ∷ []
unfolding value_message text_field delimited varint_field head varint
text_b = refl

float_one : value_message [] 2 1065353216 0 ≡ 21 ∷ 0 ∷ 0 ∷ 128 ∷ 63 ∷ []
unfolding value_message fixed32_field fixed32 head varint
float_one = refl

double_one : value_message [] 3 0 1072693248 ≡ 25 ∷ 0 ∷ 0 ∷ 0 ∷ 0 ∷ 0 ∷ 0 ∷ 240 ∷ 63 ∷ []
unfolding value_message fixed64_field fixed64 head varint
double_one = refl

int_minus_one : value_message [] 4 4294967295 4294967295 ≡ 32 ∷ 255 ∷ 255 ∷ 255 ∷ 255 ∷ 255 ∷ 255 ∷ 255 ∷ 255 ∷ 255 ∷ 1 ∷ []
unfolding value_message varint_field head varint
int_minus_one = refl

uint_largest : value_message [] 5 4294967295 4294967295 ≡ 40 ∷ 255 ∷ 255 ∷ 255 ∷ 255 ∷ 255 ∷ 255 ∷ 255 ∷ 255 ∷ 255 ∷ 1 ∷ []
unfolding value_message varint_field head varint
uint_largest = refl

sint_minus_one : value_message [] 6 4294967295 4294967295 ≡ 48 ∷ 1 ∷ []
unfolding value_message varint_field head varint zigzag param
sint_minus_one = refl

bool_true : value_message [] 7 1 0 ≡ 56 ∷ 1 ∷ []
unfolding value_message varint_field head varint
bool_true = refl
