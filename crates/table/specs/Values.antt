-- Document 01, "Tags and rollback": a value takes three words, its kind (1 text, 2 float, 3 double, 4 int, 5 uint, 6 sint, 7 bool), then the start
-- and the length of its text, or the low and the high half of its content.
use Rattle.std.specs.Prelude.{ℕ, suc, ◌%◌, ◌≡◌, refl, Bool, true, false, cond, ◌&&◌, List, [], ◌∷◌, leb, eqb, Option, Some, None}
use Rattle.table.specs.declared.Value.{Value}
use Rattle.table.specs.Texts.{inside, same_text}

-- the seven kinds, by document 01's numbers
abbrev pub text_kind : ℕ
text_kind = 1

abbrev pub float_kind : ℕ
float_kind = 2

abbrev pub double_kind : ℕ
double_kind = 3

abbrev pub int_kind : ℕ
int_kind = 4

abbrev pub uint_kind : ℕ
uint_kind = 5

abbrev pub sint_kind : ℕ
sint_kind = 6

abbrev pub bool_kind : ℕ
bool_kind = 7

-- 0.0 and -0.0: all bits but the sign are 0
abbrev pub is_zero : ℕ → ℕ → ℕ → Bool
is_zero kind low high =
    cond (eqb kind float_kind) (eqb (low % 2147483648) 0 && eqb high 0)
    (cond (eqb kind double_kind) (eqb low 0 && eqb (high % 2147483648) 0) false)

-- two contents of one kind: equal, or both a zero
abbrev pub same_content : ℕ → ℕ → ℕ → ℕ → ℕ → Bool
same_content kind low high low₂ high₂ = cond (eqb low low₂ && eqb high high₂) true (is_zero kind low high && is_zero kind low₂ high₂)

-- the value stored as these three words is v; where v is a text, it is the text beside it
abbrev pub same_value : List ℕ → ℕ → ℕ → ℕ → Value → List ℕ → Bool
same_value texts kind low high v text =
    cond (eqb kind v.kind)
    (cond (eqb kind text_kind) (same_text texts low high text) (same_content kind low high v.low v.high))
    false

-- the first value that is v; the first of these values has the index j
abbrev pub find_value : ℕ → List ℕ → List ℕ → Value → List ℕ → Option ℕ
find_value j [] texts v text = None
find_value j (a ∷ []) texts v text = None
find_value j (a ∷ b ∷ []) texts v text = None
find_value j (kind ∷ low ∷ high ∷ values) texts v text = cond (same_value texts kind low high v text) (Some j) (find_value (suc j) values texts v text)

-- STATE: a text within so many bytes, a float's high half 0, a bool's content 0 or 1, and no kind but 1 to 7
abbrev pub value_ok : ℕ → ℕ → ℕ → ℕ → Bool
value_ok bytes kind low high =
    cond (eqb kind text_kind) (inside bytes low high)
    (cond (eqb kind float_kind) (eqb high 0)
    (cond (eqb kind bool_kind) (leb low 1 && eqb high 0) (leb double_kind kind && leb kind sint_kind)))

-- every value is one
abbrev pub values_in : ℕ → List ℕ → Bool
values_in bytes [] = true
values_in bytes (a ∷ []) = false
values_in bytes (a ∷ b ∷ []) = false
values_in bytes (kind ∷ low ∷ high ∷ values) = cond (value_ok bytes kind low high) (values_in bytes values) false

-- a NaN is found again by its bits, 0.0 is found where -0.0 was stored first, and a uint is not found where an int of its content was
nan_again : find_value 0 (2 ∷ 2143289344 ∷ 0 ∷ []) [] (record { kind = 2; low = 2143289344; high = 0 }) [] ≡ Some 0
nan_again = refl

zero_shared : find_value 0 (3 ∷ 0 ∷ 2147483648 ∷ []) [] (record { kind = 3; low = 0; high = 0 }) [] ≡ Some 0
zero_shared = refl

uint_apart : find_value 0 (4 ∷ 1 ∷ 0 ∷ []) [] (record { kind = 5; low = 1; high = 0 }) [] ≡ None
uint_apart = refl
