-- Which states some bytes finish, in closed form: the innermost message must have room for what is needed at least, and one byte more than that only where
-- a varint can be written one byte longer.
use Rattle.std.specs.Prelude.{ℕ, suc, ◌+◌, ◌%◌, ◌≤◌, ◌<◌, Bool, true, false, cond, not, ◌&&◌, ◌||◌, ltb, leb, eqb}
use Rattle.wire.specs.Schema.{varint_type, fixed64_type, delimited_type, fixed32_type}
use Rattle.messages.specs.declared.key.Kind.{Kind}
use Rattle.messages.specs.declared.key.Kind.TheVariants.{Tile as tile}
use Rattle.messages.specs.declared.key.Body.{Body}
use Rattle.messages.specs.declared.key.Body.TheVariants.{Any as any, Varints as varints, Within as within}
use Rattle.messages.specs.declared.key.Follows.{Follows}
use Rattle.messages.specs.declared.key.Follows.TheVariants.{Wrong as wrong, AVarint as aVarint, Bytes as bytes, ABody as aBody}
use Rattle.messages.specs.Keys.{follows}
use Rattle.scan.specs.declared.Phase.{Phase}
use Rattle.scan.specs.declared.Phase.TheVariants.{Field as field, Key as key, Number as number, Lead as lead, Skip as skip, Packed as packed}
use Rattle.scan.specs.declared.Where.TheVariants.{Outside as none, One as one, Two as two}
use Rattle.scan.specs.declared.State.{State}
use Rattle.scan.specs.declared.State.TheVariants.{Lost as lost, At as at}
use Rattle.scan.specs.Automaton.{unit}

-- the fewest bytes behind a key of a type, and whether one more will do
abbrev pub least : ℕ → ℕ
least type = cond (eqb type fixed64_type) 8 (cond (eqb type fixed32_type) 4 1)

abbrev pub loose : ℕ → Bool
loose type = cond (eqb type fixed64_type) false (cond (eqb type fixed32_type) false true)

abbrev pub is_type : ℕ → Bool
is_type type = cond (eqb type fixed64_type) true (cond (eqb type fixed32_type) true (cond (eqb type varint_type) true (eqb type delimited_type)))

abbrev pub is_right : Follows → Bool
is_right wrong = false
is_right aVarint = true
is_right (bytes n) = true
is_right (aBody body) = true

-- the least length that a body can still have
abbrev pub least_body : Body → ℕ → ℕ → ℕ
least_body any i v = v
least_body varints i v = v
least_body (within k) i v = cond (eqb v 1) (v + unit i) v

abbrev pub need : Phase → ℕ
need field = 0
need (key i v) = suc (least (v % 8))
need (number i) = 1
need (lead body i v) = suc (least_body body i v)
need (skip n) = suc n
need (packed n i) = suc n

abbrev pub slack : Phase → Bool
slack field = false
slack (key i v) = ltb i 9 || loose (v % 8)
slack (number i) = ltb i 9
slack (lead body i v) = ltb i 9
slack (skip n) = false
slack (packed n i) = false

-- a body that is a message can stand only where messages nest
abbrev pub is_body : Bool → Body → Bool
is_body nests any = true
is_body nests varints = true
is_body nests (within k) = nests

abbrev pub may : Bool → Follows → Bool
may nests wrong = false
may nests aVarint = true
may nests (bytes n) = true
may nests (aBody body) = is_body nests body

-- a key's type stands in its first byte, its number in its first five
abbrev pub fine : Bool → Kind → Phase → Bool
fine nests kind field = true
fine nests kind (key i v) = cond (ltb i 5) (is_type (v % 8)) (may nests (follows kind v))
fine nests kind (number i) = true
fine nests kind (lead body i v) = is_body nests body
fine nests kind (skip n) = true
fine nests kind (packed n i) = true

unfoldable pub roomy : ℕ → Bool → ℕ → Bool
roomy n s room = leb n room && (s || not (eqb room (suc n)))

abbrev pub alive : State → Bool
alive lost = false
alive (at none phase) = fine true tile phase
alive (at (one k n) phase) = fine true k phase && roomy (need phase) (slack phase) n
alive (at (two k n l m) phase) = (fine false k phase && roomy (need phase) (slack phase) n) && not (eqb m 1)

-- what a state's numbers are: at most nine bytes of a varint are read, of a key one at least, and their value is of so many groups of seven bits
abbrev pub SoundIn : Phase → Type 0
SoundIn field = Unit {0}
SoundIn (key i v) = (0 < i) × (v < unit i) × (i ≤ 9)
SoundIn (number i) = i ≤ 9
SoundIn (lead body i v) = (v < unit i) × (i ≤ 9)
SoundIn (skip n) = Unit {0}
SoundIn (packed n i) = i ≤ 9

abbrev pub Sound : State → Type 0
Sound lost = Unit {0}
Sound (at w phase) = SoundIn phase
