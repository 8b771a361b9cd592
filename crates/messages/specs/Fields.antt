-- PB, "Message Structure": a field is a key and what follows it, a message is fields one after the other, exactly to its end. Everything is read where it stands:
-- `at` is a place in some bytes, which end where the message does, so that nothing runs past it.
use Rattle.std.specs.Prelude.{ℕ, zero, suc, ◌+◌, ◌*◌, cond, List, [], ◌∷◌, ltb, leb, length, take, drop, Option as Maybe, Some, None}
use Rattle.std.proofs.Math.Option.{Option, none, some}
use Rattle.wire.specs.Reading.{VarintRead, good, cut, over, read_varint}
use Rattle.messages.specs.declared.key.Kind.{Kind}
use Rattle.messages.specs.declared.key.Follows.{Follows}
use Rattle.messages.specs.declared.key.Follows.TheVariants.{Wrong as wrong, AVarint as aVarint, Bytes as bytes, ABody as aBody}
use Rattle.messages.specs.declared.field.FieldAt.{FieldAt}
use Rattle.messages.specs.Keys.{follows}

-- ---- what the code answers: a number, and where the next byte stands; a field. None where it cannot be read
abbrev pub VarintAt : Type 0
VarintAt = Maybe (ℕ × ℕ)

abbrev pub NextField : Type 0
NextField = Maybe FieldAt

-- ---- a varint: at most ten bytes and 64 bits, longer forms too
abbrev pub placed : ℕ → VarintRead → VarintAt
placed at (good n k) = Some (n, at + k)
placed at cut = None
placed at (over p) = None

unfoldable pub varint_at : ℕ → List ℕ → VarintAt
varint_at at src = placed at (read_varint (drop at src))

-- ---- PB, "Non-varint Numbers": bytes least significant first
abbrev pub from_little : List ℕ → ℕ
from_little [] = 0
from_little (b ∷ bs) = b + 256 * from_little bs

-- ---- a field
abbrev pub field_from : ℕ → ℕ → ℕ → ℕ → FieldAt
field_from key value start end = record { key = key; value = value; start = start; end = end }

abbrev pub numbered : ℕ → ℕ → VarintAt → NextField
numbered key at (Some (n, next)) = Some (field_from key n at next)
numbered key at None = None

abbrev pub fixed : ℕ → ℕ → ℕ → List ℕ → NextField
fixed key n at src = cond (leb (at + n) (length src)) (Some (field_from key (from_little (take n (drop at src))) at (at + n))) None

abbrev pub bodied : ℕ → List ℕ → VarintAt → NextField
bodied key src (Some (n, start)) = cond (leb (start + n) (length src)) (Some (field_from key 0 start (start + n))) None
bodied key src None = None

unfoldable pub content : ℕ → ℕ → List ℕ → Follows → NextField
content key at src wrong = None
content key at src aVarint = numbered key at (varint_at at src)
content key at src (bytes n) = fixed key n at src
content key at src (aBody body) = bodied key src (varint_at at src)

abbrev pub keyed : Kind → List ℕ → VarintAt → NextField
keyed kind src (Some (key, at)) = content key at src (follows kind key)
keyed kind src None = None

unfoldable pub field_at : Kind → ℕ → List ℕ → NextField
field_at kind at src = keyed kind src (varint_at at src)

-- ---- fields to the end of the bytes, or nothing where one cannot be read. Each takes a byte at least, so as many turns as there are bytes are enough
abbrev pub before : FieldAt → Option (List FieldAt) → Option (List FieldAt)
before f none = none
before f (some fs) = some (f ∷ fs)

abbrev pub and_then : NextField → (FieldAt → Option (List FieldAt)) → Option (List FieldAt)
and_then (Some f) go = before f (go f)
and_then None go = none

unfoldable pub fields_by : ℕ → Kind → ℕ → List ℕ → Option (List FieldAt)
fields_by zero kind at src = some []
fields_by (suc turns) kind at src = cond (ltb at (length src)) (and_then (field_at kind at src) (λ f. fields_by turns kind f.end src)) (some [])

unfoldable pub fields_from : Kind → ℕ → List ℕ → Option (List FieldAt)
fields_from kind at src = fields_by (length src) kind at src

-- ---- PB, "Packed Repeated Fields": varints to the end of the bytes
abbrev pub number_before : ℕ → Option (List ℕ) → Option (List ℕ)
number_before n none = none
number_before n (some ns) = some (n ∷ ns)

abbrev pub number_then : VarintAt → (ℕ → Option (List ℕ)) → Option (List ℕ)
number_then (Some (n, next)) go = number_before n (go next)
number_then None go = none

unfoldable pub numbers_by : ℕ → ℕ → List ℕ → Option (List ℕ)
numbers_by zero at src = some []
numbers_by (suc turns) at src = cond (ltb at (length src)) (number_then (varint_at at src) (λ next. numbers_by turns next src)) (some [])

unfoldable pub numbers_from : ℕ → List ℕ → Option (List ℕ)
numbers_from at src = numbers_by (length src) at src
