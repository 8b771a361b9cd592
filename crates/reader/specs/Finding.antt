-- The first field with a key, from a place of a message on.
use Rattle.std.specs.Prelude.{ℕ, zero, suc, cond, List, ltb, eqb, length, Option as Maybe, Some, None, Result, Ok, Err}
use Rattle.messages.specs.declared.key.Kind.{Kind}
use Rattle.messages.specs.declared.field.FieldAt.{FieldAt}
use Rattle.messages.specs.Fields.{NextField, field_at}
use Rattle.reader.specs.declared.cause.Cause.{Cause}
use Rattle.reader.specs.declared.cause.Cause.TheVariants.{Broken}

-- the field, None where there is none, or a field on the way cannot be read
abbrev pub Found : Type 0
Found = Result (Maybe FieldAt) Cause

abbrev pub or_later : ℕ → NextField → (FieldAt → Found) → Found
or_later key (Some f) go = cond (eqb f.key key) (Ok (Some f)) (go f)
or_later key None go = Err Broken

-- as many turns as there are bytes are enough
unfoldable pub first_by : ℕ → Kind → ℕ → ℕ → List ℕ → Found
first_by zero kind key at src = Ok None
first_by (suc turns) kind key at src = cond (ltb at (length src)) (or_later key (field_at kind at src) (λ f. first_by turns kind key f.end src)) (Ok None)

unfoldable pub first_of : Kind → ℕ → ℕ → List ℕ → Found
first_of kind key at src = first_by (length src) kind key at src
