-- A feature's tag indices or geometry words laid in a lent list, before the tile's verdict is asked.
use Rattle.std.specs.Prelude.{ℕ, ◌+◌, ◌≤◌, ◌≡◌, ◌⊎◌, true, cond, List, [], ◌∷◌, ◌++◌, leb, eqb, length, take, Result, Ok, Err}
use Rattle.promise.specs.Answers.{Written, kept}
use Rattle.promise.specs.Laid.{lay}
use Rattle.wire.specs.declared.field.Field.{Field}
use Rattle.wire.specs.declared.field.Field.TheVariants.{FeatureTags, FeatureGeometry}
use Rattle.wire.specs.Schema.{key_of}
use Rattle.messages.specs.declared.key.Kind.TheVariants.{Feature as feature}
use Rattle.messages.specs.declared.field.FieldAt.{FieldAt}
use Rattle.messages.specs.Fields.{fields_from, numbers_from}
use Rattle.messages.specs.Tiles.{Verdict, is_read, nested}
use Rattle.messages.specs.Meaning.{low32, or_nothing, single_key, words_of}
use Rattle.reader.specs.declared.features.FeatureHead.{FeatureHead}
use Rattle.reader.specs.declared.into.Which.{Which}
use Rattle.reader.specs.declared.into.Which.TheVariants.{Tags, Geometry}
use Rattle.reader.specs.declared.cause.Cause.{Cause}
use Rattle.reader.specs.declared.cause.Cause.TheVariants.{Outside, NoRoom, Broken}
use Rattle.reader.specs.Packed.{low_of}
use Rattle.reader.specs.Answers.{Laid, within}
use Rattle.reader.specs.Steps.{told}

-- ---- which numbers
abbrev pub field_of : Which → Field
field_of Tags = FeatureTags
field_of Geometry = FeatureGeometry

abbrev pub packed_of : Which → ℕ
packed_of Tags = key_of FeatureTags
packed_of Geometry = key_of FeatureGeometry

abbrev pub single_of : Which → ℕ
single_of Tags = single_key FeatureTags
single_of Geometry = single_key FeatureGeometry

abbrev pub count_of : Which → FeatureHead → ℕ
count_of Tags h = h.tags
count_of Geometry h = h.words

-- ---- the numbers of a field and of fields, by the two keys
abbrev pub words_by : ℕ → ℕ → List ℕ → FieldAt → List ℕ
words_by packed single src f =
    cond (eqb f.key packed) (low_of (numbers_from f.start (take f.end src))) (cond (eqb f.key single) (low32 f.value ∷ []) [])

abbrev pub words_at : ℕ → ℕ → List ℕ → List FieldAt → List ℕ
words_at packed single src [] = []
words_at packed single src (f ∷ fs) = words_by packed single src f ++ words_at packed single src fs

-- a field's numbers can be read, and there is room for them
pub record FieldFits (packed single : ℕ) (src : List ℕ) (f : FieldAt) (from : ℕ) (out : List ℕ) : Type 0 where
  pub inside : f.end ≤ length src
  pub can : f.key ≡ packed → is_read (numbers_from f.start (take f.end src)) ≡ true
  pub fits : from + length (words_by packed single src f) ≤ length out

-- the same of a whole feature: its message is good, and the key is that of a packed list
pub record AllFit (packed single : ℕ) (src : List ℕ) (start : ℕ) (out : List ℕ) : Type 0 where
  pub a_list : (packed ≡ 18) ⊎ (packed ≡ 34)
  pub good : nested 1 feature start src ≡ true
  pub fits : length (words_at packed single src (or_nothing (fields_from feature start src))) ≤ length out

-- ---- the call
abbrev pub WordsStep : Type 0
WordsStep = Result ℕ Cause

abbrev pub step_laid : List ℕ → List ℕ → Written WordsStep (List ℕ)
step_laid ws out = cond (leb (length ws) (length out)) (record { answer = Ok (length ws); memory = lay 0 ws out }) (kept (Err NoRoom) out)

unfoldable pub words_step : Field → ℕ → ℕ → List ℕ → List ℕ → Written WordsStep (List ℕ)
words_step field start end src out =
    cond (within start end src)
    (cond (nested 1 feature start (take end src)) (step_laid (words_of field (take end src) (or_nothing (fields_from feature start (take end src)))) out)
    (kept (Err Broken) out))
    (kept (Err Outside) out)

-- what the step is, told by the tile's verdict
abbrev pub told_into : Verdict → Written WordsStep (List ℕ) → Written Laid (List ℕ)
told_into v w = record { answer = told v w.answer; memory = w.memory }
