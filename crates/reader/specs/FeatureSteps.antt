-- What a call over the fields of a feature finds, before the tile's verdict is asked.
use Rattle.std.specs.Prelude.{ℕ, ◌+◌, ◌≤◌, ◌<◌, cond, List, eqb, length, take, Option as Maybe, Some, None, Result, Ok, Err}
use Rattle.wire.specs.declared.field.Field.TheVariants.{LayerFeature, FeatureId, FeatureTags, FeatureType, FeatureGeometry}
use Rattle.wire.specs.Schema.{key_of}
use Rattle.messages.specs.declared.key.Kind.TheVariants.{Layer as layer, Feature as feature}
use Rattle.messages.specs.declared.field.FieldAt.{FieldAt}
use Rattle.messages.specs.Fields.{field_from, fields_from, numbers_from}
use Rattle.messages.specs.Tiles.{nested}
use Rattle.messages.specs.Meaning.{low32, or_nothing, single_key, feature_says}
use Rattle.reader.specs.declared.cause.Cause.{Cause}
use Rattle.reader.specs.declared.cause.Cause.TheVariants.{Outside, Broken}
use Rattle.reader.specs.declared.features.FeatureHead.{FeatureHead}
use Rattle.reader.specs.Finding.{Found, first_of}
use Rattle.reader.specs.Heads.{feature_head}
use Rattle.reader.specs.Packed.{Count, counted}
use Rattle.reader.specs.Answers.{within}

-- a feature's message, read or not
abbrev pub FeatureRead : Type 0
FeatureRead = Maybe FeatureHead

-- the next feature, before it is asked whose fault it is that one cannot be read
abbrev pub FeatureStep : Type 0
FeatureStep = Result (Maybe FeatureHead) Cause

-- ---- a feature whose message stands from a place to the end of the bytes
abbrev pub head_from : ℕ → ℕ → List ℕ → List FieldAt → FeatureHead
head_from start end src fs = feature_head (field_from 0 0 start end) (feature_says src fs)

unfoldable pub feature_read : ℕ → List ℕ → FeatureRead
feature_read start src = cond (nested 1 feature start src) (Some (head_from start (length src) src (or_nothing (fields_from feature start src)))) None

-- ---- one field more
-- so many more can be counted
abbrev pub Adds : ℕ → Count → Type 0
Adds n (Some k) = n + k < 18446744073709551616
Adds n None = Unit {0}

module _ (h : FeatureHead) where
  abbrev pub with_id : ℕ → FeatureHead
  with_id id = record { id = Some id; kind = h.kind; tags = h.tags; words = h.words; start = h.start; end = h.end }

  abbrev pub with_kind : ℕ → FeatureHead
  with_kind kind = record { id = h.id; kind = kind; tags = h.tags; words = h.words; start = h.start; end = h.end }

  abbrev pub with_tags : ℕ → FeatureHead
  with_tags n = record { id = h.id; kind = h.kind; tags = h.tags + n; words = h.words; start = h.start; end = h.end }

  abbrev pub with_words : ℕ → FeatureHead
  with_words n = record { id = h.id; kind = h.kind; tags = h.tags; words = h.words + n; start = h.start; end = h.end }

  abbrev pub tags_read : Count → FeatureRead
  tags_read (Some n) = Some (with_tags n)
  tags_read None = None

  abbrev pub words_read : Count → FeatureRead
  words_read (Some n) = Some (with_words n)
  words_read None = None

  unfoldable pub with_field : List ℕ → FieldAt → FeatureRead
  with_field src f =
      cond (eqb f.key (key_of FeatureId)) (Some (with_id f.value))
      (cond (eqb f.key (key_of FeatureType)) (Some (with_kind (low32 f.value)))
      (cond (eqb f.key (single_key FeatureTags)) (Some (with_tags 1))
      (cond (eqb f.key (single_key FeatureGeometry)) (Some (with_words 1))
      (cond (eqb f.key (key_of FeatureTags)) (tags_read (counted (numbers_from f.start (take f.end src))))
      (cond (eqb f.key (key_of FeatureGeometry)) (words_read (counted (numbers_from f.start (take f.end src))))
      (Some h))))))

  -- every number that was counted took a byte before the field's content
  pub record Ample (f : FieldAt) (len : ℕ) : Type 0 where
    pub few_tags : h.tags < f.start
    pub few_words : h.words < f.start
    pub ordered : f.start ≤ f.end
    pub inside : f.end ≤ len

-- ---- the next feature of a layer
abbrev pub step_read : FeatureRead → FeatureStep
step_read (Some h) = Ok (Some h)
step_read None = Err Broken

abbrev pub step_found : List ℕ → Found → FeatureStep
step_found src (Ok (Some f)) = step_read (feature_read f.start (take f.end src))
step_found src (Ok None) = Ok None
step_found src (Err c) = Err c

unfoldable pub feature_step : ℕ → ℕ → List ℕ → FeatureStep
feature_step at end src = cond (within at end src) (step_found (take end src) (first_of layer (key_of LayerFeature) at (take end src))) (Err Outside)
