-- A feature's message reads the same in the bytes of its layer and in those bytes up to its own end, since its fields end there.
use Prim.Native.Nat.{ℕ, zero, suc, ◌≤◌}
use mathlib.Core.Path.{◌≡◌, refl}
use mathlib.Core.Bool.{Bool, true, false, cond}
use mathlib.Core.List.{List, [], ◌∷◌}
use mathlib.Core.Option.{Option, none, some}
use native.Mathlib.Omega.{arith}
use lib.Dec.{ltb}
use lib.ListN.{length, take}
use lib.Seq.{take-take}
use Rattle.std.specs.Prelude.{Some, None}
use Rattle.wire.specs.declared.field.Field.{Field}
use Rattle.wire.specs.declared.field.Field.TheVariants.{FeatureTags, FeatureGeometry}
use Rattle.messages.specs.declared.key.Kind.{Kind}
use Rattle.messages.specs.declared.key.Kind.TheVariants.{Feature as feature}
use Rattle.messages.specs.declared.field.FieldAt.{FieldAt}
use Rattle.messages.specs.Fields.{NextField, before, and_then, field_at, field_from, fields_by, fields_from}
use Rattle.messages.specs.Meaning.{Feature, or_nothing, words_in, words_of, feature_says}
use Rattle.messages.proofs.Fields.{field_ends}
use Rattle.reader.specs.Heads.{feature_head}

-- ---- fields end inside the bytes
abbrev Inside : ℕ → List FieldAt → Type 0
Inside len [] = Unit {0}
Inside len (f ∷ fs) = (f.end ≤ len) × Inside len fs

module _ (kind : Kind) (src : List ℕ) where
  inside_before : (f : FieldAt) (o : Option (List FieldAt)) → f.end ≤ length src → Inside (length src) (or_nothing o) → Inside (length src) (or_nothing (before f o))
  inside_before f none h k = tt
  inside_before f (some fs) h k = (h, k)

  inside_then : (at : ℕ) (go : FieldAt → Option (List FieldAt)) (r : NextField) → field_at kind at src ≡ r → ((f : FieldAt) → Inside (length src) (or_nothing (go f)))
      → Inside (length src) (or_nothing (and_then r go))
  inside_then at go (Some f) e h = inside_before f (go f) (field_ends kind e).inside (h f)
  inside_then at go None e h = tt

  inside_test : (b : Bool) (o : Option (List FieldAt)) → Inside (length src) (or_nothing o) → Inside (length src) (or_nothing (cond b o (some [])))
  inside_test true o h = h
  inside_test false o h = tt

  inside_by : (turns at : ℕ) → Inside (length src) (or_nothing (fields_by turns kind at src))
  unfolding fields_by
  inside_by zero at = tt
  inside_by (suc turns) at =
      inside_test (ltb at (length src)) (and_then (field_at kind at src) (λ f. fields_by turns kind f.end src))
      (inside_then at (λ f. fields_by turns kind f.end src) (field_at kind at src) refl (λ f. inside_by turns f.end))

  inside_from : (at : ℕ) → Inside (length src) (or_nothing (fields_from kind at src))
  unfolding fields_from
  inside_from at = inside_by (length src) at

-- ---- a front is no longer than it was asked for
take_few : (n : ℕ) (l : List ℕ) → length (take n l) ≤ n
take_few zero l = omega arith
take_few (suc n) [] = omega arith
take_few (suc n) (x ∷ l) = omega (arith, take_few n l)

-- ---- the words of fields that end before a place
module _ (field : Field) (src : List ℕ) (end : ℕ) where
  in_part : (f : FieldAt) → f.end ≤ end → words_in field (take end src) f ≡ words_in field src f
  in_part f h = rw (take-take f.end end src h) refl

  words_inside : (len : ℕ) (fs : List FieldAt) → len ≤ end → Inside len fs → words_of field (take end src) fs ≡ words_of field src fs
  words_inside len [] h k = refl
  words_inside len (f ∷ fs) h k = rw (in_part f (omega (arith, k.0)), words_inside len fs h k.1) refl

module _ (src : List ℕ) (end start : ℕ) where
  abbrev fields : List FieldAt
  fields = or_nothing (fields_from feature start (take end src))

  words_part : (field : Field) → words_of field (take end src) fields ≡ words_of field src fields
  words_part field = words_inside field src end (length (take end src)) fields (take_few end src) (inside_from feature (take end src) start)

  pub says_part : feature_says (take end src) fields ≡ feature_says src fields
  says_part = rw (words_part FeatureTags, words_part FeatureGeometry) refl

-- a head by what the feature says; of its field in the layer the head has the two places alone
pub same_head : (start end end' : ℕ) (s s' : Feature) → end ≡ end' → s ≡ s' → feature_head (field_from 0 0 start end) s ≡ feature_head (field_from 0 0 start end') s'
same_head start end end' s s' e g = rw (e, g) refl
