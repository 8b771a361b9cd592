-- What a reader sees of a feature's tags (MVT 4.4): of each two numbers the first leads to a key and the second to a value. A number that leads past the
-- keys says the empty key, one that leads past the values the empty value, and a last number alone says nothing. Our tiles have none of these.
use Rattle.std.specs.Prelude.{ℕ, ◌%◌, ◌≡◌, Bool, true, false, List, [], ◌∷◌, eqb, get_or}
use Rattle.messages.specs.Meaning.{Value, empty, Feature, Layer}
use Rattle.given.specs.Given.{Content, text, float, double, int, uint, sint, bool, Tag, Feature as FeatureGiven, Drawing, same}
use Rattle.read_back.specs.Layers.{value_given}

pub record TagSaid : Type 0 where
  pub key : List ℕ
  pub value : Value

abbrev pub tags_from : List (List ℕ) → List Value → List ℕ → List TagSaid
tags_from keys values [] = []
tags_from keys values (k ∷ []) = []
tags_from keys values (k ∷ v ∷ ws) = record { key = get_or keys k []; value = get_or values v empty } ∷ tags_from keys values ws

abbrev pub tags_said : Layer → Feature → List TagSaid
tags_said l f = tags_from l.keys l.values f.tags

-- ---- that it is what was given: the key's bytes, and a value that is the same; the very one, but that of 0.0 and -0.0 the first used is said for both
abbrev pub is_zero : Content → Bool
is_zero (text t) = false
is_zero (float bits) = eqb (bits % 2147483648) 0
is_zero (double bits) = eqb (bits % 9223372036854775808) 0
is_zero (int n) = false
is_zero (uint n) = false
is_zero (sint n) = false
is_zero (bool b) = false

pub record SaysTag (t : Tag) (s : TagSaid) : Type 0 where
  pub key_is_lem : s.key ≡ t.key
  pub content : Content
  pub value_is_lem : s.value ≡ value_given content
  pub alike : same content t.value ≡ true
  pub exact : is_zero t.value ≡ false → s.value ≡ value_given t.value

-- tag by tag, and feature by feature
abbrev pub SaysTags : List Tag → List TagSaid → Type 0
SaysTags [] [] = Unit {0}
SaysTags [] (s ∷ ss) = ⊥
SaysTags (t ∷ ts) [] = ⊥
SaysTags (t ∷ ts) (s ∷ ss) = SaysTag t s × SaysTags ts ss

abbrev pub SaysFeatures : Layer → List FeatureGiven → List Feature → Type 0
SaysFeatures l [] [] = Unit {0}
SaysFeatures l [] (g ∷ gs) = ⊥
SaysFeatures l (f ∷ fs) [] = ⊥
SaysFeatures l (f ∷ fs) (g ∷ gs) = SaysTags f.tags (tags_said l g) × SaysFeatures l fs gs

abbrev pub SaysLayers : List Drawing → List Layer → Type 0
SaysLayers [] [] = Unit {0}
SaysLayers [] (l ∷ ls) = ⊥
SaysLayers (d ∷ ds) [] = ⊥
SaysLayers (d ∷ ds) (l ∷ ls) = SaysFeatures l d.features l.features × SaysLayers ds ls
