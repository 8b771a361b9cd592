-- What was given, as a reader of the tile says it (request (i)): of each layer its name, MVT's version 2, its extent, the keys and the values in order of first
-- use and the features in order, each with its id or none, its kind, its tags as indices and its geometry.
use Rattle.std.specs.Prelude.{ℕ, List, map}
use Rattle.messages.specs.Meaning.{Value, text, float, double, int, uint, sint, bool, Feature, Layer}
use Rattle.given.specs.Given.{Content, text as text_of, float as float_of, double as doubleOf, int as int_of, uint as uintOf, sint as sintOf, bool as boolOf}
use Rattle.given.specs.Given.{Feature as FeatureGiven, Drawing, keys_of, values_of}
use Rattle.given.specs.Messages.{tag_indices}

abbrev pub value_given : Content → Value
value_given (text_of t) = text t
value_given (float_of bits) = float bits
value_given (doubleOf bits) = double bits
value_given (int_of n) = int n
value_given (uintOf n) = uint n
value_given (sintOf n) = sint n
value_given (boolOf b) = bool b

-- a feature among these keys and values
abbrev pub feature_given : List (List ℕ) → List Content → FeatureGiven → Feature
feature_given keys values f = record { id = f.id; kind = f.kind; tags = tag_indices keys values f.tags; geometry = f.geometry }

abbrev pub layer_given : Drawing → Layer
layer_given d =
    record {
      name = d.name;
      version = 2;
      extent = d.extent;
      keys = keys_of d.features;
      values = map value_given (values_of d.features);
      features = map (feature_given (keys_of d.features) (values_of d.features)) d.features;
    }
