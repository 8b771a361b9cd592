-- The numbers of what was given are those of the calls' types: extents, kinds, geometry words and floats of 32 bits, ids, doubles and uints of 64, ints and
-- sints from -2^63 on to below 2^63.
use Rattle.std.specs.Prelude.{ℕ, ◌<◌}
use Rattle.std.proofs.Math.Option.{Option, none, some}
use Rattle.given.specs.Given.{Content, text, float, double, int, uint, sint, bool, Tag, Feature, Drawing}
use Rattle.given.specs.Given.{Call, opens, identifies, tags, closes, abandons}
use Rattle.given.specs.Asked.{Made, calls, whole, Int64, Words}
use Rattle.given.specs.Runs.{Step, one, many, Plan}
use Rattle.given.specs.Texts.{Every}

abbrev pub SizedContent : Content → Type 0
SizedContent (text t) = Unit {0}
SizedContent (float bits) = bits < 4294967296
SizedContent (double bits) = bits < 18446744073709551616
SizedContent (int n) = Int64 n
SizedContent (uint n) = n < 18446744073709551616
SizedContent (sint n) = Int64 n
SizedContent (bool b) = Unit {0}

abbrev pub SizedTag : Tag → Type 0
SizedTag t = SizedContent t.value

abbrev pub SizedId : Option ℕ → Type 0
SizedId none = Unit {0}
SizedId (some n) = n < 18446744073709551616

pub record SizedFeature (f : Feature) : Type 0 where
  pub in_kind : f.kind < 4294967296
  pub in_id : SizedId f.id
  pub in_geometry : Words f.geometry
  pub in_tags : Every SizedTag f.tags

pub record Sized (d : Drawing) : Type 0 where
  pub in_extent : d.extent < 4294967296
  pub in_features : Every SizedFeature d.features

-- ---- the numbers of the calls themselves, so that no run of them gives others
abbrev pub SizedCall : Call → Type 0
SizedCall (opens kind words) = (kind < 4294967296) × Words words
SizedCall (identifies n) = n < 18446744073709551616
SizedCall (tags key value) = SizedContent value
SizedCall closes = Unit {0}
SizedCall abandons = Unit {0}

abbrev pub SizedMade : Made → Type 0
SizedMade (calls c) = SizedCall c
SizedMade (whole f words ws bytes) = (f.kind < 4294967296) × (f.id < 18446744073709551616) × Words words × Words ws

abbrev pub SizedStep : Step → Type 0
SizedStep (one c) = SizedMade c
SizedStep (many heads words ws bytes) = Words heads × Words words × Words ws

pub record SizedPlan (p : Plan) : Type 0 where
  pub in_extent : p.extent < 4294967296
  pub in_calls : Every SizedStep p.calls
