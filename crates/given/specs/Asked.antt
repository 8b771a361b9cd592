-- Which definition of crate `layer` each call asks for, as its contract names it, and what it gives: a single call gives itself, one with a whole feature gives
-- the feature that the lent lists say.
use Rattle.std.specs.Prelude.{ℕ, ◌%◌, ◌/◌, ◌<◌, Bool, true, false, cond, List, [], ◌∷◌, ℤ, pos, negsuc, eqb, take, drop}
use Rattle.std.proofs.Math.Option.{Option, none, some}
use Rattle.whole.specs.Twos.{wide, signed64}
use Rattle.layer.specs.declared.whole_feature.Head.{Head}
use Rattle.layer.specs.Held.{Seen, Change}
use Rattle.layer.specs.Calls.{Tag as Stored, into_feature, set_id, add_tag, into_layer, abandoned, tag_string, tag_bits, bits_of, bit_of}
use Rattle.table.specs.Texts.{text_of}
use Rattle.layer.specs.Whole.{add_feature}
use Rattle.layer.specs.Many.{head_of}
use Rattle.given.specs.Given.{Content, text, float, double, int, uint, sint, bool, Tag, Feature, Drawing}
use Rattle.given.specs.Given.{Call, opens, identifies, tags, closes, abandons, after, added}

-- the seven tag calls
abbrev pub tag_of : List ℕ → Content → Stored
tag_of key (text t) = tag_string key t
tag_of key (float bits) = tag_bits 2 key bits
tag_of key (double bits) = tag_bits 3 key bits
tag_of key (int n) = tag_bits 4 key (bits_of n)
tag_of key (uint n) = tag_bits 5 key n
tag_of key (sint n) = tag_bits 6 key (bits_of n)
tag_of key (bool b) = tag_bits 7 key (bit_of b)

-- the tags of a lent list, five words a tag: where its key starts and how long it is, the kind of its value, and then where its text starts and how long it
-- is, or the halves of its content
abbrev pub content_at : List ℕ → ℕ → ℕ → ℕ → Content
content_at bytes kind low high =
    cond (eqb kind 1) (text (text_of bytes low high))
    (cond (eqb kind 2) (float low)
    (cond (eqb kind 3) (double (wide low high))
    (cond (eqb kind 4) (int (signed64 (wide low high)))
    (cond (eqb kind 5) (uint (wide low high))
    (cond (eqb kind 6) (sint (signed64 (wide low high))) (bool (eqb low 1)))))))

abbrev pub tags_given : List ℕ → List ℕ → List Tag
tags_given bytes [] = []
tags_given bytes (start ∷ []) = []
tags_given bytes (start ∷ len ∷ []) = []
tags_given bytes (start ∷ len ∷ kind ∷ []) = []
tags_given bytes (start ∷ len ∷ kind ∷ low ∷ []) = []
tags_given bytes (start ∷ len ∷ kind ∷ low ∷ high ∷ ws) = record { key = text_of bytes start len; value = content_at bytes kind low high } ∷ tags_given bytes ws

abbrev pub id_given : Bool → ℕ → Option ℕ
id_given true id = some id
id_given false id = none

abbrev pub feature_given : Head → List ℕ → List ℕ → List ℕ → Feature
feature_given f words ws bytes = record { kind = f.kind; id = id_given f.has_id f.id; geometry = words; tags = tags_given bytes ws }

-- the features of a lent list of heads, six words a head: kind, id mark, the halves of the id, how many geometry words and how many tag words
abbrev pub features_given : List ℕ → List ℕ → List ℕ → List ℕ → List Feature
features_given [] words ws bytes = []
features_given (a ∷ []) words ws bytes = []
features_given (a ∷ b ∷ []) words ws bytes = []
features_given (a ∷ b ∷ c ∷ []) words ws bytes = []
features_given (a ∷ b ∷ c ∷ d ∷ []) words ws bytes = []
features_given (a ∷ b ∷ c ∷ d ∷ e ∷ []) words ws bytes = []
features_given (kind ∷ mark ∷ low ∷ high ∷ w ∷ t ∷ hs) words ws bytes =
    feature_given (head_of kind mark low high) (take w words) (take t ws) bytes ∷ features_given hs (drop w words) (drop t ws) bytes

abbrev pub added_all : List Feature → Drawing → Drawing
added_all [] d = d
added_all (f ∷ fs) d = added_all fs (added f d)

-- ---- the calls as they are made
pub data Made : Type 0 where
  calls : Call → Made
  whole : Head → List ℕ → List ℕ → List ℕ → Made

abbrev pub asks : Call → Seen → Change
asks (opens kind words) v = into_feature kind words v
asks (identifies n) v = set_id (n % 4294967296) (n / 4294967296) v
asks (tags key value) v = add_tag (tag_of key value) v
asks closes v = into_layer v
asks abandons v = abandoned v

abbrev pub asked : Made → Seen → Change
asked (calls c) v = asks c v
asked (whole f words ws bytes) v = add_feature f words ws bytes v

abbrev pub gives : Made → Drawing → Drawing
gives (calls c) d = after c d
gives (whole f words ws bytes) d = added (feature_given f words ws bytes) d

-- ---- the numbers are those of the calls' types: floats of 32 bits, ints and sints from -2^63 on to below 2^63, the words of a lent list of 32 bits
abbrev pub Int64 : ℤ → Type 0
Int64 (pos n) = n < 9223372036854775808
Int64 (negsuc n) = n < 9223372036854775808

abbrev pub Fine : Content → Type 0
Fine (text t) = Unit {0}
Fine (float bits) = bits < 4294967296
Fine (double bits) = Unit {0}
Fine (int n) = Int64 n
Fine (uint n) = Unit {0}
Fine (sint n) = Int64 n
Fine (bool b) = Unit {0}

abbrev pub Words : List ℕ → Type 0
Words [] = Unit {0}
Words (w ∷ ws) = (w < 4294967296) × Words ws

abbrev pub FineCall : Call → Type 0
FineCall (opens kind words) = Unit {0}
FineCall (identifies n) = Unit {0}
FineCall (tags key value) = Fine value
FineCall closes = Unit {0}
FineCall abandons = Unit {0}

abbrev pub FineMade : Made → Type 0
FineMade (calls c) = FineCall c
FineMade (whole f words ws bytes) = Words ws
