-- What some tiles say.
use Rattle.std.specs.Prelude.{◌≡◌, refl, true, [], ◌∷◌, negsuc}
use Rattle.std.proofs.Math.Option.{none, some}
use Rattle.wire.specs.Reading.{read_varint}
use Rattle.words.specs.Params.{unparam}
use Rattle.messages.specs.Keys.{follows}
use Rattle.messages.specs.Fields.{varint_at, content, field_at, fields_by, fields_from, numbers_by, numbers_from}
use Rattle.messages.specs.Tiles.{nested, is_good}
use Rattle.messages.specs.Meaning.{empty, text, sint, bool, value_of, feature_of, layer_of, reading}

-- document 01's tile: one layer "a", extent 4096, version 2
pub tile_one : reading (26 ∷ 8 ∷ 10 ∷ 1 ∷ 97 ∷ 40 ∷ 128 ∷ 32 ∷ 120 ∷ 2 ∷ [])
    ≡ some (record { name = 97 ∷ []; version = 2; extent = 4096; keys = []; values = []; features = [] } ∷ [])
unfolding read_varint follows varint_at content field_at fields_by fields_from numbers_by numbers_from nested is_good value_of feature_of layer_of reading
tile_one = refl

-- fields in any order, an unknown one passed over; the last name and the last id; an extent of 2^32, of which the low 32 bits are 0; no version; tags and geometry
-- single, packed and divided; a value of several kinds, the lowest of which is a text, and one of none
pub odd_tile : reading (26 ∷ 51 ∷ 40 ∷ 128 ∷ 128 ∷ 128 ∷ 128 ∷ 16 ∷ 18 ∷ 20 ∷ 34 ∷ 3 ∷ 9 ∷ 4 ∷ 4 ∷ 16 ∷ 1 ∷ 18 ∷ 1 ∷ 0 ∷ 24 ∷ 1 ∷ 18 ∷ 0 ∷ 32 ∷ 15 ∷ 8
    ∷ 7 ∷ 8 ∷ 8 ∷ 34 ∷ 7 ∷ 40 ∷ 5 ∷ 10 ∷ 1 ∷ 97 ∷ 56 ∷ 1 ∷ 34 ∷ 0 ∷ 26 ∷ 1 ∷ 107 ∷ 10 ∷ 1 ∷ 120 ∷ 160 ∷ 1 ∷ 9 ∷ 10 ∷ 1 ∷ 110 ∷ [])
    ≡ some (record {
      name = 110 ∷ [];
      version = 1;
      extent = 0;
      keys = (107 ∷ []) ∷ [];
      values = text (97 ∷ []) ∷ empty ∷ [];
      features = record { id = some 8; kind = 1; tags = 1 ∷ 0 ∷ []; geometry = 9 ∷ 4 ∷ 4 ∷ 15 ∷ [] } ∷ [];
    } ∷ [])
unfolding read_varint follows varint_at content field_at fields_by fields_from numbers_by numbers_from nested is_good value_of feature_of layer_of reading
odd_tile = refl

-- a bool of 2^32 is true, a sint goes by zigzag; and with a length of one more it is no good tile
pub wide_bool : reading (26 ∷ 14 ∷ 34 ∷ 6 ∷ 56 ∷ 128 ∷ 128 ∷ 128 ∷ 128 ∷ 16 ∷ 34 ∷ 2 ∷ 48 ∷ 3 ∷ 120 ∷ 2 ∷ [])
    ≡ some (record { name = []; version = 2; extent = 4096; keys = []; values = bool true ∷ sint (negsuc 1) ∷ []; features = [] } ∷ [])
unfolding unparam read_varint follows varint_at content field_at fields_by fields_from numbers_by numbers_from nested is_good value_of feature_of layer_of reading
wide_bool = refl

pub cut_tile : reading (26 ∷ 15 ∷ 34 ∷ 6 ∷ 56 ∷ 128 ∷ 128 ∷ 128 ∷ 128 ∷ 16 ∷ 34 ∷ 2 ∷ 48 ∷ 3 ∷ 120 ∷ 2 ∷ []) ≡ none
unfolding read_varint follows varint_at content field_at fields_by fields_from numbers_by numbers_from nested is_good value_of feature_of layer_of reading
cut_tile = refl
