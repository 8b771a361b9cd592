-- What `open` prints of a tile, piece by piece, to the byte. In the texts D is a number in decimal without leading zeros, LF the line's end:
--     "layers " D LF
--     "layer " TEXT " version " D " extent " D " keys " D " values " D " features " D LF
--     "feature type " D [" id " D] LF "tags" (" " D)* LF "geometry" (" " D)* LF
-- Here is what has a number in it; TEXT is in Quoted, the lines of values are in Values, and the other words stand in the program as they are.
use Rattle.std.specs.Prelude.{ℕ, ◌*◌, List, [], ◌∷◌, ◌++◌, length, Option as Maybe, Some, None}
use Rattle.printed.specs.Decimal.{decimal}
use Rattle.printed.specs.Printed.{newline, space}

-- a number behind its name
abbrev pub named : List ℕ → ℕ → List ℕ
named name n = name ++ decimal n

-- words, and the line's end
abbrev pub line : List ℕ → List ℕ
line words = words ++ (newline ∷ [])

-- "layers "
abbrev pub layers_head : List ℕ
layers_head = 108 ∷ 97 ∷ 121 ∷ 101 ∷ 114 ∷ 115 ∷ 32 ∷ []

-- " version "
abbrev pub version_head : List ℕ
version_head = 32 ∷ 118 ∷ 101 ∷ 114 ∷ 115 ∷ 105 ∷ 111 ∷ 110 ∷ 32 ∷ []

-- " extent "
abbrev pub extent_head : List ℕ
extent_head = 32 ∷ 101 ∷ 120 ∷ 116 ∷ 101 ∷ 110 ∷ 116 ∷ 32 ∷ []

-- " keys "
abbrev pub keys_head : List ℕ
keys_head = 32 ∷ 107 ∷ 101 ∷ 121 ∷ 115 ∷ 32 ∷ []

-- " values "
abbrev pub values_head : List ℕ
values_head = 32 ∷ 118 ∷ 97 ∷ 108 ∷ 117 ∷ 101 ∷ 115 ∷ 32 ∷ []

-- " features "
abbrev pub features_head : List ℕ
features_head = 32 ∷ 102 ∷ 101 ∷ 97 ∷ 116 ∷ 117 ∷ 114 ∷ 101 ∷ 115 ∷ 32 ∷ []

-- "feature type "
abbrev pub feature_head : List ℕ
feature_head = 102 ∷ 101 ∷ 97 ∷ 116 ∷ 117 ∷ 114 ∷ 101 ∷ 32 ∷ 116 ∷ 121 ∷ 112 ∷ 101 ∷ 32 ∷ []

-- " id "
abbrev pub id_head : List ℕ
id_head = 32 ∷ 105 ∷ 100 ∷ 32 ∷ []

-- ---- the texts
abbrev pub layers_text : ℕ → List ℕ
layers_text n = line (named layers_head n)

-- what stands behind the name of a layer
abbrev pub layer_end_text : ℕ → ℕ → ℕ → ℕ → ℕ → List ℕ
layer_end_text version extent keys values features =
    line (named version_head version ++ named extent_head extent ++ named keys_head keys ++ named values_head values ++ named features_head features)

abbrev pub id_text : Maybe ℕ → List ℕ
id_text None = []
id_text (Some id) = named id_head id

abbrev pub feature_text : ℕ → Maybe ℕ → List ℕ
feature_text kind id = line (named feature_head kind ++ id_text id)

-- a portion of the tags or of a geometry, which stand on one line
abbrev pub numbers_text : List ℕ → List ℕ
numbers_text [] = []
numbers_text (n ∷ ns) = named (space ∷ []) n ++ numbers_text ns

-- ---- what a text is lent for: the names, at most twenty digits for each number, and the line's end
abbrev pub layers_room : ℕ
layers_room = 28

abbrev pub layer_end_room : ℕ
layer_end_room = 142

abbrev pub feature_room : ℕ
feature_room = 58

abbrev pub numbers_room : List ℕ → ℕ
numbers_room ns = 21 * length ns
