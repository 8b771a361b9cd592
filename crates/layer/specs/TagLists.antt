-- A lent list of tags: five words a tag, where its key starts and how long it is, the kind of its value, and then where the value's text starts and how
-- long it is, or the low and the high half of its content. The texts stand in a lent list of bytes.
use Rattle.std.specs.Prelude.{ℕ, ◌+◌, Bool, true, false, cond, not, ◌&&◌, List, [], ◌∷◌, get_or, drop, eqb}
use Rattle.table.specs.declared.Text.{Text}
use Rattle.table.specs.declared.Value.{Value}
use Rattle.table.specs.Texts.{inside, short_text, same_text, text_of}
use Rattle.table.specs.Values.{text_kind, value_ok}
use Rattle.utf8.specs.Utf8.{is_utf8}
use Rattle.layer.specs.Calls.{Tag}

-- how many words, and where they stand behind the key's start
abbrev pub tag_words : ℕ
tag_words = 5

abbrev pub len_at : ℕ
len_at = 1

abbrev pub kind_at : ℕ
kind_at = 2

abbrev pub low_at : ℕ
low_at = 3

abbrev pub high_at : ℕ
high_at = 4

-- five words are a tag: no text of it runs past so many bytes, and its value is one of the seven kinds and its content one of that kind's
abbrev pub tag_ok : ℕ → ℕ → ℕ → ℕ → ℕ → ℕ → Bool
tag_ok bytes start len kind low high = inside bytes start len && value_ok bytes kind low high

-- every five words are a tag
abbrev pub tags_ok : ℕ → List ℕ → Bool
tags_ok bytes [] = true
tags_ok bytes (start ∷ []) = false
tags_ok bytes (start ∷ len ∷ []) = false
tags_ok bytes (start ∷ len ∷ kind ∷ []) = false
tags_ok bytes (start ∷ len ∷ kind ∷ low ∷ []) = false
tags_ok bytes (start ∷ len ∷ kind ∷ low ∷ high ∷ ws) = cond (tag_ok bytes start len kind low high) (tags_ok bytes ws) false

-- the value of three words as its tag call makes it: of a text the place is found when it is stored
abbrev pub value_given : ℕ → ℕ → ℕ → Value
value_given kind low high = cond (eqb kind text_kind) (record { kind = text_kind; low = 0; high = 0 }) (record { kind = kind; low = low; high = high })

-- where the text of three words stands; what is no text has an empty one
abbrev pub text_place : ℕ → ℕ → ℕ → Text
text_place kind low high = cond (eqb kind text_kind) (record { start = low; len = high }) (record { start = 0; len = 0 })

-- the tag of five words
abbrev pub tag_of : List ℕ → ℕ → ℕ → ℕ → ℕ → ℕ → Tag
tag_of bytes start len kind low high =
    record {
      key = text_of bytes start len;
      value = value_given kind low high;
      text = text_of bytes (text_place kind low high).start (text_place kind low high).len;
    }

-- the test and the tag of the five words at index i of a list
abbrev pub ok_at : ℕ → List ℕ → ℕ → Bool
ok_at bytes ws i = tag_ok bytes (get_or ws i 0) (get_or ws (i + len_at) 0) (get_or ws (i + kind_at) 0) (get_or ws (i + low_at) 0) (get_or ws (i + high_at) 0)

abbrev pub tag_at : List ℕ → List ℕ → ℕ → Tag
tag_at bytes ws i = tag_of bytes (get_or ws i 0) (get_or ws (i + len_at) 0) (get_or ws (i + kind_at) 0) (get_or ws (i + low_at) 0) (get_or ws (i + high_at) 0)

-- the tags of a list, in their order
abbrev pub tags_of : List ℕ → List ℕ → List Tag
tags_of bytes [] = []
tags_of bytes (start ∷ []) = []
tags_of bytes (start ∷ len ∷ []) = []
tags_of bytes (start ∷ len ∷ kind ∷ []) = []
tags_of bytes (start ∷ len ∷ kind ∷ low ∷ []) = []
tags_of bytes (start ∷ len ∷ kind ∷ low ∷ high ∷ ws) = tag_of bytes start len kind low high ∷ tags_of bytes ws

-- TEXT: no key and no text has more bytes than a text may have
abbrev pub short_tag : ℕ → ℕ → ℕ → ℕ → Bool
short_tag len kind low high = short_text len && short_text (text_place kind low high).len

abbrev pub tags_short : List ℕ → Bool
tags_short [] = true
tags_short (start ∷ []) = true
tags_short (start ∷ len ∷ []) = true
tags_short (start ∷ len ∷ kind ∷ []) = true
tags_short (start ∷ len ∷ kind ∷ low ∷ []) = true
tags_short (start ∷ len ∷ kind ∷ low ∷ high ∷ ws) = cond (short_tag len kind low high) (tags_short ws) false

abbrev pub short_at : List ℕ → ℕ → Bool
short_at ws i = short_tag (get_or ws (i + len_at) 0) (get_or ws (i + kind_at) 0) (get_or ws (i + low_at) 0) (get_or ws (i + high_at) 0)

-- UTF8: every key and every text is
abbrev pub tag_utf8 : Tag → Bool
tag_utf8 t = is_utf8 t.key && is_utf8 t.text

abbrev pub tags_utf8 : List Tag → Bool
tags_utf8 [] = true
tags_utf8 (t ∷ ts) = cond (tag_utf8 t) (tags_utf8 ts) false

-- AGAIN: in a strict layer no key comes twice
-- some tag of the list has this key
abbrev pub key_given : List ℕ → List ℕ → List ℕ → Bool
key_given bytes [] key = false
key_given bytes (start ∷ []) key = false
key_given bytes (start ∷ len ∷ []) key = false
key_given bytes (start ∷ len ∷ kind ∷ []) key = false
key_given bytes (start ∷ len ∷ kind ∷ low ∷ []) key = false
key_given bytes (start ∷ len ∷ kind ∷ low ∷ high ∷ ws) key = cond (same_text bytes start len key) true (key_given bytes ws key)

abbrev pub keys_once : List ℕ → List ℕ → Bool
keys_once bytes [] = true
keys_once bytes (start ∷ []) = true
keys_once bytes (start ∷ len ∷ []) = true
keys_once bytes (start ∷ len ∷ kind ∷ []) = true
keys_once bytes (start ∷ len ∷ kind ∷ low ∷ []) = true
keys_once bytes (start ∷ len ∷ kind ∷ low ∷ high ∷ ws) = cond (not (key_given bytes ws (text_of bytes start len))) (keys_once bytes ws) false

abbrev pub once_at : List ℕ → List ℕ → ℕ → Bool
once_at bytes ws i = not (key_given bytes (drop (i + tag_words) ws) (text_of bytes (get_or ws i 0) (get_or ws (i + len_at) 0)))

abbrev pub takes_keys : Bool → List ℕ → List ℕ → Bool
takes_keys strict bytes ws = cond strict (keys_once bytes ws) true
