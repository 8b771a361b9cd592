-- Document 01, "Tags and rollback": the calls on a layer, each as what it makes of what it sees, with its checks in the table's order.
use Rattle.std.specs.Prelude.{ℕ, ◌+◌, ◌-◌, ◌*◌, ◌%◌, ◌/◌, Bool, true, false, cond, not, List, [], ◌∷◌, ◌++◌, map, length, get_or, set, take, drop, leb, ltb, eqb}
pub use Rattle.whole.specs.Twos.{bits_of}
use Rattle.promise.specs.Answers.{Written, kept}
use Rattle.promise.specs.Laid.{lay}
use Rattle.refusal.specs.Said.{Said, accepted, refused}
use Rattle.refusal.specs.declared.Refusal.TheVariants.{Kind, State, Room, Text as TextRefusal, Utf8, Turn, Again}
use Rattle.utf8.specs.Utf8.{is_utf8}
use Rattle.std.specs.Prelude.{Option, Some, None}
use Rattle.table.specs.declared.Value.{Value}
use Rattle.table.specs.Texts.{short_text, same_text}
use Rattle.table.specs.Keys.{find_key}
pub use Rattle.table.specs.Keys.{index_of}
use Rattle.table.specs.Values.{text_kind, find_value, value_ok}
use Rattle.words.specs.Geometries.{is_kind, max_words}
use Rattle.table.specs.declared.Text.{Text}
use Rattle.records.specs.Records.{head_words, mark_at, tags_at, records_in}
use Rattle.layer.specs.declared.Figures.{Figures}
use Rattle.layer.specs.declared.Layer.{Layer}
use Rattle.layer.specs.Held.{Memory, Seen, Change, holds, check, when_open, fits, held_by, smaller, max_texts}
use Rattle.layer.specs.Answers.{Told, tells, tells_not}
use Rattle.layer.specs.State.{valid}

-- ---- opening a feature: KIND, STATE, TURN, ROOM
abbrev pub is_shut : Option Figures → Bool
is_shut None = true
is_shut (Some o) = false

-- the figures with so many feature words more
abbrev pub more_words : Figures → ℕ → Figures
more_words u n = record { keys = u.keys; values = u.values; texts = u.texts; features = u.features + n }

-- the layer with these figures, and a feature open or not
abbrev pub with_used : Layer → Figures → Option Figures → Layer
with_used s u f = record { extent = s.extent; strict = s.strict; name = s.name; used = u; feature = f }

abbrev pub with_features : Memory → List ℕ → Memory
with_features h fs = record { keys = h.keys; values = h.values; texts = h.texts; features = fs }

-- a record without tags: kind, id mark, the halves of the id, no tag words, and its geometry as given
abbrev pub record_with : ℕ → ℕ → ℕ → List ℕ → List ℕ
record_with kind mark id words = kind ∷ mark ∷ id % 4294967296 ∷ id / 4294967296 ∷ 0 ∷ length words ∷ words

-- a new record: no id
abbrev pub new_record : ℕ → List ℕ → List ℕ
new_record kind words = record_with kind 0 0 words

abbrev pub opened : ℕ → List ℕ → Seen → Change
opened kind words v =
    check (leb (length words) max_words) Room
    (check (fits (more_words v.layer.used (head_words + length words)) v.room) Room
    (holds
    (with_used v.layer (more_words v.layer.used (head_words + length words)) (Some v.layer.used))
    (with_features v.held (v.held.features ++ new_record kind words))))

abbrev pub into_feature : ℕ → List ℕ → Seen → Change
into_feature kind words v =
    check (is_kind kind) Kind (check (valid v) State (check (is_shut v.layer.feature) Turn (opened kind words v)))

-- ---- setting the id: STATE, TURN. The id mark and the two halves are words 1 to 3 of the open record
abbrev pub marked : ℕ → ℕ → Seen → Figures → Change
marked low high v o = holds v.layer (with_features v.held (lay (o.features + mark_at) (1 ∷ low ∷ high ∷ []) v.held.features))

abbrev pub set_id : ℕ → ℕ → Seen → Change
set_id low high v = check (valid v) State (when_open v.layer.feature (λ o. marked low high v o))

-- ---- closing and abandoning: STATE, TURN. Abandoning cuts all used figures back to those at opening
abbrev pub into_layer : Seen → Change
into_layer v =
    check (valid v) State
    (when_open v.layer.feature (λ o. holds (with_used v.layer v.layer.used None) v.held))

abbrev pub abandoned : Seen → Change
abandoned v =
    check (valid v) State
    (when_open v.layer.feature (λ o. holds (with_used v.layer o None) (held_by o v.held)))

-- ---- a tag: STATE, TEXT, UTF8, TURN, AGAIN, ROOM
-- a key, and a value with its text, which is empty but for a text
pub record Tag : Type 0 where
  pub key : List ℕ
  pub value : Value
  pub text : List ℕ

-- a value as the seven tag calls make it: a text, or a content of its kind
abbrev pub is_value : Value → Bool
is_value v = cond (eqb v.kind text_kind) true (value_ok 0 v.kind v.low v.high)

-- how much is put, of n
abbrev pub more_of : Option ℕ → ℕ → ℕ
more_of (Some j) n = 0
more_of None n = n

-- the run that is put
abbrev pub put_of : Option ℕ → List ℕ → List ℕ
put_of (Some j) run = []
put_of None run = run

-- the words of a key whose text starts at start, and of a value
abbrev pub key_words : ℕ → List ℕ → List ℕ
key_words start key = start ∷ length key ∷ []

abbrev pub stored_as : ℕ → Value → ℕ → Value
stored_as start v len = cond (eqb v.kind text_kind) (record { kind = text_kind; low = start; high = len }) v

abbrev pub words_of : Value → List ℕ
words_of v = v.kind ∷ v.low ∷ v.high ∷ []

abbrev pub value_words : ℕ → Value → List ℕ → List ℕ
value_words start v text = words_of (stored_as start v (length text))

-- the figures after a tag, reckoned without a limit on room
abbrev pub grown_by : Figures → Option ℕ → Option ℕ → ℕ → ℕ → Figures
grown_by u kf vf key text =
    record {
      keys = u.keys + more_of kf 1;
      values = u.values + more_of vf 1;
      texts = u.texts + more_of kf key + more_of vf text;
      features = u.features + 2;
    }

-- the record at index at with a tag more: its two words behind it, and its tag word count two more
abbrev pub with_tag : ℕ → ℕ → ℕ → List ℕ → List ℕ
with_tag at k v ws = set (ws ++ (k ∷ v ∷ [])) (at + tags_at) (get_or ws (at + tags_at) 0 + 2)

-- what is held after a tag: new entries go last, key before value, and so do their texts
abbrev pub held_with : Figures → Figures → Memory → Tag → Option ℕ → Option ℕ → Memory
held_with u o h t kf vf =
    record {
      keys = h.keys ++ put_of kf (key_words u.texts t.key);
      values = h.values ++ put_of vf (value_words (u.texts + more_of kf (length t.key)) t.value t.text);
      texts = h.texts ++ (put_of kf t.key ++ put_of vf t.text);
      features = with_tag o.features (index_of kf u.keys) (index_of vf u.values) h.features;
    }

-- what is seen after a tag of the feature opened at o, whatever the room; kf and vf are what was found
abbrev pub tag_put_by : Figures → Tag → Seen → Option ℕ → Option ℕ → Seen
tag_put_by o t v kf vf =
    record {
      layer = with_used v.layer (grown_by v.layer.used kf vf (length t.key) (length t.text)) v.layer.feature;
      held = held_with v.layer.used o v.held t kf vf;
      room = v.room;
    }

abbrev pub key_found : Tag → Seen → Option ℕ
key_found t v = find_key 0 v.held.keys v.held.texts t.key

abbrev pub value_found : Tag → Seen → Option ℕ
value_found t v = find_value 0 v.held.values v.held.texts t.value t.text

abbrev pub tag_put : Figures → Tag → Seen → Seen
tag_put o t v = tag_put_by o t v (key_found t v) (value_found t v)

-- ROOM: the result, reckoned without a limit on room, exceeds the room
abbrev pub if_room : Seen → Change
if_room w = check (fits w.layer.used w.room) Room (holds w.layer w.held)

abbrev pub tagged_by : Tag → Seen → Figures → Option ℕ → Option ℕ → Change
tagged_by t v o kf vf = if_room (tag_put_by o t v kf vf)

abbrev pub tagged : Tag → Seen → Figures → Change
tagged t v o = if_room (tag_put o t v)

-- AGAIN: "In a strict layer, chosen when the layer is opened, a tag whose key the open feature already has is refused." An ordinary layer takes every key
-- entry k of the keys is there, and its text is key
abbrev pub is_key : List ℕ → List ℕ → ℕ → List ℕ → Bool
is_key ks ts k key = cond (ltb k (length ks / 2)) (same_text ts (get_or ks (k * 2) 0) (get_or ks (k * 2 + 1) 0) key) false

-- so of a tag among these tag words, each an index of a key and one of a value
abbrev pub has_key : List ℕ → List ℕ → List ℕ → List ℕ → Bool
has_key ks ts [] key = false
has_key ks ts (k ∷ []) key = false
has_key ks ts (k ∷ v ∷ ws) key = cond (is_key ks ts k key) true (has_key ks ts ws key)

-- the tag words of the record at index at, which is the last: so many as it says, at the end
abbrev pub last_tags : List ℕ → ℕ → List ℕ
last_tags ws at = drop (length ws - get_or ws (at + tags_at) 0) ws

abbrev pub takes_key : Bool → Memory → ℕ → List ℕ → Bool
takes_key strict h at key = cond strict (not (has_key h.keys h.texts (last_tags h.features at) key)) true

abbrev pub tagged_once : Tag → Seen → Figures → Change
tagged_once t v o = check (takes_key v.layer.strict v.held o.features t.key) Again (tagged t v o)

abbrev pub add_tag : Tag → Seen → Change
add_tag t v =
    check (valid v) State
    (check (short_text (length t.key)) TextRefusal
    (check (short_text (length t.text)) TextRefusal
    (check (is_utf8 t.key) Utf8
    (check (is_utf8 t.text) Utf8
    (when_open v.layer.feature (λ o. tagged_once t v o))))))

-- the seven kinds of value. A whole number is 64 bits, of which a negative one takes the two's complement
abbrev pub value_of : ℕ → ℕ → Value
value_of kind bits = record { kind = kind; low = bits % 4294967296; high = bits / 4294967296 }

abbrev pub bit_of : Bool → ℕ
bit_of b = cond b 1 0

abbrev pub tag_string : List ℕ → List ℕ → Tag
tag_string key text = record { key = key; value = record { kind = text_kind; low = 0; high = 0 }; text = text }

abbrev pub tag_bits : ℕ → List ℕ → ℕ → Tag
tag_bits kind key bits = record { key = key; value = value_of kind bits; text = [] }

-- ---- creating a layer: TEXT, UTF8, ROOM. The name is the first text
abbrev pub new_layer : List ℕ → ℕ → Layer
new_layer name extent = record { extent = extent; strict = false; name = length name; used = record { keys = 0; values = 0; texts = length name; features = 0 }; feature = None }

abbrev pub created : List ℕ → ℕ → List ℕ → Written (Said (List Layer)) (List ℕ)
created name extent ts =
    cond (short_text (length name))
    (cond (is_utf8 name)
    (cond (leb (length name) (smaller (length ts) max_texts))
    (record { answer = accepted (new_layer name extent ∷ []); memory = lay 0 name ts })
    (kept (refused Room []) ts))
    (kept (refused Utf8 []) ts))
    (kept (refused TextRefusal []) ts)

-- a strict layer, otherwise the same
abbrev pub chosen : Bool → Layer → Layer
chosen b s = record { extent = s.extent; strict = b; name = s.name; used = s.used; feature = s.feature }

abbrev pub strictly : Said (List Layer) → Said (List Layer)
strictly a = record { number = a.number; place = a.place; values = map (chosen true) a.values }

abbrev pub created_strict : List ℕ → ℕ → List ℕ → Written (Said (List Layer)) (List ℕ)
created_strict name extent ts = record { answer = strictly (created name extent ts).answer; memory = (created name extent ts).memory }

-- ---- asking: STATE, and of an open feature TURN
-- how many features are complete: the records before the open one
abbrev pub complete : Option Figures → Figures → ℕ
complete None used = used.features
complete (Some o) used = o.features

abbrev pub num_features : Seen → Said (Told ℕ)
num_features v =
    cond (valid v)
    (tells (index_of (records_in 0 0 (take (complete v.layer.feature v.layer.used) v.held.features)) 0))
    (tells_not State 0 v.layer)

-- how many tag words the open feature has, two a tag
abbrev pub tags_in : Option Figures → Seen → Said (Told ℕ)
tags_in None v = tells_not Turn 0 v.layer
tags_in (Some o) v = tells (get_or v.held.features (o.features + tags_at) 0)

abbrev pub num_tags : Seen → Said (Told ℕ)
num_tags v = cond (valid v) (tags_in v.layer.feature v) (tells_not State 0 v.layer)

-- where the name stands
abbrev pub name_of : Seen → Said (Told (List Text))
name_of v = cond (valid v) (tells (record { start = 0; len = v.layer.name } ∷ [])) (tells_not State [] v.layer)
