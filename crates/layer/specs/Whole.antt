-- A whole feature in one call: opened, its id set, tagged and closed. Its checks come first, in the table's order and of all that it was given: JOB, KIND,
-- STATE, TEXT, UTF8, TURN, AGAIN, and ROOM last, of the result reckoned without a limit on room; only then is anything written.
use Rattle.std.specs.Prelude.{ℕ, ◌+◌, cond, List, [], ◌∷◌, ◌++◌, length, leb}
use Rattle.refusal.specs.declared.Refusal.TheVariants.{Job, Kind, State, Room, Text as TextRefusal, Utf8, Turn, Again}
use Rattle.words.specs.Geometries.{is_kind, max_words}
use Rattle.records.specs.Records.{head_words}
use Rattle.layer.specs.declared.Figures.{Figures}
use Rattle.std.specs.Prelude.{Some, None}
use Rattle.layer.specs.declared.whole_feature.Head.{Head}
use Rattle.layer.specs.Held.{Seen, Change, check}
use Rattle.layer.specs.State.{valid}
use Rattle.layer.specs.Calls.{is_shut, more_words, with_used, with_features, record_with, Tag, tag_put, if_room}
use Rattle.layer.specs.TagLists.{tags_ok, tags_short, tags_utf8, tags_of, takes_keys}

-- ---- what is seen after each step, whatever the room
-- the feature opened, with its id if it has one
abbrev pub mark_of : Head → ℕ
mark_of f = cond f.has_id 1 0

abbrev pub id_of : Head → ℕ
id_of f = cond f.has_id f.id 0

abbrev pub feature_opened : Head → List ℕ → Seen → Seen
feature_opened f words v =
    record {
      layer = with_used v.layer (more_words v.layer.used (head_words + length words)) (Some v.layer.used);
      held = with_features v.held (v.held.features ++ record_with f.kind (mark_of f) (id_of f) words);
      room = v.room;
    }

-- tags put one after the other
abbrev pub tags_put : Figures → List Tag → Seen → Seen
tags_put o [] v = v
tags_put o (t ∷ ts) v = tags_put o ts (tag_put o t v)

abbrev pub feature_shut : Seen → Seen
feature_shut v = record { layer = with_used v.layer v.layer.used None; held = v.held; room = v.room }

abbrev pub feature_put : Head → List ℕ → List Tag → Seen → Seen
feature_put f words ts v = feature_shut (tags_put v.layer.used ts (feature_opened f words v))

-- ---- the call
abbrev pub add_feature : Head → List ℕ → List ℕ → List ℕ → Seen → Change
add_feature f words ws bytes v =
    check (tags_ok (length bytes) ws) Job
    (check (is_kind f.kind) Kind
    (check (valid v) State
    (check (tags_short ws) TextRefusal
    (check (tags_utf8 (tags_of bytes ws)) Utf8
    (check (is_shut v.layer.feature) Turn
    (check (takes_keys v.layer.strict bytes ws) Again
    (check (leb (length words) max_words) Room
    (if_room (feature_put f words (tags_of bytes ws) v)))))))))
