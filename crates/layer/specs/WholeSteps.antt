-- What the private steps of a whole feature ask for and leave behind. No promise of a public function rests on this.
use Rattle.std.specs.Prelude.{ℕ, ◌+◌, ◌*◌, ◌≤◌, ◌≡◌, Bool, true, false, cond, List, length, get_or, take, leb}
use Rattle.refusal.specs.declared.Refusal.{Refusal}
use Rattle.refusal.specs.declared.Refusal.TheVariants.{Job, Kind, State, Room, Text as TextRefusal, Utf8, Turn, Again}
use Rattle.table.specs.Texts.{max_bytes}
use Rattle.words.specs.Geometries.{is_kind, max_words}
use Rattle.index.specs.Chains.{serves}
use Rattle.index.specs.Entries.{built_keys, built_values}
use Rattle.layer.specs.declared.Figures.{Figures}
use Rattle.std.specs.Prelude.{Option, Some, None, Result, Ok, Err}
use Rattle.layer.specs.Answers.{Changed}
use Rattle.layer.specs.Many.{Added}
use Rattle.layer.specs.declared.tag_list.Place.{Place}
use Rattle.layer.specs.declared.whole_feature.Head.{Head}
use Rattle.layer.specs.declared.Layer.{Layer}
use Rattle.layer.specs.Held.{Memory, fits, Seen, seen, Change, refuses, holds, onto}
use Rattle.layer.specs.State.{valid}
use Rattle.layer.specs.Calls.{is_shut, Tag, tag_put}
use Rattle.layer.specs.TagLists.{tag_words, len_at, kind_at, low_at, high_at, value_given, text_place, ok_at, tags_ok, tags_short, short_at, tags_utf8, tags_of, takes_keys}
use Rattle.layer.specs.Whole.{tags_put, feature_put}
use Rattle.layer.specs.Lookup.{Index, idx, Current, Kept}

-- where the parts of the tag of five words stand
abbrev pub place_at : List ℕ → ℕ → Place
place_at ws i =
    record {
      key = record { start = get_or ws i 0; len = get_or ws (i + len_at) 0 };
      value = value_given (get_or ws (i + kind_at) 0) (get_or ws (i + low_at) 0) (get_or ws (i + high_at) 0);
      text = text_place (get_or ws (i + kind_at) 0) (get_or ws (i + low_at) 0) (get_or ws (i + high_at) 0);
    }

-- five words stand at index i, and are a tag that no refusal but ROOM can meet
pub record TagThere (bytes ws : List ℕ) (i : ℕ) : Type 0 where
  pub words : i + tag_words ≤ length ws
  pub ok : ok_at (length bytes) ws i ≡ true
  pub short : short_at ws i ≡ true

-- ---- whether a feature has room
-- a list of tags that no refusal but ROOM can meet, and a layer that breaks no rule of STATE, with its indexes
pub record Asking (s : Layer) (words : ℕ) (ws bytes : List ℕ) (m : Memory) (x : Index) : Type 0 where
  pub few : words ≤ max_words
  pub list : tags_ok (length bytes) ws ≡ true
  pub short : tags_short ws ≡ true
  pub stands : valid (seen s m) ≡ true
  pub current : Current (seen s m) x

-- r says whether the figures after a feature of so many words and of these tags fit, whatever else the feature is
pub record Decides (r : Bool) (n : ℕ) (ts : List Tag) (v : Seen) : Type 0 where
  pub decides : (f : Head) (words : List ℕ) → length words ≡ n → r ≡ fits (feature_put f words ts v).layer.used v.room

-- ---- the checks before ROOM, as the one answer of `first_refusal`
abbrev pub asked : Bool → Bool → Bool → Bool → Bool → Bool → Bool → Bool → Result (Unit {0}) Refusal
asked list kind stands short utf8 shut once few =
    cond list
    (cond kind
    (cond stands
    (cond short
    (cond utf8 (cond shut (cond once (cond few (Ok tt) (Err Room)) (Err Again)) (Err Turn)) (Err Utf8))
    (Err TextRefusal))
    (Err State))
    (Err Kind))
    (Err Job)

abbrev pub asks : Option Figures → Bool → Bool → ℕ → ℕ → List ℕ → List ℕ → Result (Unit {0}) Refusal
asks f strict stands kind words ws bytes =
    asked (tags_ok (length bytes) ws) (is_kind kind) stands (tags_short ws) (tags_utf8 (tags_of bytes ws)) (is_shut f) (takes_keys strict bytes ws) (leb words max_words)

-- ---- putting
-- what a step leaves behind of the lists m and the indexes x: what is seen then, with its indexes
pub record Leaves (w : Seen) (r : Layer) (m n : Memory) (x y : Index) : Type 0 where
  pub layer : r ≡ w.layer
  pub memory : n ≡ onto w.held m
  pub kept : Kept w.room x y
  pub current : Current w y

-- lists as long as they were
pub record Long (m n : Memory) : Type 0 where
  pub keys : length n.keys ≡ length m.keys
  pub values : length n.values ≡ length m.values
  pub texts : length n.texts ≡ length m.texts
  pub features : length n.features ≡ length m.features

-- a tag may be put: the layer breaks no rule of STATE, its feature was opened at o, and the figures after the tag fit
pub record MayTag (s : Layer) (o : Figures) (t : Tag) (m : Memory) (x : Index) : Type 0 where
  pub stands : valid (seen s m) ≡ true
  pub since : s.feature ≡ Some o
  pub room : fits (tag_put o t (seen s m)).layer.used (seen s m).room ≡ true
  pub small_key : length t.key ≤ max_bytes
  pub small_text : length t.text ≤ max_bytes
  pub current : Current (seen s m) x

-- so may the tags of a list
pub record MayFill (s : Layer) (o : Figures) (ws bytes : List ℕ) (m : Memory) (x : Index) : Type 0 where
  pub stands : valid (seen s m) ≡ true
  pub since : s.feature ≡ Some o
  pub list : tags_ok (length bytes) ws ≡ true
  pub short : tags_short ws ≡ true
  pub room : fits (tags_put o (tags_of bytes ws) (seen s m)).layer.used (seen s m).room ≡ true
  pub current : Current (seen s m) x

-- nothing but ROOM can refuse the feature
pub record Welcome (s : Layer) (kind : ℕ) (words ws bytes : List ℕ) (m : Memory) : Type 0 where
  pub list : tags_ok (length bytes) ws ≡ true
  pub kind_good : is_kind kind ≡ true
  pub stands : valid (seen s m) ≡ true
  pub short : tags_short ws ≡ true
  pub utf8 : tags_utf8 (tags_of bytes ws) ≡ true
  pub shut : s.feature ≡ None
  pub once : takes_keys s.strict bytes ws ≡ true
  pub few : length words ≤ max_words

-- and it has room
pub record MayPut (s : Layer) (f : Head) (words ws bytes : List ℕ) (m : Memory) (x : Index) : Type 0 where
  pub welcome : Welcome s f.kind words ws bytes m
  pub room : fits (feature_put f words (tags_of bytes ws) (seen s m)).layer.used (seen s m).room ≡ true
  pub current : Current (seen s m) x

-- ---- a whole feature
-- the indexes of what so much of the lists holds, in tables with this room
abbrev pub indexed_by : Figures → Figures → List ℕ → List ℕ → List ℕ → Index → Index
indexed_by u room ks vs ts x =
    idx
    (cond (serves (length x.keys) room.keys) (built_keys x.keys (take (u.keys * 2) ks) (take u.texts ts)) x.keys)
    (cond (serves (length x.values) room.values) (built_values x.values (take (u.values * 3) vs) (take u.texts ts)) x.values)

-- so much of the lists is there
pub record UsedIn (u : Figures) (ks vs ts : List ℕ) : Type 0 where
  pub in_keys : u.keys * 2 ≤ length ks
  pub in_values : u.values * 3 ≤ length vs
  pub in_texts : u.texts ≤ length ts

-- the indexes are those of what the layer holds where they are built, and there is no more to ask of them where they are not
abbrev pub CurrentIf : Bool → Seen → Index → Type 0
CurrentIf true v x = Current v x
CurrentIf false v x = Unit {0}

pub record Known (s : Layer) (stands built : Bool) (m : Memory) (x : Index) : Type 0 where
  pub state : stands ≡ valid (seen s m)
  pub current : CurrentIf built (seen s m) x

pub record Given (s : Layer) (built : Bool) (f : Head) (words ws bytes : List ℕ) (m : Memory) (x : Index) : Type 0 where
  pub welcome : Welcome s f.kind words ws bytes m
  pub current : CurrentIf built (seen s m) x

-- an accepted feature leaves a layer that breaks no rule of STATE, and the indexes right
pub record Accepted (c : Change) (s t : Layer) (m n : Memory) (x y : Index) : Type 0 where
  pub held : Memory
  pub is : c ≡ holds t held
  pub memory : n ≡ onto held m
  pub stood : valid (seen s m) ≡ true
  pub stands : valid (seen t n) ≡ true
  pub long : Long m n
  pub kept : Kept (seen s m).room x y
  pub current : Current (seen t n) y

-- a refused one leaves everything as it was
pub record NotAccepted (c : Change) (q : Refusal) (s u : Layer) (m n : Memory) (x y : Index) : Type 0 where
  pub is : c ≡ refuses q
  pub layer : u ≡ s
  pub memory : n ≡ m
  pub index : y ≡ x

abbrev pub LeavesFeature : Change → Layer → Changed → Memory → Memory → Index → Index → Type 0
LeavesFeature c s (Ok t) m n x y = Accepted c s t m n x y
LeavesFeature c s (Err e) m n x y = NotAccepted c e.refusal s e.kept m n x y

-- behind the last head
abbrev pub all_read : Bool → Layer → ℕ → Added
all_read stands s n = cond stands (Ok (s, n)) (Err (record { refusal = State; kept = (s, n) }))
