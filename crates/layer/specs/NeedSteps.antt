-- What the private steps ask for and give that reckon whether a feature has room before anything is written. No promise of a public function rests on this.
use Rattle.std.specs.Prelude.{ℕ, ◌+◌, ◌-◌, ◌*◌, ◌/◌, ◌≤◌, ◌≡◌, Bool, true, false, cond, ◌&&◌, List, [], ◌∷◌, ◌++◌, length, get_or, take, leb}
use Rattle.std.specs.Prelude.{Option, Some, None}
use Rattle.table.specs.declared.Text.{Text}
use Rattle.table.specs.declared.Value.{Value}
use Rattle.table.specs.Texts.{text_of, max_bytes}
use Rattle.table.specs.Keys.{find_key}
use Rattle.table.specs.Values.{same_value, find_value}
use Rattle.index.specs.Hashes.{hash_text, hash_value}
use Rattle.layer.specs.declared.Figures.{Figures}
use Rattle.layer.specs.Held.{fits, max_keys, max_values, max_texts, max_feature_words}
use Rattle.layer.specs.Calls.{grown_by}
use Rattle.layer.specs.TagLists.{tag_words, len_at, kind_at, low_at, high_at, value_given, text_place, tags_short, short_at, tags_ok, key_given}
use Rattle.layer.specs.Lookup.{key_by, value_by}
use Rattle.layer.specs.WholeSteps.{TagThere}

-- ---- what the tags of a list give
-- some tag has this value
abbrev pub value_among : List ℕ → List ℕ → Value → List ℕ → Bool
value_among bytes [] v text = false
value_among bytes (start ∷ []) v text = false
value_among bytes (start ∷ len ∷ []) v text = false
value_among bytes (start ∷ len ∷ kind ∷ []) v text = false
value_among bytes (start ∷ len ∷ kind ∷ low ∷ []) v text = false
value_among bytes (start ∷ len ∷ kind ∷ low ∷ high ∷ ws) v text = cond (same_value bytes kind low high v text) true (value_among bytes ws v text)

-- what was found; else anything, where an earlier tag gives it
abbrev pub if_given : Bool → Option ℕ
if_given given = cond given (Some 0) None

abbrev pub or_given : Option ℕ → Bool → Option ℕ
or_given (Some j) given = Some j
or_given None given = if_given given

-- the text at a place
abbrev pub placed_text : List ℕ → Text → List ℕ
placed_text bytes at = text_of bytes at.start at.len

-- a key, and a value with its text, each at its place
abbrev pub key_known : List ℕ → List ℕ → List ℕ → List ℕ → Text → Option ℕ
key_known ks ts bytes earlier at = or_given (find_key 0 ks ts (placed_text bytes at)) (key_given bytes earlier (placed_text bytes at))

abbrev pub value_known : List ℕ → List ℕ → List ℕ → List ℕ → Value → Text → Option ℕ
value_known vs ts bytes earlier v at = or_given (find_value 0 vs ts v (placed_text bytes at)) (value_among bytes earlier v (placed_text bytes at))

-- ---- the figures, tag by tag
-- what a tag of five words makes of the figures; the first list is the tags before it
abbrev pub Step : Type 0
Step = List ℕ → ℕ → ℕ → ℕ → ℕ → ℕ → Figures → Figures

-- a key and a value are put where they are neither in the tables nor given before
abbrev pub need_of : List ℕ → List ℕ → List ℕ → List ℕ → Step
need_of ks vs ts bytes earlier start len kind low high w =
    grown_by w
    (key_known ks ts bytes earlier (record { start = start; len = len }))
    (value_known vs ts bytes earlier (value_given kind low high) (text_place kind low high))
    len
    (text_place kind low high).len

-- every key and every value is put
abbrev pub most_of : Step
most_of earlier start len kind low high w = grown_by w None None len (text_place kind low high).len

-- so many tags fit, whatever they are: a new key and a new value each, of the longest texts
abbrev pub ample : Figures → ℕ → Figures → Bool
ample w n room =
    cond (fits w room)
    (leb n (room.keys - w.keys)
    && (leb n (room.values - w.values)
    && (leb n ((room.texts - w.texts) / (2 * max_bytes)) && leb n ((room.features - w.features) / 2))))
    false

-- all tags of a list, behind those before it
abbrev pub walked : Step → List ℕ → List ℕ → Figures → Figures
walked step earlier [] w = w
walked step earlier (start ∷ []) w = w
walked step earlier (start ∷ len ∷ []) w = w
walked step earlier (start ∷ len ∷ kind ∷ []) w = w
walked step earlier (start ∷ len ∷ kind ∷ low ∷ []) w = w
walked step earlier (start ∷ len ∷ kind ∷ low ∷ high ∷ ws) w =
    walked step (earlier ++ (start ∷ len ∷ kind ∷ low ∷ high ∷ [])) ws (step earlier start len kind low high w)

-- all tags of a list, put where they are new
abbrev pub needed : List ℕ → List ℕ → List ℕ → List ℕ → List ℕ → Figures → Figures
needed ks vs ts bytes ws w = walked (need_of ks vs ts bytes) [] ws w

-- the tag of the five words at index i
abbrev pub step_at : Step → List ℕ → ℕ → Figures → Figures
step_at step ws i w = step (take i ws) (get_or ws i 0) (get_or ws (i + len_at) 0) (get_or ws (i + kind_at) 0) (get_or ws (i + low_at) 0) (get_or ws (i + high_at) 0) w

-- ---- what the steps ask for
-- figures within the caps
pub record Capped (u : Figures) : Type 0 where
  pub keys : u.keys ≤ max_keys
  pub values : u.values ≤ max_values
  pub texts : u.texts ≤ max_texts
  pub features : u.features ≤ max_feature_words

-- what is looked up is what a scan finds
pub record KeysLooked (l : List ℕ) (room : ℕ) (ks ts : List ℕ) : Type 0 where
  pub looked : (key : List ℕ) → key_by l room ks ts key (hash_text key) ≡ find_key 0 ks ts key

pub record ValuesLooked (l : List ℕ) (room : ℕ) (vs ts : List ℕ) : Type 0 where
  pub looked : (v : Value) (text : List ℕ) → value_by l room vs ts v text (hash_value v text) ≡ find_value 0 vs ts v text

pub record KeyAsked (start len bytes : ℕ) (l : List ℕ) (room : ℕ) (ks ts : List ℕ) : Type 0 where
  pub there : start + len ≤ bytes
  pub keys : KeysLooked l room ks ts

pub record ValueAsked (start len bytes : ℕ) (l : List ℕ) (room : ℕ) (vs ts : List ℕ) : Type 0 where
  pub there : start + len ≤ bytes
  pub values : ValuesLooked l room vs ts

pub record MostAsked (w : Figures) (ws : List ℕ) (i : ℕ) : Type 0 where
  pub words : i + tag_words ≤ length ws
  pub short : short_at ws i ≡ true
  pub capped : Capped w

pub record NeedAsked (w : Figures) (ws : List ℕ) (i : ℕ) (bytes : List ℕ) (room : Figures) (ks vs ts kx vx : List ℕ) : Type 0 where
  pub there : TagThere bytes ws i
  pub capped : Capped w
  pub keys : KeysLooked kx room.keys ks ts
  pub values : ValuesLooked vx room.values vs ts

pub record MostLoop (ws : List ℕ) (room : Figures) : Type 0 where
  pub short : tags_short ws ≡ true
  pub capped : Capped room

pub record NeedLoop (ws bytes : List ℕ) (room : Figures) (ks vs ts kx vx : List ℕ) : Type 0 where
  pub list : tags_ok (length bytes) ws ≡ true
  pub short : tags_short ws ≡ true
  pub capped : Capped room
  pub keys : KeysLooked kx room.keys ks ts
  pub values : ValuesLooked vx room.values vs ts
