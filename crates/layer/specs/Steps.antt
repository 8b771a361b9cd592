-- What the private steps of a tag ask for and leave behind. No promise of a public function rests on more than layer's specs/Calls.antt.
use Rattle.std.specs.Prelude.{ℕ, ◌+◌, ◌*◌, ◌≤◌, ◌≡◌, true, List, [], ◌∷◌, ◌++◌, length, get_or, set}
use Rattle.promise.specs.Laid.{lay}
use Rattle.std.specs.Prelude.{Option}
use Rattle.table.specs.Texts.{max_bytes}
use Rattle.records.specs.Records.{head_words, tags_at}
use Rattle.layer.specs.declared.Figures.{Figures}
use Rattle.layer.specs.declared.Layer.{Layer}
use Rattle.layer.specs.Held.{Memory, fits, room_of, max_keys, max_values, max_texts, max_feature_words}
use Rattle.layer.specs.Calls.{Tag, index_of, more_of, put_of, key_words, value_words}

pub record Grows (f : Option ℕ) (n r : ℕ) : Type 0 where
  pub same : r ≡ more_of f n
  pub small : r ≤ n

-- the caps as figures
abbrev pub caps : Figures
caps = record { keys = max_keys; values = max_values; texts = max_texts; features = max_feature_words }

-- figures and lengths whose sums stay small
pub record Small (u : Figures) (key text : ℕ) : Type 0 where
  pub keys : u.keys ≤ max_keys
  pub values : u.values ≤ max_values
  pub texts : u.texts ≤ max_texts
  pub features : u.features ≤ max_feature_words
  pub small_key : key ≤ max_bytes
  pub small_text : text ≤ max_bytes

-- an entry of so many words and a text of len bytes have room where they are put
pub record EntryRoom (f : Option ℕ) (words len at start entries texts : ℕ) : Type 0 where
  pub in_entries : at + more_of f words ≤ entries
  pub in_texts : start + more_of f len ≤ texts
  pub small_start : start ≤ max_texts
  pub small_len : len ≤ max_bytes

pub record Puts (f : Option ℕ) (words text : List ℕ) (at start : ℕ) (es ts es₂ ts₂ : List ℕ) : Type 0 where
  pub entries : es₂ ≡ lay at (put_of f words) es
  pub texts : ts₂ ≡ lay start (put_of f text) ts

-- the two words of a tag have room at end, and the count of the record at index at stands before them
pub record PairRoom (at end k v : ℕ) (fs : List ℕ) : Type 0 where
  pub in_features : end + 2 ≤ length fs
  pub head : at + head_words + get_or fs (at + tags_at) 0 ≤ end
  pub small_end : end + 2 ≤ max_feature_words
  pub small_key : k ≤ max_keys
  pub small_value : v ≤ max_values

pub record TagRoom (u o : Figures) (kf vf : Option ℕ) (key text : ℕ) (m : Memory) : Type 0 where
  pub in_keys : u.keys * 2 + more_of kf 2 ≤ length m.keys
  pub in_values : u.values * 3 + more_of vf 3 ≤ length m.values
  pub in_texts : u.texts + more_of kf key + more_of vf text ≤ length m.texts
  pub small_texts : u.texts + more_of kf key ≤ max_texts
  pub pair : PairRoom o.features u.features (index_of kf u.keys) (index_of vf u.values) m.features
  pub small : Small u key text

-- the two words of a tag at end, counted by the record at index at
abbrev pub pair_laid : ℕ → ℕ → ℕ → ℕ → List ℕ → List ℕ
pair_laid at end k v fs = set (lay end (k ∷ v ∷ []) fs) (at + tags_at) (get_or fs (at + tags_at) 0 + 2)

-- the four lists after a tag
abbrev pub laid_tag : Figures → Figures → Option ℕ → Option ℕ → Tag → Memory → Memory
laid_tag u o kf vf t m =
    record {
      keys = lay (u.keys * 2) (put_of kf (key_words u.texts t.key)) m.keys;
      values = lay (u.values * 3) (put_of vf (value_words (u.texts + more_of kf (length t.key)) t.value t.text)) m.values;
      texts = lay u.texts (put_of kf t.key ++ put_of vf t.text) m.texts;
      features = pair_laid o.features u.features (index_of kf u.keys) (index_of vf u.values) m.features;
    }

-- a tag may be put: nothing but ROOM can refuse it
pub record Ready (s : Layer) (o : Figures) (key text : ℕ) (m : Memory) : Type 0 where
  pub room : fits s.used (room_of (length m.keys) (length m.values) (length m.texts) (length m.features)) ≡ true
  pub six : o.features + head_words + get_or m.features (o.features + tags_at) 0 ≤ s.used.features
  pub small_key : key ≤ max_bytes
  pub small_text : text ≤ max_bytes

-- the tag words of the feature opened at o are there, and so are the keys and the texts
pub record TagsThere (u o : Figures) (ks ts fs : List ℕ) : Type 0 where
  pub few : u.keys ≤ max_keys
  pub in_keys : u.keys * 2 ≤ length ks
  pub in_texts : u.texts ≤ length ts
  pub in_features : u.features ≤ length fs
  pub six : o.features + head_words + get_or fs (o.features + tags_at) 0 ≤ u.features
