-- How a layer's four lists hold what was given, in document 01's words ("Tags and rollback"): a key's two words are the start and the length of its text; a
-- value's three its kind, then the start and the length of its text or the low and the high half of its content; a feature's six its kind, its id mark, the
-- halves of its id, how many tag words and how many geometry words it has, and then its geometry and its tag words. What the calls leave in the lists is held
-- to this, and so is what the bytes are read from. The theorem about bytes does not rest on it.
use Rattle.std.specs.Prelude.{ℕ, ◌+◌, ◌%◌, ◌/◌, ◌≤◌, ◌≡◌, cond, List, [], ◌∷◌, ◌++◌, length, take, drop}
use Rattle.std.proofs.Math.Option.{Option, none, some}
use Rattle.layer.specs.declared.Figures.{Figures}
use Rattle.std.specs.Prelude.{Option as OptionOf, Some, None}
use Rattle.layer.specs.Held.{Memory, Seen, held_by}
use Rattle.given.specs.Given.{Content, text, float, double, int, uint, sint, bool, bits64, Feature, Drawing, keys_of, values_of}
use Rattle.given.specs.Messages.{each, tag_indices}
use Rattle.given.specs.Asked.{Fine}

-- ---- texts, keys and values
pub record TextStands (texts : List ℕ) (start len : ℕ) (t : List ℕ) : Type 0 where
  pub within : start + len ≤ length texts
  pub there : take len (drop start texts) ≡ t

pub data KeysStand (texts : List ℕ) : List ℕ → List (List ℕ) → Type 0 where
  no_keys : KeysStand texts [] []
  one_key : (start len : ℕ) (key ws : List ℕ) (keys : List (List ℕ)) → TextStands texts start len key → KeysStand texts ws keys
      → KeysStand texts (start ∷ len ∷ ws) (key ∷ keys)

-- of what is no text: its kind k, and the halves of its bits
pub record BitsStand (kind low high k bits : ℕ) : Type 0 where
  pub kind_is : kind ≡ k
  pub low_is : low ≡ bits % 4294967296
  pub high_is : high ≡ bits / 4294967296

abbrev pub ValueStands : List ℕ → ℕ → ℕ → ℕ → Content → Type 0
ValueStands texts kind low high (text t) = (kind ≡ 1) × TextStands texts low high t
ValueStands texts kind low high (float bits) = BitsStand kind low high 2 bits
ValueStands texts kind low high (double bits) = BitsStand kind low high 3 bits
ValueStands texts kind low high (int n) = BitsStand kind low high 4 (bits64 n)
ValueStands texts kind low high (uint n) = BitsStand kind low high 5 n
ValueStands texts kind low high (sint n) = BitsStand kind low high 6 (bits64 n)
ValueStands texts kind low high (bool b) = BitsStand kind low high 7 (cond b 1 0)

pub data ValuesStand (texts : List ℕ) : List ℕ → List Content → Type 0 where
  no_values : ValuesStand texts [] []
  one_value : (kind low high : ℕ) (c : Content) (ws : List ℕ) (cs : List Content) → ValueStands texts kind low high c → Fine c → ValuesStand texts ws cs
      → ValuesStand texts (kind ∷ low ∷ high ∷ ws) (c ∷ cs)

-- ---- features
abbrev pub mark_of : Option ℕ → ℕ
mark_of none = 0
mark_of (some n) = 1

abbrev pub number_of : Option ℕ → ℕ
number_of none = 0
number_of (some n) = n

abbrev pub record_from : ℕ → Option ℕ → List ℕ → List ℕ → List ℕ
record_from kind id geometry indices =
    kind ∷ mark_of id ∷ number_of id % 4294967296 ∷ number_of id / 4294967296 ∷ length indices ∷ length geometry ∷ (geometry ++ indices)

abbrev pub record_of : List (List ℕ) → List Content → Feature → List ℕ
record_of keys values f = record_from f.kind f.id f.geometry (tag_indices keys values f.tags)

-- ---- a layer
-- the used figures u and the used parts h hold this name, of n bytes, and these features, with these keys and values; the name is the first text
pub record Holds (u : Figures) (n : ℕ) (h : Memory) (name : List ℕ) (keys : List (List ℕ)) (values : List Content) (fs : List Feature) : Type 0 where
  pub key_count : u.keys ≡ length keys
  pub value_count : u.values ≡ length values
  pub text_count : length h.texts ≡ u.texts
  pub word_count : length h.features ≡ u.features
  pub title : TextStands h.texts 0 n name
  pub keys_stand : KeysStand h.texts h.keys keys
  pub values_stand : ValuesStand h.texts h.values values
  pub records_are : h.features ≡ each (record_of keys values) fs

abbrev pub HeldAs : Figures → ℕ → Memory → List ℕ → List Feature → Type 0
HeldAs u n h name fs = Holds u n h name (keys_of fs) (values_of fs) fs

-- with a feature open, the lists hold it behind those completed, and up to the figures at opening they hold those completed
abbrev pub OpenAs : Figures → ℕ → Memory → List ℕ → List Feature → OptionOf Figures → Option Feature → Type 0
OpenAs u n h name fs None none = HeldAs u n h name fs
OpenAs u n h name fs None (some f) = ⊥
OpenAs u n h name fs (Some o) none = ⊥
OpenAs u n h name fs (Some o) (some f) = HeldAs u n h name (fs ++ (f ∷ [])) × HeldAs o n (held_by o h) name fs

pub record Stands (v : Seen) (d : Drawing) : Type 0 where
  pub extent_is : v.layer.extent ≡ d.extent
  pub parts : OpenAs v.layer.used v.layer.name v.held d.name d.features v.layer.feature d.pending
