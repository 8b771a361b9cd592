-- The entries of a layer's keys and values by number: which is the same as what is looked up, and the number that chooses its bucket.
use Rattle.std.specs.Prelude.{ℕ, ◌+◌, ◌*◌, ◌/◌, ◌≡◌, refl, Bool, List, [], ◌∷◌, length, get_or, Option, Some, None}
use Rattle.table.specs.declared.Value.{Value}
use Rattle.table.specs.Texts.{same_text, text_of}
use Rattle.table.specs.Values.{same_value}
use Rattle.index.specs.Hashes.{hash_text, hash_stored}
use Rattle.index.specs.Chains.{slots, buckets_of, Indexes, cleared, built, walked}

-- ---- keys
abbrev pub key_count : List ℕ → ℕ
key_count keys = length keys / 2

abbrev pub key_hash : List ℕ → List ℕ → ℕ → ℕ
key_hash keys texts j = hash_text (text_of texts (get_or keys (j * 2) 0) (get_or keys (j * 2 + 1) 0))

abbrev pub key_at : List ℕ → List ℕ → List ℕ → ℕ → Bool
key_at keys texts key j = same_text texts (get_or keys (j * 2) 0) (get_or keys (j * 2 + 1) 0) key

-- l is the index of these keys
abbrev pub KeyIndex : List ℕ → List ℕ → List ℕ → Type 0
KeyIndex l keys texts = Indexes l (buckets_of (key_hash keys texts) (slots l)) (key_count keys)

abbrev pub built_keys : List ℕ → List ℕ → List ℕ → List ℕ
built_keys l keys texts = built (cleared l) (key_hash keys texts) (key_count keys)

abbrev pub walked_key : List ℕ → List ℕ → List ℕ → List ℕ → ℕ → Option ℕ
walked_key l keys texts key h = walked l (key_at keys texts key) (key_count keys) h

-- ---- values
abbrev pub value_count : List ℕ → ℕ
value_count values = length values / 3

abbrev pub value_hash : List ℕ → List ℕ → ℕ → ℕ
value_hash values texts j = hash_stored texts (get_or values (j * 3) 0) (get_or values (j * 3 + 1) 0) (get_or values (j * 3 + 2) 0)

abbrev pub value_at : List ℕ → List ℕ → Value → List ℕ → ℕ → Bool
value_at values texts v text j = same_value texts (get_or values (j * 3) 0) (get_or values (j * 3 + 1) 0) (get_or values (j * 3 + 2) 0) v text

-- l is the index of these values
abbrev pub ValueIndex : List ℕ → List ℕ → List ℕ → Type 0
ValueIndex l values texts = Indexes l (buckets_of (value_hash values texts) (slots l)) (value_count values)

abbrev pub built_values : List ℕ → List ℕ → List ℕ → List ℕ
built_values l values texts = built (cleared l) (value_hash values texts) (value_count values)

abbrev pub walked_value : List ℕ → List ℕ → List ℕ → Value → List ℕ → ℕ → Option ℕ
walked_value l values texts v text h = walked l (value_at values texts v text) (value_count values) h

abbrev aba : List ℕ
aba = 0 ∷ 1 ∷ 1 ∷ 1 ∷ 0 ∷ 1 ∷ []

abbrev nines : List ℕ
nines = 9 ∷ 9 ∷ 9 ∷ 9 ∷ 9 ∷ 9 ∷ []

-- of the keys a, b and a again in an index of three slots, b is the second and a the first; in an index that holds anything an entry may be missed
b_second : walked_key (built_keys nines aba (97 ∷ 98 ∷ [])) aba (97 ∷ 98 ∷ []) (98 ∷ []) (hash_text (98 ∷ [])) ≡ Some 1
b_second = refl

a_first : walked_key (built_keys nines aba (97 ∷ 98 ∷ [])) aba (97 ∷ 98 ∷ []) (97 ∷ []) (hash_text (97 ∷ [])) ≡ Some 0
a_first = refl

missed : walked_key nines (0 ∷ 1 ∷ []) (97 ∷ []) (97 ∷ []) (hash_text (97 ∷ [])) ≡ None
missed = refl
