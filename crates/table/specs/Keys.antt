-- Document 01, "Tags and rollback": a key takes two words, where its text starts and its length. Equal key bytes share the first index.
use Rattle.std.specs.Prelude.{ℕ, suc, ◌≡◌, refl, Bool, true, false, cond, List, [], ◌∷◌, Option, Some, None}
use Rattle.table.specs.Texts.{inside, same_text}

-- the first key whose text is key; the first of these keys has the index j
abbrev pub find_key : ℕ → List ℕ → List ℕ → List ℕ → Option ℕ
find_key j [] texts key = None
find_key j (w ∷ []) texts key = None
find_key j (start ∷ len ∷ keys) texts key = cond (same_text texts start len key) (Some j) (find_key (suc j) keys texts key)

-- the index of what was found, or of what goes last
abbrev pub index_of : Option ℕ → ℕ → ℕ
index_of (Some j) next = j
index_of None next = next

-- every key's text lies within so many bytes
abbrev pub keys_in : ℕ → List ℕ → Bool
keys_in bytes [] = true
keys_in bytes (w ∷ []) = false
keys_in bytes (start ∷ len ∷ keys) = cond (inside bytes start len) (keys_in bytes keys) false

-- of the keys a, b and a again, b is the second, and a the first
b_second : find_key 0 (0 ∷ 1 ∷ 1 ∷ 1 ∷ 0 ∷ 1 ∷ []) (97 ∷ 98 ∷ []) (98 ∷ []) ≡ Some 1
b_second = refl

a_first : find_key 0 (0 ∷ 1 ∷ 1 ∷ 1 ∷ 0 ∷ 1 ∷ []) (97 ∷ 98 ∷ []) (97 ∷ []) ≡ Some 0
a_first = refl
