-- The number by which an entry's bucket is chosen. Entries that are the same have the same number; any other numbers would serve as well, and only the cost
-- of looking up would change.
use Rattle.std.specs.Prelude.{ℕ, ◌+◌, ◌*◌, ◌/◌, ◌%◌, cond, List, [], ◌∷◌, eqb}
use Rattle.table.specs.declared.Value.{Value}
use Rattle.table.specs.Texts.{text_of}
use Rattle.table.specs.Values.{text_kind}

-- bytes, one after the other
abbrev pub hash_from : ℕ → List ℕ → ℕ
hash_from acc [] = acc
hash_from acc (b ∷ bs) = hash_from ((acc * 16777619 + b) % 4294967296) bs

abbrev pub hash_text : List ℕ → ℕ
hash_text bs = hash_from 0 bs

-- the two halves without the top bit of each, so that 0.0 and -0.0 have one number
unfoldable pub mixed : ℕ → ℕ → ℕ → ℕ
mixed kind low high = (kind + low % 2147483648 + high % 2147483648 * 31) * 82952543 / 65536

-- the number of v, or of the text beside it
abbrev pub hash_value : Value → List ℕ → ℕ
hash_value v text = cond (eqb v.kind text_kind) (hash_text text) (mixed v.kind v.low v.high)

-- the number of the value stored as these three words
abbrev pub hash_stored : List ℕ → ℕ → ℕ → ℕ → ℕ
hash_stored texts kind low high = cond (eqb kind text_kind) (hash_text (text_of texts low high)) (mixed kind low high)
