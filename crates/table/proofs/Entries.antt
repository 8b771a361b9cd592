-- The entries of a list, each by itself: what is found of them, and what holds of all of them, is what the definitions say of the list.
use Prim.Native.Nat.{ℕ, suc, ◌+◌, ◌<◌, ◌/◌, ◌%◌}
use mathlib.Core.Path.{◌≡◌, refl}
use mathlib.Core.Bool.{Bool, true, false, cond, ◌&&◌}
use mathlib.Core.List.{List, [], ◌∷◌}
use native.Mathlib.Numerals.{add-one}
use native.Mathlib.Omega.{arith}
use lib.ListN.{length, get_or}
use lib.Dec.{leb}
use Rattle.std.specs.List.{list_all, position_from}
use Rattle.std.specs.Simd.{first_chunks}
use Rattle.table.specs.declared.Value.{Value}
use Rattle.table.specs.Texts.{same_text}
use Rattle.table.specs.Keys.{find_key, keys_in}
use Rattle.table.specs.Values.{same_value, find_value, value_ok, values_in}

abbrev pub key_is : List ℕ → List ℕ → List ℕ → Bool
key_is texts key e = same_text texts (get_or e 0 0) (get_or e 1 0) key

pub keys_found : (j : ℕ) (keys texts key : List ℕ) → position_from (key_is texts key) j (first_chunks 2 (length keys / 2) keys) ≡ find_key j keys texts key
keys_found j [] texts key = refl
keys_found j (w ∷ []) texts key = refl
keys_found j (a ∷ b ∷ keys) texts key =
    let q : suc (suc (length keys)) / 2 ≡ suc (length keys / 2) = omega arith in
    rw (q, add-one j, keys_found (suc j) keys texts key)

abbrev pub value_is : List ℕ → Value → List ℕ → List ℕ → Bool
value_is texts v text e = same_value texts (get_or e 0 0) (get_or e 1 0) (get_or e 2 0) v text

pub values_found : (j : ℕ) (values texts : List ℕ) (v : Value) (text : List ℕ) → position_from (value_is texts v text) j (first_chunks 3 (length values / 3) values) ≡ find_value j values texts v text
values_found j [] texts v text = refl
values_found j (a ∷ []) texts v text = refl
values_found j (a ∷ b ∷ []) texts v text = refl
values_found j (a ∷ b ∷ c ∷ values) texts v text =
    let q : suc (suc (suc (length values))) / 3 ≡ suc (length values / 3) = omega arith in
    rw (q, add-one j, values_found (suc j) values texts v text)

-- ---- all of them, and no word behind the last
abbrev pub key_in : ℕ → List ℕ → Bool
key_in bytes e = leb (get_or e 0 0 + get_or e 1 0) bytes

pub keys_all : (bytes : ℕ) (keys : List ℕ) → length keys % 2 ≡ 0 → list_all (key_in bytes) (first_chunks 2 (length keys / 2) keys) ≡ keys_in bytes keys
keys_all bytes [] h = refl
keys_all bytes (w ∷ []) h = absurd (omega arith)
keys_all bytes (a ∷ b ∷ keys) h =
    let q : suc (suc (length keys)) / 2 ≡ suc (length keys / 2) = omega arith in
    rw (q, keys_all bytes keys (omega arith)) (by (leb (a + b) bytes) (keys_in bytes keys))
  where
    by : (x y : Bool) → (x && y) ≡ cond x y false
    by true y = refl
    by false y = refl

pub keys_odd : (bytes : ℕ) (keys : List ℕ) → 0 < length keys % 2 → false ≡ keys_in bytes keys
keys_odd bytes [] h = absurd (omega arith)
keys_odd bytes (w ∷ []) h = refl
keys_odd bytes (a ∷ b ∷ keys) h = rw (← keys_odd bytes keys (omega arith)) (by (leb (a + b) bytes))
  where
    by : (x : Bool) → false ≡ cond x false false
    by true = refl
    by false = refl

abbrev pub value_in : ℕ → List ℕ → Bool
value_in bytes e = value_ok bytes (get_or e 0 0) (get_or e 1 0) (get_or e 2 0)

pub values_all : (bytes : ℕ) (values : List ℕ) → length values % 3 ≡ 0 → list_all (value_in bytes) (first_chunks 3 (length values / 3) values) ≡ values_in bytes values
values_all bytes [] h = refl
values_all bytes (a ∷ []) h = absurd (omega arith)
values_all bytes (a ∷ b ∷ []) h = absurd (omega arith)
values_all bytes (a ∷ b ∷ c ∷ values) h =
    let q : suc (suc (suc (length values))) / 3 ≡ suc (length values / 3) = omega arith in
    rw (q, values_all bytes values (omega arith)) (by (value_ok bytes a b c) (values_in bytes values))
  where
    by : (x y : Bool) → (x && y) ≡ cond x y false
    by true y = refl
    by false y = refl

pub values_odd : (bytes : ℕ) (values : List ℕ) → 0 < length values % 3 → false ≡ values_in bytes values
values_odd bytes [] h = absurd (omega arith)
values_odd bytes (a ∷ []) h = refl
values_odd bytes (a ∷ b ∷ []) h = refl
values_odd bytes (a ∷ b ∷ c ∷ values) h = rw (← values_odd bytes values (omega arith)) (by (value_ok bytes a b c))
  where
    by : (x : Bool) → false ≡ cond x false false
    by true = refl
    by false = refl
