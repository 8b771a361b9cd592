-- The tags of a list, five words at a time, and the tag words of a feature, two at a time: what some of them are, and what all of them are, is what the
-- definitions say of the list.
use Prim.Native.Nat.{ℕ, suc, ◌<◌, ◌/◌, ◌%◌}
use mathlib.Core.Path.{◌≡◌, refl}
use mathlib.Core.Bool.{Bool, true, false, cond, ◌&&◌, ◌||◌}
use mathlib.Core.List.{List, [], ◌∷◌}
use native.Mathlib.Omega.{arith}
use lib.ListN.{length, get_or}
use Rattle.std.specs.List.{list_all, list_any}
use Rattle.std.specs.Simd.{first_chunks}
use Rattle.table.specs.declared.Value.{Value}
use Rattle.table.specs.Texts.{same_text}
use Rattle.table.specs.Values.{same_value}
use Rattle.layer.specs.Calls.{is_key, has_key}
use Rattle.layer.specs.TagLists.{tag_ok, tags_ok, ok_at, short_tag, tags_short, short_at, key_given}
use Rattle.layer.specs.NeedSteps.{value_among}

or_as : (x y : Bool) → (x || y) ≡ cond x true y
or_as true y = refl
or_as false y = refl

and_as : (x y : Bool) → (x && y) ≡ cond x y false
and_as true y = refl
and_as false y = refl

-- ---- some of them
abbrev pub key_in : List ℕ → List ℕ → List ℕ → Bool
key_in bytes key t = same_text bytes (get_or t 0 0) (get_or t 1 0) key

pub key_any : (bytes ws key : List ℕ) → list_any (key_in bytes key) (first_chunks 5 (length ws / 5) ws) ≡ key_given bytes ws key
key_any bytes [] key = refl
key_any bytes (a ∷ []) key = refl
key_any bytes (a ∷ b ∷ []) key = refl
key_any bytes (a ∷ b ∷ c ∷ []) key = refl
key_any bytes (a ∷ b ∷ c ∷ d ∷ []) key = refl
key_any bytes (a ∷ b ∷ c ∷ d ∷ e ∷ ws) key =
    let q : suc (suc (suc (suc (suc (length ws))))) / 5 ≡ suc (length ws / 5) = omega arith in
    rw (q, key_any bytes ws key) (or_as (same_text bytes a b key) (key_given bytes ws key))

abbrev pub value_in : List ℕ → Value → List ℕ → List ℕ → Bool
value_in bytes v text t = same_value bytes (get_or t 2 0) (get_or t 3 0) (get_or t 4 0) v text

pub value_any : (bytes ws : List ℕ) (v : Value) (text : List ℕ) → list_any (value_in bytes v text) (first_chunks 5 (length ws / 5) ws) ≡ value_among bytes ws v text
value_any bytes [] v text = refl
value_any bytes (a ∷ []) v text = refl
value_any bytes (a ∷ b ∷ []) v text = refl
value_any bytes (a ∷ b ∷ c ∷ []) v text = refl
value_any bytes (a ∷ b ∷ c ∷ d ∷ []) v text = refl
value_any bytes (a ∷ b ∷ c ∷ d ∷ e ∷ ws) v text =
    let q : suc (suc (suc (suc (suc (length ws))))) / 5 ≡ suc (length ws / 5) = omega arith in
    rw (q, value_any bytes ws v text) (or_as (same_value bytes c d e v text) (value_among bytes ws v text))

abbrev pub has_in : List ℕ → List ℕ → List ℕ → List ℕ → Bool
has_in ks ts key t = is_key ks ts (get_or t 0 0) key

pub has_any : (ks ts ws key : List ℕ) → list_any (has_in ks ts key) (first_chunks 2 (length ws / 2) ws) ≡ has_key ks ts ws key
has_any ks ts [] key = refl
has_any ks ts (k ∷ []) key = refl
has_any ks ts (k ∷ v ∷ ws) key =
    let q : suc (suc (length ws)) / 2 ≡ suc (length ws / 2) = omega arith in
    rw (q, has_any ks ts ws key) (or_as (is_key ks ts k key) (has_key ks ts ws key))

-- ---- all of them, and no word behind the last
abbrev pub ok_in : ℕ → List ℕ → Bool
ok_in bytes t = ok_at bytes t 0

pub ok_all : (bytes : ℕ) (ws : List ℕ) → length ws % 5 ≡ 0 → list_all (ok_in bytes) (first_chunks 5 (length ws / 5) ws) ≡ tags_ok bytes ws
ok_all bytes [] h = refl
ok_all bytes (a ∷ []) h = absurd (omega arith)
ok_all bytes (a ∷ b ∷ []) h = absurd (omega arith)
ok_all bytes (a ∷ b ∷ c ∷ []) h = absurd (omega arith)
ok_all bytes (a ∷ b ∷ c ∷ d ∷ []) h = absurd (omega arith)
ok_all bytes (a ∷ b ∷ c ∷ d ∷ e ∷ ws) h =
    let q : suc (suc (suc (suc (suc (length ws))))) / 5 ≡ suc (length ws / 5) = omega arith in
    rw (q, ok_all bytes ws (omega arith)) (and_as (tag_ok bytes a b c d e) (tags_ok bytes ws))

pub ok_odd : (bytes : ℕ) (ws : List ℕ) → 0 < length ws % 5 → false ≡ tags_ok bytes ws
ok_odd bytes [] h = absurd (omega arith)
ok_odd bytes (a ∷ []) h = refl
ok_odd bytes (a ∷ b ∷ []) h = refl
ok_odd bytes (a ∷ b ∷ c ∷ []) h = refl
ok_odd bytes (a ∷ b ∷ c ∷ d ∷ []) h = refl
ok_odd bytes (a ∷ b ∷ c ∷ d ∷ e ∷ ws) h = rw (← ok_odd bytes ws (omega arith)) (by (tag_ok bytes a b c d e))
  where
    by : (x : Bool) → false ≡ cond x false false
    by true = refl
    by false = refl

abbrev pub short_in : List ℕ → Bool
short_in t = short_at t 0

pub short_all : (ws : List ℕ) → list_all short_in (first_chunks 5 (length ws / 5) ws) ≡ tags_short ws
short_all [] = refl
short_all (a ∷ []) = refl
short_all (a ∷ b ∷ []) = refl
short_all (a ∷ b ∷ c ∷ []) = refl
short_all (a ∷ b ∷ c ∷ d ∷ []) = refl
short_all (a ∷ b ∷ c ∷ d ∷ e ∷ ws) =
    let q : suc (suc (suc (suc (suc (length ws))))) / 5 ≡ suc (length ws / 5) = omega arith in
    rw (q, short_all ws) (and_as (short_tag b c d e) (tags_short ws))
