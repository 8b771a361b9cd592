-- A walk of an index of the entries finds what the scan finds.
--     walked_key_is walked_value_is
use Prim.Native.Nat.{ℕ, zero, suc, ◌+◌, ◌*◌, ◌%◌, ◌≤◌, ◌<◌}
use mathlib.Core.Path.{◌≡◌, refl, sym, ap, ◌∙◌}
use mathlib.Core.Bool.{Bool, true, false, cond}
use mathlib.Core.List.{List, [], ◌∷◌}
use native.Mathlib.Omega.{arith}
use native.Mathlib.Nat.{mod-lt}
use lib.ListN.{length, get_or, drop, length-drop}
use lib.Dec.{eqb}
use borrow.Author.Tests.{eq-eqb, ne_eqb, eqb-true, eqb-false, le-leb}
use Rattle.std.specs.Prelude.{Option, Some, None}
use Rattle.table.specs.declared.Value.{Value}
use Rattle.table.specs.Keys.{find_key}
use Rattle.table.specs.Values.{find_value}
use Rattle.table.specs.Texts.{text_of}
use Rattle.number.specs.Least.{smaller}
use Rattle.promise.proofs.Steps.{next}
use Rattle.index.specs.Hashes.{hash_text, hash_value}
use Rattle.index.specs.Chains.{slots, latest, Indexes, walk, found_at, walked, buckets_of}
use Rattle.index.specs.Entries.{key_count, key_hash, key_at, KeyIndex, walked_key, value_count, value_hash, value_at, ValueIndex, walked_value}
use Rattle.index.proofs.Alike.{text_is, same_value_hash}

-- ---- the walk, and all entries in its place
scan : (ℕ → Bool) → ℕ → ℕ → ℕ
scan same zero best = best
scan same (suc j) best = scan same j (cond (same j) (suc j) best)

latest_by : (t : Bool) (n x : ℕ) → x ≤ n → cond t (suc n) x ≤ suc n
latest_by true n x h = omega arith
latest_by false n x h = omega arith

latest_le : (bs : ℕ → ℕ) (b n : ℕ) → latest bs b n ≤ n
latest_le bs b zero = omega arith
latest_le bs b (suc n) = latest_by (eqb (bs n) b) n (latest bs b n) (latest_le bs b n)

module _ (l : List ℕ) (bs : ℕ → ℕ) (same : ℕ → Bool) (b limit : ℕ) (linked : (j : ℕ) → j < limit → get_or l (slots l + j) 0 ≡ latest bs (bs j) j) (agree : (j : ℕ) → j < limit → same j ≡ true → bs j ≡ b) where
  scan_by : (n best : ℕ) (t : Bool) → eqb (bs n) b ≡ t → (u : Bool) → same n ≡ u → n < limit → ((x : ℕ) → walk l same n (latest bs b n) x ≡ scan same n x) → cond (eqb (cond t (suc n) (latest bs b n)) (suc n)) (walk l same n (get_or l (slots l + n) 0) (cond u (suc n) best)) (walk l same n (cond t (suc n) (latest bs b n)) best) ≡ scan same n (cond u (suc n) best)
  scan_by n best true q u r h ih = rw (eq-eqb (suc n) (suc n) refl, linked n h, eqb-true (bs n) b q) (ih (cond u (suc n) best))
  scan_by n best false q true r h ih = absurd (eqb-false (bs n) b q (agree n h r))
  scan_by n best false q false r h ih = rw (ne_eqb (latest bs b n) (suc n) (λ (z : latest bs b n ≡ suc n). omega (arith, latest_le bs b n))) (ih best)

  walk_scan : (n best : ℕ) → n ≤ limit → walk l same n (latest bs b n) best ≡ scan same n best
  unfolding scan
  walk_scan zero best h = refl
  walk_scan (suc n) best h = scan_by n best (eqb (bs n) b) refl (same n) refl (omega arith) (λ (x : ℕ). walk_scan n x (omega arith))

head_scan : (l : List ℕ) (bs : ℕ → ℕ) (same : ℕ → Bool) (n h : ℕ) → Indexes l bs n → n ≤ slots l → ((j : ℕ) → j < n → same j ≡ true → bs j ≡ h % slots l) → walk l same n (get_or l (h % slots l) 0) 0 ≡ scan same n 0
unfolding scan
head_scan l bs same zero h I k agree = refl
head_scan l bs same (suc n) h I k agree =
    let e : get_or l (h % slots l) 0 ≡ latest bs (h % slots l) (suc n) = I.heads (h % slots l) (mod-lt h {m = slots l} (omega arith)) in
    ap (λ (x : ℕ). walk l same (suc n) x 0) e ∙ walk_scan l bs same (h % slots l) (suc n) I.links agree (suc n) 0 (omega arith)

-- ---- all entries from the first on
first_from : (ℕ → Bool) → ℕ → ℕ → ℕ → ℕ
first_from same j zero best = best
first_from same j (suc k) best = cond (same j) (suc j) (first_from same (suc j) k best)

scan_first : (same : ℕ → Bool) (k j best : ℕ) → scan same (j + k) best ≡ scan same j (first_from same j k best)
unfolding first_from scan
scan_first same zero j best = let z : j + 0 ≡ j = omega arith in rw z
scan_first same (suc k) j best = let z : j + suc k ≡ suc j + k = omega arith in rw z (scan_first same k (suc j) best)

scan_all : (same : ℕ → Bool) (k : ℕ) → scan same k 0 ≡ first_from same 0 k 0
unfolding scan
scan_all same k = let z : 0 + k ≡ k = omega arith in rw z at (scan_first same k 0 0)

found_or : (t : Bool) (j x : ℕ) (f : Option ℕ) → f ≡ found_at x → cond t (Some j) f ≡ found_at (cond t (suc j) x)
found_or true j x f e = refl
found_or false j x f e = e

module _ (l : List ℕ) (bs : ℕ → ℕ) (same : ℕ → Bool) (n h : ℕ) (I : Indexes l bs n) (k : n ≤ slots l) (agree : (j : ℕ) → j < n → same j ≡ true → bs j ≡ h % slots l) where
  walked_first : walked l same n h ≡ found_at (first_from same 0 n 0)
  walked_first =
      let r : smaller n (slots l) ≡ n = rw (le-leb n (slots l) k) in
      let w : walk l same (smaller n (slots l)) (get_or l (h % slots l) 0) 0 ≡ first_from same 0 n 0 = ap (λ (x : ℕ). walk l same x (get_or l (h % slots l) 0) 0) r ∙ head_scan l bs same n h I k agree ∙ scan_all same n in
      ap found_at w

-- ---- keys
no_key : (j : ℕ) (l ts key : List ℕ) → length l < 2 → find_key j l ts key ≡ None
no_key j [] ts key h = refl
no_key j (w ∷ []) ts key h = refl
no_key j (w ∷ v ∷ l) ts key h = absurd (omega arith)

module _ (ks ts key : List ℕ) where
  find_keys : (k j : ℕ) → j * 2 + k * 2 ≤ length ks → length ks < j * 2 + k * 2 + 2 → find_key j (drop (j * 2) ks) ts key ≡ found_at (first_from (key_at ks ts key) j k 0)
  unfolding first_from
  find_keys zero j a b = no_key j (drop (j * 2) ks) ts key (rw length-drop (omega arith))
  find_keys (suc k) j a b =
      let s : find_key j (drop (j * 2) ks) ts key ≡ cond (key_at ks ts key j) (Some j) (find_key (suc j) (drop (suc j * 2) ks) ts key) = rw (next ks (j * 2) (j * 2 + 1) (omega arith) (omega arith), next ks (j * 2 + 1) (suc j * 2) (omega arith) (omega arith)) in
      s ∙ found_or (key_at ks ts key j) j (first_from (key_at ks ts key) (suc j) k 0) (find_key (suc j) (drop (suc j * 2) ks) ts key) (find_keys k (suc j) (omega arith) (omega arith))

pub walked_key_is : (l ks ts key : List ℕ) → KeyIndex l ks ts → key_count ks ≤ slots l → walked_key l ks ts key (hash_text key) ≡ find_key 0 ks ts key
walked_key_is l ks ts key I k =
    walked_first l (buckets_of (key_hash ks ts) (slots l)) (key_at ks ts key) (key_count ks) (hash_text key) I k
    (λ (j : ℕ) (h : j < key_count ks) (e : key_at ks ts key j ≡ true).
    let q : text_of ts (get_or ks (j * 2) 0) (get_or ks (j * 2 + 1) 0) ≡ key = text_is ts (get_or ks (j * 2) 0) (get_or ks (j * 2 + 1) 0) key e in
    ap (λ (x : List ℕ). hash_text x % slots l) q)
    ∙ sym (find_keys ks ts key (key_count ks) 0 (omega arith) (omega arith))

-- ---- values
no_value : (j : ℕ) (l ts : List ℕ) (v : Value) (t : List ℕ) → length l < 3 → find_value j l ts v t ≡ None
no_value j [] ts v t h = refl
no_value j (a ∷ []) ts v t h = refl
no_value j (a ∷ b ∷ []) ts v t h = refl
no_value j (a ∷ b ∷ c ∷ l) ts v t h = absurd (omega arith)

module _ (vs ts : List ℕ) (v : Value) (t : List ℕ) where
  find_values : (k j : ℕ) → j * 3 + k * 3 ≤ length vs → length vs < j * 3 + k * 3 + 3 → find_value j (drop (j * 3) vs) ts v t ≡ found_at (first_from (value_at vs ts v t) j k 0)
  unfolding first_from
  find_values zero j a b = no_value j (drop (j * 3) vs) ts v t (rw length-drop (omega arith))
  find_values (suc k) j a b =
      let s : find_value j (drop (j * 3) vs) ts v t ≡ cond (value_at vs ts v t j) (Some j) (find_value (suc j) (drop (suc j * 3) vs) ts v t) = rw (next vs (j * 3) (j * 3 + 1) (omega arith) (omega arith), next vs (j * 3 + 1) (j * 3 + 2) (omega arith) (omega arith), next vs (j * 3 + 2) (suc j * 3) (omega arith) (omega arith)) in
      s ∙ found_or (value_at vs ts v t j) j (first_from (value_at vs ts v t) (suc j) k 0) (find_value (suc j) (drop (suc j * 3) vs) ts v t) (find_values k (suc j) (omega arith) (omega arith))

pub walked_value_is : (l vs ts : List ℕ) (v : Value) (text : List ℕ) → ValueIndex l vs ts → value_count vs ≤ slots l → walked_value l vs ts v text (hash_value v text) ≡ find_value 0 vs ts v text
walked_value_is l vs ts v text I k =
    walked_first l (buckets_of (value_hash vs ts) (slots l)) (value_at vs ts v text) (value_count vs) (hash_value v text) I k
    (λ (j : ℕ) (h : j < value_count vs) (e : value_at vs ts v text j ≡ true).
    ap (λ (x : ℕ). x % slots l) (same_value_hash ts (get_or vs (j * 3) 0) (get_or vs (j * 3 + 1) 0) (get_or vs (j * 3 + 2) 0) v text e))
    ∙ sym (find_values vs ts v text (value_count vs) 0 (omega arith) (omega arith))
