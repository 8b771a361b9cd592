-- An index while its layer grows: an entry more, and its text, or texts alone.
--     keys_pushed keys_kept values_pushed values_kept
use Prim.Native.Nat.{ℕ, zero, suc, ◌+◌, ◌*◌, ◌%◌, ◌≤◌, ◌<◌}
use mathlib.Core.Path.{◌≡◌, refl, sym, ap, ◌∙◌, subst}
use mathlib.Core.Bool.{Bool, true, false}
use mathlib.Core.List.{List, [], ◌∷◌, ◌++◌}
use native.Mathlib.Omega.{arith}
use lib.ListN.{length, get_or, take, drop, length-append, length-drop, get_or-append}
use lib.Seq.{take-append-le, drop-append-le, get_or-append-add}
use lib.Dec.{eqb}
use borrow.Author.Tests.{leb-true}
use Rattle.table.specs.Texts.{inside, text_of}
use Rattle.table.specs.Keys.{keys_in}
use Rattle.table.specs.Values.{value_ok, values_in}
use Rattle.index.specs.Hashes.{hash_text, hash_stored}
use Rattle.index.specs.Chains.{slots, Indexes, pushed, max_entry, buckets_of}
use Rattle.index.specs.Entries.{key_count, key_hash, KeyIndex, value_count, value_hash, ValueIndex}
use Rattle.promise.proofs.Joined.{never, cond_both}
use Rattle.index.proofs.Pushing.{same_buckets, pushed_is_index}

-- ---- texts
pub text_kept : (ts more : List ℕ) (start len : ℕ) → start + len ≤ length ts → text_of (ts ++ more) start len ≡ text_of ts start len
text_kept ts more start len h =
    let a : drop start (ts ++ more) ≡ drop start ts ++ more = drop-append-le start ts more (omega arith) in
    ap (take len) a ∙ take-append-le len (drop start ts) more (omega (arith, length-drop start ts))

-- ---- keys
key_inside : (bytes : ℕ) (ks : List ℕ) (j : ℕ) → keys_in bytes ks ≡ true → j * 2 + 1 < length ks → get_or ks (j * 2) 0 + get_or ks (j * 2 + 1) 0 ≤ bytes
key_inside bytes [] j e h = absurd (omega arith)
key_inside bytes (a ∷ []) j e h = never e
key_inside bytes (a ∷ b ∷ ks) zero e h = leb-true (a + b) bytes (cond_both (inside bytes a b) (keys_in bytes ks) e).0
key_inside bytes (a ∷ b ∷ ks) (suc j) e h =
    let y : suc j * 2 + 1 ≡ suc (suc (j * 2 + 1)) = omega arith in
    let z : suc j * 2 ≡ suc (suc (j * 2)) = omega arith in
    rw (y, z) (key_inside bytes ks j (cond_both (inside bytes a b) (keys_in bytes ks) e).1 (omega arith))

pub key_text : (ks ts more : List ℕ) → keys_in (length ts) ks ≡ true → (j : ℕ) → j < key_count ks → key_hash ks ts j ≡ key_hash ks (ts ++ more) j
key_text ks ts more e j h =
    let t = text_kept ts more (get_or ks (j * 2) 0) (get_or ks (j * 2 + 1) 0) (key_inside (length ts) ks j e (omega arith)) in
    sym (ap (λ (x : List ℕ). hash_text x) t)

pub key_word : (ks new ts : List ℕ) (j : ℕ) → j < key_count ks → key_hash ks ts j ≡ key_hash (ks ++ new) ts j
key_word ks new ts j h =
    let a : get_or (ks ++ new) (j * 2) 0 ≡ get_or ks (j * 2) 0 = get_or-append ks new 0 (j * 2) (omega arith) in
    let b : get_or (ks ++ new) (j * 2 + 1) 0 ≡ get_or ks (j * 2 + 1) 0 = get_or-append ks new 0 (j * 2 + 1) (omega arith) in
    rw (a, b)

-- texts more
pub keys_kept : (l ks ts more : List ℕ) → keys_in (length ts) ks ≡ true → KeyIndex l ks ts → KeyIndex l ks (ts ++ more)
keys_kept l ks ts more e I =
    same_buckets l (buckets_of (key_hash ks ts) (slots l)) (buckets_of (key_hash ks (ts ++ more)) (slots l)) (key_count ks)
    (λ (j : ℕ) (h : j < key_count ks). ap (λ (x : ℕ). x % slots l) (key_text ks ts more e j h)) I

-- a word of an entry behind the others
pub word_last : (l new : List ℕ) (m i : ℕ) → length l ≡ m → get_or (l ++ new) (m + i) 0 ≡ get_or new i 0
word_last l new m i e = rw (← e) (get_or-append-add l new i 0)

-- a key more
pub keys_pushed : (l ks ts : List ℕ) (n start : ℕ) (key more : List ℕ) → keys_in (length ts) ks ≡ true → length ks ≡ n * 2 → KeyIndex l ks ts → n < slots l → n < max_entry → text_of (ts ++ more) start (length key) ≡ key → KeyIndex (pushed l n (hash_text key)) (ks ++ (start ∷ length key ∷ [])) (ts ++ more)
keys_pushed l ks ts n start key more e g I a b t =
    let new : List ℕ = start ∷ length key ∷ [] in
    let c : key_count ks ≡ n = omega arith in
    let d : suc n ≡ key_count (ks ++ new) = omega (arith, length-append ks new) in
    let z : n * 2 + 0 ≡ n * 2 = omega arith in
    let x : get_or (ks ++ new) (n * 2) 0 ≡ start = rw z at (word_last ks new (n * 2) 0 g) in
    let y : get_or (ks ++ new) (n * 2 + 1) 0 ≡ length key = word_last ks new (n * 2) 1 g in
    let w : key_hash (ks ++ new) (ts ++ more) n ≡ hash_text key = rw (x, y) (ap (λ (k : List ℕ). hash_text k) t) in
    let J : Indexes l (buckets_of (key_hash ks ts) (slots l)) n = rw c at I in
    subst (λ (k : ℕ). Indexes (pushed l n (hash_text key)) (buckets_of (key_hash (ks ++ new) (ts ++ more)) (slots (pushed l n (hash_text key)))) k) d
    (pushed_is_index l (key_hash ks ts) (key_hash (ks ++ new) (ts ++ more)) n (hash_text key) J a b
    (λ (j : ℕ) (h : j < n). key_text ks ts more e j (omega arith) ∙ key_word ks new (ts ++ more) j (omega arith)) w)

-- ---- values
value_inside : (bytes : ℕ) (vs : List ℕ) (j : ℕ) → values_in bytes vs ≡ true → j * 3 + 2 < length vs → value_ok bytes (get_or vs (j * 3) 0) (get_or vs (j * 3 + 1) 0) (get_or vs (j * 3 + 2) 0) ≡ true
value_inside bytes [] j e h = absurd (omega arith)
value_inside bytes (a ∷ []) j e h = never e
value_inside bytes (a ∷ b ∷ []) j e h = never e
value_inside bytes (a ∷ b ∷ c ∷ vs) zero e h = (cond_both (value_ok bytes a b c) (values_in bytes vs) e).0
value_inside bytes (a ∷ b ∷ c ∷ vs) (suc j) e h =
    let x : suc j * 3 + 2 ≡ suc (suc (suc (j * 3 + 2))) = omega arith in
    let y : suc j * 3 + 1 ≡ suc (suc (suc (j * 3 + 1))) = omega arith in
    let z : suc j * 3 ≡ suc (suc (suc (j * 3))) = omega arith in
    rw (x, y, z) (value_inside bytes vs j (cond_both (value_ok bytes a b c) (values_in bytes vs) e).1 (omega arith))

stored_by : (ts more : List ℕ) (kind low high : ℕ) (t : Bool) → eqb kind 1 ≡ t → value_ok (length ts) kind low high ≡ true → hash_stored ts kind low high ≡ hash_stored (ts ++ more) kind low high
stored_by ts more kind low high true q e =
    let k : low + high ≤ length ts = leb-true (low + high) (length ts) (rw q at e) in
    rw q (sym (ap (λ (x : List ℕ). hash_text x) (text_kept ts more low high k)))
stored_by ts more kind low high false q e = rw q

pub value_text : (vs ts more : List ℕ) → values_in (length ts) vs ≡ true → (j : ℕ) → j < value_count vs → value_hash vs ts j ≡ value_hash vs (ts ++ more) j
value_text vs ts more e j h =
    stored_by ts more (get_or vs (j * 3) 0) (get_or vs (j * 3 + 1) 0) (get_or vs (j * 3 + 2) 0) (eqb (get_or vs (j * 3) 0) 1) refl (value_inside (length ts) vs j e (omega arith))

pub value_word : (vs new ts : List ℕ) (j : ℕ) → j < value_count vs → value_hash vs ts j ≡ value_hash (vs ++ new) ts j
value_word vs new ts j h =
    let a : get_or (vs ++ new) (j * 3) 0 ≡ get_or vs (j * 3) 0 = get_or-append vs new 0 (j * 3) (omega arith) in
    let b : get_or (vs ++ new) (j * 3 + 1) 0 ≡ get_or vs (j * 3 + 1) 0 = get_or-append vs new 0 (j * 3 + 1) (omega arith) in
    let c : get_or (vs ++ new) (j * 3 + 2) 0 ≡ get_or vs (j * 3 + 2) 0 = get_or-append vs new 0 (j * 3 + 2) (omega arith) in
    rw (a, b, c)

-- texts more
pub values_kept : (l vs ts more : List ℕ) → values_in (length ts) vs ≡ true → ValueIndex l vs ts → ValueIndex l vs (ts ++ more)
values_kept l vs ts more e I =
    same_buckets l (buckets_of (value_hash vs ts) (slots l)) (buckets_of (value_hash vs (ts ++ more)) (slots l)) (value_count vs)
    (λ (j : ℕ) (h : j < value_count vs). ap (λ (x : ℕ). x % slots l) (value_text vs ts more e j h)) I

-- a value more, of three words
pub values_pushed : (l vs ts : List ℕ) (n kind low high hash : ℕ) (more : List ℕ) → values_in (length ts) vs ≡ true → length vs ≡ n * 3 → ValueIndex l vs ts → n < slots l → n < max_entry → hash_stored (ts ++ more) kind low high ≡ hash → ValueIndex (pushed l n hash) (vs ++ (kind ∷ low ∷ high ∷ [])) (ts ++ more)
values_pushed l vs ts n kind low high hash more e g I a b t =
    let new : List ℕ = kind ∷ low ∷ high ∷ [] in
    let c : value_count vs ≡ n = omega arith in
    let d : suc n ≡ value_count (vs ++ new) = omega (arith, length-append vs new) in
    let z : n * 3 + 0 ≡ n * 3 = omega arith in
    let x : get_or (vs ++ new) (n * 3) 0 ≡ kind = rw z at (word_last vs new (n * 3) 0 g) in
    let y : get_or (vs ++ new) (n * 3 + 1) 0 ≡ low = word_last vs new (n * 3) 1 g in
    let u : get_or (vs ++ new) (n * 3 + 2) 0 ≡ high = word_last vs new (n * 3) 2 g in
    let w : value_hash (vs ++ new) (ts ++ more) n ≡ hash = rw (x, y, u) t in
    let J : Indexes l (buckets_of (value_hash vs ts) (slots l)) n = rw c at I in
    subst (λ (k : ℕ). Indexes (pushed l n hash) (buckets_of (value_hash (vs ++ new) (ts ++ more)) (slots (pushed l n hash))) k) d
    (pushed_is_index l (value_hash vs ts) (value_hash (vs ++ new) (ts ++ more)) n hash J a b
    (λ (j : ℕ) (h : j < n). value_text vs ts more e j (omega arith) ∙ value_word vs new (ts ++ more) j (omega arith)) w)
