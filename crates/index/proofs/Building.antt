-- An index that is built is the one that its entries, pushed one after the other as the layer grew, left: word by word, so a caller can say the whole list.
--     keys_again keys_more values_again values_more
use Prim.Native.Nat.{ℕ, zero, suc, ◌+◌, ◌*◌, ◌<◌}
use mathlib.Core.Path.{◌≡◌, refl, sym, ap, ◌∙◌}
use mathlib.Core.Bool.{true}
use mathlib.Core.List.{List, [], ◌∷◌, ◌++◌}
use native.Mathlib.Omega.{arith}
use lib.ListN.{length, get_or, length-append}
use Rattle.table.specs.Keys.{keys_in}
use Rattle.table.specs.Values.{values_in}
use Rattle.table.specs.Texts.{text_of}
use Rattle.index.specs.Hashes.{hash_text, hash_stored}
use Rattle.index.specs.Chains.{cleared, pushed, built}
use Rattle.index.specs.Entries.{key_count, key_hash, built_keys, value_count, value_hash, built_values}
use Rattle.index.proofs.Growing.{word_last, key_text, key_word, value_text, value_word}

-- the same entries
built_same : (l : List ℕ) (hs ks : ℕ → ℕ) (n : ℕ) → ((j : ℕ) → j < n → hs j ≡ ks j) → built l hs n ≡ built l ks n
built_same l hs ks zero e = refl
built_same l hs ks (suc n) e =
    ap (λ (x : List ℕ). pushed x n (hs n)) (built_same l hs ks n (λ (j : ℕ) (h : j < n). e j (omega arith)))
    ∙ ap (λ (x : ℕ). pushed (built l ks n) n x) (e n (omega arith))

-- a list of the same length
pub keys_length : (l k ks ts : List ℕ) → length l ≡ length k → built_keys l ks ts ≡ built_keys k ks ts
keys_length l k ks ts e = rw e

pub values_length : (l k vs ts : List ℕ) → length l ≡ length k → built_values l vs ts ≡ built_values k vs ts
values_length l k vs ts e = rw e

-- ---- keys
pub keys_again : (l ks ts more : List ℕ) → keys_in (length ts) ks ≡ true → built_keys l ks ts ≡ built_keys l ks (ts ++ more)
keys_again l ks ts more e = built_same (cleared l) (key_hash ks ts) (key_hash ks (ts ++ more)) (key_count ks) (key_text ks ts more e)

pub keys_more : (l ks ts : List ℕ) (n start : ℕ) (key more : List ℕ) → keys_in (length ts) ks ≡ true → length ks ≡ n * 2 → text_of (ts ++ more) start (length key) ≡ key → pushed (built_keys l ks ts) n (hash_text key) ≡ built_keys l (ks ++ (start ∷ length key ∷ [])) (ts ++ more)
keys_more l ks ts n start key more e g t =
    let new : List ℕ = start ∷ length key ∷ [] in
    let c : key_count ks ≡ n = omega arith in
    let d : key_count (ks ++ new) ≡ suc n = omega (arith, length-append ks new) in
    let z : n * 2 + 0 ≡ n * 2 = omega arith in
    let x : get_or (ks ++ new) (n * 2) 0 ≡ start = rw z at (word_last ks new (n * 2) 0 g) in
    let y : get_or (ks ++ new) (n * 2 + 1) 0 ≡ length key = word_last ks new (n * 2) 1 g in
    let w : key_hash (ks ++ new) (ts ++ more) n ≡ hash_text key = rw (x, y) (ap (λ (k : List ℕ). hash_text k) t) in
    let b : built (cleared l) (key_hash ks ts) n ≡ built (cleared l) (key_hash (ks ++ new) (ts ++ more)) n =
    built_same (cleared l) (key_hash ks ts) (key_hash (ks ++ new) (ts ++ more)) n (λ (j : ℕ) (h : j < n). key_text ks ts more e j (omega arith) ∙ key_word ks new (ts ++ more) j (omega arith)) in
    ap (λ (k : ℕ). pushed (built (cleared l) (key_hash ks ts) k) n (hash_text key)) c
    ∙ ap (λ (k : List ℕ). pushed k n (hash_text key)) b
    ∙ ap (λ (k : ℕ). pushed (built (cleared l) (key_hash (ks ++ new) (ts ++ more)) n) n k) (sym w)
    ∙ sym (ap (λ (k : ℕ). built (cleared l) (key_hash (ks ++ new) (ts ++ more)) k) d)

-- ---- values
pub values_again : (l vs ts more : List ℕ) → values_in (length ts) vs ≡ true → built_values l vs ts ≡ built_values l vs (ts ++ more)
values_again l vs ts more e = built_same (cleared l) (value_hash vs ts) (value_hash vs (ts ++ more)) (value_count vs) (value_text vs ts more e)

pub values_more : (l vs ts : List ℕ) (n kind low high hash : ℕ) (more : List ℕ) → values_in (length ts) vs ≡ true → length vs ≡ n * 3 → hash_stored (ts ++ more) kind low high ≡ hash → pushed (built_values l vs ts) n hash ≡ built_values l (vs ++ (kind ∷ low ∷ high ∷ [])) (ts ++ more)
values_more l vs ts n kind low high hash more e g t =
    let new : List ℕ = kind ∷ low ∷ high ∷ [] in
    let c : value_count vs ≡ n = omega arith in
    let d : value_count (vs ++ new) ≡ suc n = omega (arith, length-append vs new) in
    let z : n * 3 + 0 ≡ n * 3 = omega arith in
    let x : get_or (vs ++ new) (n * 3) 0 ≡ kind = rw z at (word_last vs new (n * 3) 0 g) in
    let y : get_or (vs ++ new) (n * 3 + 1) 0 ≡ low = word_last vs new (n * 3) 1 g in
    let u : get_or (vs ++ new) (n * 3 + 2) 0 ≡ high = word_last vs new (n * 3) 2 g in
    let w : value_hash (vs ++ new) (ts ++ more) n ≡ hash = rw (x, y, u) t in
    let b : built (cleared l) (value_hash vs ts) n ≡ built (cleared l) (value_hash (vs ++ new) (ts ++ more)) n =
    built_same (cleared l) (value_hash vs ts) (value_hash (vs ++ new) (ts ++ more)) n (λ (j : ℕ) (h : j < n). value_text vs ts more e j (omega arith) ∙ value_word vs new (ts ++ more) j (omega arith)) in
    ap (λ (k : ℕ). pushed (built (cleared l) (value_hash vs ts) k) n hash) c
    ∙ ap (λ (k : List ℕ). pushed k n hash) b
    ∙ ap (λ (k : ℕ). pushed (built (cleared l) (value_hash (vs ++ new) (ts ++ more)) n) n k) (sym w)
    ∙ sym (ap (λ (k : ℕ). built (cleared l) (value_hash (vs ++ new) (ts ++ more)) k) d)
