-- The indexes while tags are put: what is looked up in one that is right is what a scan finds (`key_looked`, `value_looked`), and with what is new pushed to it, it is
-- right again (`keys_on`, `values_on`).
use Prim.Native.Nat.{ℕ, ◌+◌, ◌≤◌}
use mathlib.Core.Path.{◌≡◌, refl, sym, ap, subst, ◌∙◌}
use mathlib.Core.Bool.{Bool, true, false, cond}
use mathlib.Core.List.{List, [], ◌++◌, append-nil, append_assoc}
use native.Mathlib.Omega.{arith}
use lib.ListN.{length, length-append, length-replicate}
use lib.Dec.{ltb, leb, eqb}
use borrow.Author.Tests.{leb-true}
use Rattle.std.specs.Prelude.{Option, Some, None}
use Rattle.table.specs.declared.Value.{Value}
use Rattle.table.specs.Keys.{keys_in, find_key}
use Rattle.table.specs.Values.{values_in, find_value}
use Rattle.table.specs.Texts.{text_of}
use Rattle.index.specs.Hashes.{hash_text, hash_value, hash_stored}
use Rattle.index.specs.Chains.{slots_in, serves, cleared}
use Rattle.index.specs.Entries.{key_count, key_hash, KeyIndex, built_keys, walked_key, value_count, value_hash, ValueIndex, built_values, walked_value}
use Rattle.index.proofs.Pushing.{length_pushed, length_built, built_keys_lem, built_values_lem}
use Rattle.index.proofs.Scanning.{walked_key_is, walked_value_is}
use Rattle.index.proofs.Building.{keys_length, keys_again, keys_more, values_length, values_again, values_more}
use Rattle.layer.specs.declared.Figures.{Figures}
use Rattle.layer.specs.Held.{max_keys, max_values, Seen}
use Rattle.layer.specs.State.{valid}
use Rattle.layer.specs.Calls.{Tag, more_of, put_of, key_words, stored_as, value_words}
use Rattle.layer.proofs.Fitting.{both, within}
use Rattle.layer.proofs.Entries.{length_put, text_next}
use Rattle.layer.proofs.Standing.{parts}
use Rattle.layer.proofs.Keeping.{Lengths}
use Rattle.layer.specs.Lookup.{Index, key_index, value_index, indexed, key_by, value_by, pushed_new, noted, Current, Kept}

-- ---- lists lent from step to step
pub kept_same : (room : Figures) (x : Index) → Kept room x x
kept_same room x = record { keys_long = refl; values_long = refl; keys_same = λ h. refl; values_same = λ h. refl }

pub kept_on : (room : Figures) (x y z : Index) → Kept room x y → Kept room y z → Kept room x z
kept_on room x y z A B =
    record {
      keys_long = B.keys_long ∙ A.keys_long;
      values_long = B.values_long ∙ A.values_long;
      keys_same = λ h. B.keys_same (ap (λ (n : ℕ). serves n room.keys) A.keys_long ∙ h) ∙ A.keys_same h;
      values_same = λ h. B.values_same (ap (λ (n : ℕ). serves n room.values) A.values_long ∙ h) ∙ A.values_same h;
    }

-- a list that is right for one of its length is right for the one that was lent
module _ (used : ℕ → Bool) (build : List ℕ → List ℕ) (alike : (l k : List ℕ) → length l ≡ length k → build l ≡ build k) (l k : List ℕ) (long : length k ≡ length l) (same : used (length l) ≡ false → k ≡ l) (now : k ≡ cond (used (length k)) (build k) k) where
  settled_by : (b : Bool) → used (length l) ≡ b → k ≡ cond (used (length l)) (build l) l
  settled_by true q =
      let p : used (length k) ≡ true = ap used long ∙ q in
      let a : k ≡ build k = rw p at now in
      rw q (a ∙ alike k l long)
  settled_by false q = rw q (same q)

pub settled : (v : Seen) (x y : Index) → Kept v.room x y → Current v y → y ≡ indexed v x
settled v x y A C =
    let a = settled_by (λ (n : ℕ). serves n v.room.keys) (λ (l : List ℕ). built_keys l v.held.keys v.held.texts) (λ l k e. keys_length l k v.held.keys v.held.texts e) x.keys y.keys A.keys_long A.keys_same C.keys (serves (length x.keys) v.room.keys) refl in
    let b = settled_by (λ (n : ℕ). serves n v.room.values) (λ (l : List ℕ). built_values l v.held.values v.held.texts) (λ l k e. values_length l k v.held.values v.held.texts e) x.values y.values A.values_long A.values_same C.values (serves (length x.values) v.room.values) refl in
    (λ i. record { keys = a i; values = b i })

-- a list that was built is as long as it was, and right
module _ (used : ℕ → Bool) (build : List ℕ → List ℕ) (alike : (l k : List ℕ) → length l ≡ length k → build l ≡ build k) (long : (l : List ℕ) → length (build l) ≡ length l) (l : List ℕ) where
  built_long : (b : Bool) → used (length l) ≡ b → length (cond (used (length l)) (build l) l) ≡ length l
  built_long true q = rw q (long l)
  built_long false q = rw q

  built_now : (b : Bool) → used (length l) ≡ b → cond (used (length l)) (build l) l ≡ cond (used (length (cond (used (length l)) (build l) l))) (build (cond (used (length l)) (build l) l)) (cond (used (length l)) (build l) l)
  built_now true q = rw (q, long l, q) (alike l (build l) (sym (long l)))
  built_now false q = rw (q, q)

module _ (v : Seen) (x : Index) where
  abbrev keys_used : ℕ → Bool
  keys_used n = serves n v.room.keys

  abbrev values_used : ℕ → Bool
  values_used n = serves n v.room.values

  abbrev keys_build : List ℕ → List ℕ
  keys_build l = built_keys l v.held.keys v.held.texts

  abbrev values_build : List ℕ → List ℕ
  values_build l = built_values l v.held.values v.held.texts

  keys_built_long : (l : List ℕ) → length (keys_build l) ≡ length l
  keys_built_long l = length_built (cleared l) (key_hash v.held.keys v.held.texts) (key_count v.held.keys) ∙ length-replicate (length l) 0

  values_built_long : (l : List ℕ) → length (values_build l) ≡ length l
  values_built_long l = length_built (cleared l) (value_hash v.held.values v.held.texts) (value_count v.held.values) ∙ length-replicate (length l) 0

  pub current_built : Current v (indexed v x)
  current_built =
      record {
        keys = built_now keys_used keys_build (λ l k e. keys_length l k v.held.keys v.held.texts e) keys_built_long x.keys (keys_used (length x.keys)) refl;
        values = built_now values_used values_build (λ l k e. values_length l k v.held.values v.held.texts e) values_built_long x.values (values_used (length x.values)) refl;
      }

  pub kept_built : Kept v.room x (indexed v x)
  kept_built =
      record {
        keys_long = built_long keys_used keys_build (λ l k e. keys_length l k v.held.keys v.held.texts e) keys_built_long x.keys (keys_used (length x.keys)) refl;
        values_long = built_long values_used values_build (λ l k e. values_length l k v.held.values v.held.texts e) values_built_long x.values (values_used (length x.values)) refl;
        keys_same = λ h. rw h;
        values_same = λ h. rw h;
      }

-- built anew from a list that was lent on, it is the one built from the list that was lent first
pub built_again : (v : Seen) (x y : Index) → Kept v.room x y → indexed v y ≡ indexed v x
built_again v x y A = settled v x (indexed v y) (kept_on v.room x y (indexed v y) A (kept_built v y)) (current_built v y)

-- ---- what is pushed
length_new : (f : Option ℕ) (l : List ℕ) (n h : ℕ) → length (pushed_new f l n h) ≡ length l
length_new (Some j) l n h = refl
length_new None l n h = length_pushed l n h

module _ (l : List ℕ) (room : ℕ) (f : Option ℕ) (n h : ℕ) where
  noted_by : (b : Bool) → length (cond b (pushed_new f l n h) l) ≡ length l
  noted_by true = length_new f l n h
  noted_by false = refl

  pub length_noted : length (noted l room f n h) ≡ length l
  length_noted = noted_by (serves (length l) room)

  pub not_noted : serves (length l) room ≡ false → noted l room f n h ≡ l
  not_noted q = rw q

module _ (used : ℕ → Bool) (build grown put : List ℕ → List ℕ) (alike : (l k : List ℕ) → length l ≡ length k → grown l ≡ grown k) (long : (l : List ℕ) → length (put l) ≡ length l) (step : (l : List ℕ) → put (build l) ≡ grown l) where
  pushed_by : (l : List ℕ) → l ≡ cond (used (length l)) (build l) l → (b : Bool) → used (length l) ≡ b → cond b (put l) l ≡ cond (used (length (cond b (put l) l))) (grown (cond b (put l) l)) (cond b (put l) l)
  pushed_by l h true q =
      let a : l ≡ build l = rw q at h in
      rw (long l, q) (ap put a ∙ step l ∙ alike l (put l) (sym (long l)))
  pushed_by l h false q = rw q

-- a text behind others
text_behind : (ts a b c : List ℕ) (n k : ℕ) → length ts ≡ n → length a ≡ k → text_of (ts ++ (a ++ (b ++ c))) (n + k) (length b) ≡ b
text_behind ts a b c n k e f =
    ap (λ (l : List ℕ). text_of l (n + k) (length b)) (sym (append_assoc ts a (b ++ c))) ∙ text_next (ts ++ a) b c (n + k) (omega (arith, length-append ts a))

-- the number of a value as it is stored is the value's
stored_hash : (v : Value) (text ts : List ℕ) (start : ℕ) (b : Bool) → eqb v.kind 1 ≡ b → text_of ts start (length text) ≡ text →
    hash_stored ts (stored_as start v (length text)).kind (stored_as start v (length text)).low (stored_as start v (length text)).high ≡ hash_value v text
stored_hash v text ts start true q e = rw q (ap (λ (l : List ℕ). hash_text l) e)
stored_hash v text ts start false q e = rw (q, q)

module _ (v : Seen) (e : valid v ≡ true) (L : Lengths v) where
  keys_inside : keys_in (length v.held.texts) v.held.keys ≡ true
  keys_inside = rw L.texts (parts v e).keys

  values_inside : values_in (length v.held.texts) v.held.values ≡ true
  values_inside = rw L.texts (parts v e).values

  -- ---- looking up
  key_found_lem : (l key : List ℕ) → v.layer.used.keys ≤ max_keys → l ≡ built_keys l v.held.keys v.held.texts → serves (length l) v.room.keys ≡ true → walked_key l v.held.keys v.held.texts key (hash_text key) ≡ find_key 0 v.held.keys v.held.texts key
  key_found_lem l key few h q =
      let W = within v.layer.used v.room (parts v e).room in
      let k = leb-true v.room.keys (slots_in (length l)) (both (ltb 0 (slots_in (length l))) (leb v.room.keys (slots_in (length l))) q).1 in
      let c : key_count v.held.keys ≡ v.layer.used.keys = omega (arith, L.keys) in
      let I : KeyIndex (built_keys l v.held.keys v.held.texts) v.held.keys v.held.texts = built_keys_lem l v.held.keys v.held.texts (omega (arith, W.keys)) (omega (arith, few)) in
      walked_key_is l v.held.keys v.held.texts key (subst (λ (x : List ℕ). KeyIndex x v.held.keys v.held.texts) (sym h) I) (omega (arith, W.keys))

  value_found_lem : (l : List ℕ) (w : Value) (text : List ℕ) → v.layer.used.values ≤ max_values → l ≡ built_values l v.held.values v.held.texts → serves (length l) v.room.values ≡ true → walked_value l v.held.values v.held.texts w text (hash_value w text) ≡ find_value 0 v.held.values v.held.texts w text
  value_found_lem l w text few h q =
      let W = within v.layer.used v.room (parts v e).room in
      let k = leb-true v.room.values (slots_in (length l)) (both (ltb 0 (slots_in (length l))) (leb v.room.values (slots_in (length l))) q).1 in
      let c : value_count v.held.values ≡ v.layer.used.values = omega (arith, L.values) in
      let I : ValueIndex (built_values l v.held.values v.held.texts) v.held.values v.held.texts = built_values_lem l v.held.values v.held.texts (omega (arith, W.values)) (omega (arith, few)) in
      walked_value_is l v.held.values v.held.texts w text (subst (λ (x : List ℕ). ValueIndex x v.held.values v.held.texts) (sym h) I) (omega (arith, W.values))

  -- ---- what is new pushed
  module _ (t : Tag) (kf vf : Option ℕ) where
    abbrev texts_after : List ℕ
    texts_after = v.held.texts ++ (put_of kf t.key ++ put_of vf t.text)

    key_pushed : (f : Option ℕ) → f ≡ kf → (l : List ℕ) → pushed_new f (built_keys l v.held.keys v.held.texts) v.layer.used.keys (hash_text t.key) ≡ built_keys l (v.held.keys ++ put_of f (key_words v.layer.used.texts t.key)) texts_after
    key_pushed (Some j) q l = keys_again l v.held.keys v.held.texts (put_of kf t.key ++ put_of vf t.text) keys_inside ∙ ap (λ (k : List ℕ). built_keys l k texts_after) (sym (append-nil v.held.keys))
    key_pushed None q l =
        let a : text_of texts_after v.layer.used.texts (length t.key) ≡ t.key = rw (← q) (let z : v.layer.used.texts + 0 ≡ v.layer.used.texts = omega arith in rw z at (text_behind v.held.texts [] t.key (put_of vf t.text) v.layer.used.texts 0 L.texts refl)) in
        keys_more l v.held.keys v.held.texts v.layer.used.keys v.layer.used.texts t.key (put_of kf t.key ++ put_of vf t.text) keys_inside L.keys a

    value_pushed : (f : Option ℕ) → f ≡ vf → (l : List ℕ) → pushed_new f (built_values l v.held.values v.held.texts) v.layer.used.values (hash_value t.value t.text)
        ≡ built_values l (v.held.values ++ put_of f (value_words (v.layer.used.texts + more_of kf (length t.key)) t.value t.text)) texts_after
    value_pushed (Some j) q l = values_again l v.held.values v.held.texts (put_of kf t.key ++ put_of vf t.text) values_inside ∙ ap (λ (k : List ℕ). built_values l k texts_after) (sym (append-nil v.held.values))
    value_pushed None q l =
        let start = v.layer.used.texts + more_of kf (length t.key) in
        let a : text_of texts_after (v.layer.used.texts + more_of kf (length t.key)) (length t.text) ≡ t.text =
        rw (← q) (rw (append-nil t.text) at (text_behind v.held.texts (put_of kf t.key) t.text [] v.layer.used.texts (more_of kf (length t.key)) L.texts (length_put kf t.key))) in
        let s = stored_as start t.value (length t.text) in
        values_more l v.held.values v.held.texts v.layer.used.values s.kind s.low s.high (hash_value t.value t.text) (put_of kf t.key ++ put_of vf t.text) values_inside L.values (stored_hash t.value t.text texts_after start (eqb t.value.kind 1) refl a)

    -- the indexes after a tag, where what was found is what a scan finds
    pub keys_on : (l : List ℕ) → l ≡ key_index v l →
        noted l v.room.keys kf v.layer.used.keys (hash_text t.key)
        ≡ cond (serves (length (noted l v.room.keys kf v.layer.used.keys (hash_text t.key))) v.room.keys) (built_keys (noted l v.room.keys kf v.layer.used.keys (hash_text t.key)) (v.held.keys ++ put_of kf (key_words v.layer.used.texts t.key)) texts_after) (noted l v.room.keys kf v.layer.used.keys (hash_text t.key))
    keys_on l h =
        pushed_by (λ (n : ℕ). serves n v.room.keys) (λ (k : List ℕ). built_keys k v.held.keys v.held.texts) (λ (k : List ℕ). built_keys k (v.held.keys ++ put_of kf (key_words v.layer.used.texts t.key)) texts_after)
        (λ (k : List ℕ). pushed_new kf k v.layer.used.keys (hash_text t.key)) (λ k j e. keys_length k j (v.held.keys ++ put_of kf (key_words v.layer.used.texts t.key)) texts_after e)
        (λ k. length_new kf k v.layer.used.keys (hash_text t.key)) (λ k. key_pushed kf refl k) l h (serves (length l) v.room.keys) refl

    pub values_on : (l : List ℕ) → l ≡ value_index v l →
        noted l v.room.values vf v.layer.used.values (hash_value t.value t.text)
        ≡ cond (serves (length (noted l v.room.values vf v.layer.used.values (hash_value t.value t.text))) v.room.values) (built_values (noted l v.room.values vf v.layer.used.values (hash_value t.value t.text)) (v.held.values ++ put_of vf (value_words (v.layer.used.texts + more_of kf (length t.key)) t.value t.text)) texts_after) (noted l v.room.values vf v.layer.used.values (hash_value t.value t.text))
    values_on l h =
        pushed_by (λ (n : ℕ). serves n v.room.values) (λ (k : List ℕ). built_values k v.held.values v.held.texts) (λ (k : List ℕ). built_values k (v.held.values ++ put_of vf (value_words (v.layer.used.texts + more_of kf (length t.key)) t.value t.text)) texts_after)
        (λ (k : List ℕ). pushed_new vf k v.layer.used.values (hash_value t.value t.text)) (λ k j e. values_length k j (v.held.values ++ put_of vf (value_words (v.layer.used.texts + more_of kf (length t.key)) t.value t.text)) texts_after e)
        (λ k. length_new vf k v.layer.used.values (hash_value t.value t.text)) (λ k. value_pushed vf refl k) l h (serves (length l) v.room.values) refl

  -- what is looked up is what a scan finds
  key_by_lem : (l key : List ℕ) (b : Bool) → serves (length l) v.room.keys ≡ b → v.layer.used.keys ≤ max_keys → l ≡ key_index v l → key_by l v.room.keys v.held.keys v.held.texts key (hash_text key) ≡ find_key 0 v.held.keys v.held.texts key
  key_by_lem l key true q few h = let a : l ≡ built_keys l v.held.keys v.held.texts = rw q at h in rw q (key_found_lem l key few a q)
  key_by_lem l key false q few h = rw q

  pub key_looked : (l key : List ℕ) → v.layer.used.keys ≤ max_keys → l ≡ key_index v l → key_by l v.room.keys v.held.keys v.held.texts key (hash_text key) ≡ find_key 0 v.held.keys v.held.texts key
  key_looked l key few h = key_by_lem l key (serves (length l) v.room.keys) refl few h

  value_by_lem : (l : List ℕ) (w : Value) (text : List ℕ) (b : Bool) → serves (length l) v.room.values ≡ b → v.layer.used.values ≤ max_values → l ≡ value_index v l → value_by l v.room.values v.held.values v.held.texts w text (hash_value w text) ≡ find_value 0 v.held.values v.held.texts w text
  value_by_lem l w text true q few h = let a : l ≡ built_values l v.held.values v.held.texts = rw q at h in rw q (value_found_lem l w text few a q)
  value_by_lem l w text false q few h = rw q

  pub value_looked : (l : List ℕ) (w : Value) (text : List ℕ) → v.layer.used.values ≤ max_values → l ≡ value_index v l → value_by l v.room.values v.held.values v.held.texts w text (hash_value w text) ≡ find_value 0 v.held.values v.held.texts w text
  value_looked l w text few h = value_by_lem l w text (serves (length l) v.room.values) refl few h
