-- What is found after a tag was put: what was found before it, and the tag's own key and value (`key-after`, `value_after`).
use Prim.Native.Nat.{ℕ, zero, suc, ◌+◌, ◌≤◌}
use mathlib.Core.Path.{◌≡◌, refl, sym, ap, ◌∙◌}
use mathlib.Core.Bool.{Bool, true, false, cond, ◌&&◌}
use mathlib.Core.List.{List, [], ◌∷◌, ◌++◌, append-nil, append_assoc}
use native.Mathlib.Omega.{arith}
use lib.ListN.{length, take, drop, length-append, length-drop}
use lib.Seq.{length-take-le}
use lib.Dec.{eqb}
use borrow.Author.Tests.{le-leb, leb-true, eqb-true, eq-eqb}
use Rattle.std.specs.Prelude.{Option, Some, None}
use Rattle.table.specs.declared.Value.{Value}
use Rattle.table.specs.Texts.{inside, begins, same_text, text_of}
use Rattle.table.specs.Keys.{find_key, keys_in}
use Rattle.table.specs.Values.{is_zero, same_content, same_value, find_value, value_ok, values_in}
use Rattle.records.specs.Records.{is_found}
use Rattle.promise.proofs.Joined.{never, cond_both}
use Rattle.promise.proofs.Joined.{same, both}
use Rattle.index.proofs.Alike.{text_is}
use Rattle.index.proofs.Growing.{text_kept}
use Rattle.layer.specs.TagLists.{value_given, text_place}
use Rattle.layer.specs.Calls.{stored_as}
use Rattle.layer.specs.NeedSteps.{placed_text}
use Rattle.layer.proofs.Entries.{text_next}

-- ---- tests
-- one that follows from another adds nothing to it
absorbed : (a b : Bool) → (b ≡ true → a ≡ true) → a ≡ cond a true b
absorbed true b f = refl
absorbed false true f = f refl
absorbed false false f = refl

-- ---- texts
begins_front : (l : List ℕ) (n : ℕ) → begins l (take n l) ≡ true
begins_front l zero = refl
begins_front [] (suc n) = refl
begins_front (x ∷ l) (suc n) = rw (eq-eqb x x refl) (begins_front l n)

is_text : (ts : List ℕ) (start len : ℕ) (key : List ℕ) → start + len ≤ length ts → text_of ts start len ≡ key → same_text ts start len key ≡ true
is_text ts start len key h e =
    let n : length (take len (drop start ts)) ≡ len = length-take-le len (drop start ts) (omega (arith, length-drop start ts)) in
    rw (← e, le-leb (start + len) (length ts) h, n, eq-eqb len len refl) (begins_front (drop start ts) len)

same_texts : (ts us : List ℕ) (start len s n : ℕ) (key : List ℕ) → start + len ≤ length ts → s + n ≤ length us → text_of ts start len ≡ text_of us s n → same_text ts start len key ≡ same_text us s n key
same_texts ts us start len s n key h k e =
    same (same_text ts start len key) (same_text us s n key)
    (λ y. is_text us s n key k (sym e ∙ text_is ts start len key y))
    (λ y. is_text ts start len key h (e ∙ text_is us s n key y))

-- ---- an entry met or not
by_found : (s : Bool) (j : ℕ) (f g : Option ℕ) (n : Bool) → is_found f ≡ cond (is_found g) true n → is_found (cond s (Some j) f) ≡ cond (is_found (cond s (Some j) g)) true n
by_found true j f g n e = refl
by_found false j f g n e = e

by_index : (s : Bool) (i j : ℕ) (f g : Option ℕ) → is_found f ≡ is_found g → is_found (cond s (Some i) f) ≡ is_found (cond s (Some j) g)
by_index true i j f g e = refl
by_index false i j f g e = e

one_found : (s : Bool) → is_found (cond s (Some 0) None) ≡ s
one_found true = refl
one_found false = refl

-- ---- keys
key_kept : (ts more key ks : List ℕ) (j : ℕ) → keys_in (length ts) ks ≡ true → find_key j ks (ts ++ more) key ≡ find_key j ks ts key
key_kept ts more key [] j e = refl
key_kept ts more key (a ∷ []) j e = refl
key_kept ts more key (a ∷ b ∷ ks) j e =
    let p = cond_both (inside (length ts) a b) (keys_in (length ts) ks) e in
    let h = leb-true (a + b) (length ts) p.0 in
    let s = same_texts (ts ++ more) ts a b a b key (omega (arith, length-append ts more)) h (text_kept ts more a b h) in
    ap (λ (t : Bool). cond t (Some j) (find_key (suc j) ks (ts ++ more) key)) s ∙ ap (λ (f : Option ℕ). cond (same_text ts a b key) (Some j) f) (key_kept ts more key ks (suc j) p.1)

key_index_lem : (ks ts key : List ℕ) (i j : ℕ) → is_found (find_key i ks ts key) ≡ is_found (find_key j ks ts key)
key_index_lem [] ts key i j = refl
key_index_lem (a ∷ []) ts key i j = refl
key_index_lem (a ∷ b ∷ ks) ts key i j = by_index (same_text ts a b key) i j (find_key (suc i) ks ts key) (find_key (suc j) ks ts key) (key_index_lem ks ts key (suc i) (suc j))

key_append : (n : ℕ) (ks new ts key : List ℕ) (j : ℕ) → keys_in n ks ≡ true → is_found (find_key j (ks ++ new) ts key) ≡ cond (is_found (find_key j ks ts key)) true (is_found (find_key 0 new ts key))
key_append n [] new ts key j e = key_index_lem new ts key j 0
key_append n (a ∷ []) new ts key j e = never e
key_append n (a ∷ b ∷ ks) new ts key j e =
    by_found (same_text ts a b key) j (find_key (suc j) (ks ++ new) ts key) (find_key (suc j) ks ts key) (is_found (find_key 0 new ts key))
    (key_append n ks new ts key (suc j) (cond_both (inside n a b) (keys_in n ks) e).1)

-- a key that is the text of len bytes at start was looked up (`f`), and put where it was not found
module _ (bytes : List ℕ) (start len : ℕ) (h : start + len ≤ length bytes) (ks ts : List ℕ) (u : ℕ) (K : keys_in (length ts) ks ≡ true) (L : length ts ≡ u) where
  pub key_old : (j : ℕ) → find_key 0 ks ts (text_of bytes start len) ≡ Some j → (more key : List ℕ) → is_found (find_key 0 (ks ++ []) (ts ++ more) key) ≡ cond (is_found (find_key 0 ks ts key)) true (same_text bytes start len key)
  key_old j q more key =
      let a : is_found (find_key 0 (ks ++ []) (ts ++ more) key) ≡ is_found (find_key 0 ks ts key) = rw append-nil (ap (λ (f : Option ℕ). is_found f) (key_kept ts more key ks 0 K)) in
      a ∙ absorbed (is_found (find_key 0 ks ts key)) (same_text bytes start len key)
      (λ y. ap (λ (k : List ℕ). is_found (find_key 0 ks ts k)) (sym (text_is bytes start len key y)) ∙ ap (λ (f : Option ℕ). is_found f) q)

  pub key_new : (more key : List ℕ) → is_found (find_key 0 (ks ++ (u ∷ length (text_of bytes start len) ∷ [])) (ts ++ (text_of bytes start len ++ more)) key) ≡ cond (is_found (find_key 0 ks ts key)) true (same_text bytes start len key)
  key_new more key =
      let new = text_of bytes start len in
      let all = ts ++ (text_of bytes start len ++ more) in
      let n : length new ≡ len = length-take-le len (drop start bytes) (omega (arith, length-drop start bytes)) in
      let s : same_text all u (length new) key ≡ same_text bytes start len key =
      same_texts all bytes u (length new) start len key (omega (arith, length-append ts (new ++ more), length-append new more)) h (text_next ts new more u L) in
      key_append (length ts) ks (u ∷ length new ∷ []) all key 0 K
      ∙ ap (λ (f : Option ℕ). cond (is_found f) true (is_found (find_key 0 (u ∷ length new ∷ []) all key))) (key_kept ts (new ++ more) key ks 0 K)
      ∙ ap (λ (b : Bool). cond (is_found (find_key 0 ks ts key)) true b) (one_found (same_text all u (length new) key) ∙ s)

-- ---- values that are the same
and_true : (a : Bool) → (a && true) ≡ a
and_true true = refl
and_true false = refl

zero_by : (t a b : Bool) → b ≡ true → (t ≡ true → a ≡ true) → cond t true (a && b) ≡ a
zero_by true a b e f = sym (f refl)
zero_by false a b e f = rw e (and_true a)

-- what is the same as a zero is a zero
zero_content : (kind l h low high : ℕ) → is_zero kind low high ≡ true → same_content kind l h low high ≡ is_zero kind l h
zero_content kind l h low high z =
    zero_by (eqb l low && eqb h high) (is_zero kind l h) (is_zero kind low high) z
    (λ q. let p = both (eqb l low) (eqb h high) q in rw (eqb-true l low p.0, eqb-true h high p.1) z)

content_by : (kind l h low high low₂ high₂ : ℕ) (t : Bool) → (eqb low low₂ && eqb high high₂) ≡ t → cond t true (is_zero kind low high && is_zero kind low₂ high₂) ≡ true → same_content kind l h low high ≡ same_content kind l h low₂ high₂
content_by kind l h low high low₂ high₂ true q e =
    let p = both (eqb low low₂) (eqb high high₂) q in
    rw (eqb-true low low₂ p.0, eqb-true high high₂ p.1)
content_by kind l h low high low₂ high₂ false q e =
    let p = both (is_zero kind low high) (is_zero kind low₂ high₂) e in
    zero_content kind l h low high p.0 ∙ sym (zero_content kind l h low₂ high₂ p.1)

content_swap : (kind l h low high low₂ high₂ : ℕ) → same_content kind low high low₂ high₂ ≡ true → same_content kind l h low high ≡ same_content kind l h low₂ high₂
content_swap kind l h low high low₂ high₂ e = content_by kind l h low high low₂ high₂ (eqb low low₂ && eqb high high₂) refl e

-- what is compared with one is compared with the other
twice_asked : (b x y z : Bool) → cond b (cond b x y) false ≡ cond b (cond b x z) false
twice_asked true x y z = refl
twice_asked false x y z = refl

kind_by : (ts : List ℕ) (kind low high low₂ high₂ : ℕ) (a b : List ℕ) (k l h : ℕ) (t : Bool) → eqb k kind ≡ t → eqb kind 1 ≡ false → same_content kind low high low₂ high₂ ≡ true →
    cond (eqb k kind) (cond (eqb k 1) (same_text ts l h a) (same_content k l h low high)) false ≡ cond (eqb k kind) (cond (eqb k 1) (same_text ts l h b) (same_content k l h low₂ high₂)) false
kind_by ts kind low high low₂ high₂ a b k l h true q n e =
    let p : k ≡ kind = eqb-true k kind q in
    rw (p, n) (ap (λ (x : Bool). cond (eqb kind kind) x false) (content_swap kind l h low high low₂ high₂ e))
kind_by ts kind low high low₂ high₂ a b k l h false q n e = rw q

module _ (bytes : List ℕ) (kind low high : ℕ) where
  swap_by : (v : Value) (text : List ℕ) (t : Bool) → eqb kind 1 ≡ t → same_value bytes kind low high v text ≡ true → (ts : List ℕ) (k l h : ℕ) → same_value ts k l h (value_given kind low high) (placed_text bytes (text_place kind low high)) ≡ same_value ts k l h v text
  swap_by v text true q e ts k l h =
      let p = cond_both (eqb kind v.kind) (cond (eqb kind 1) (same_text bytes low high text) (same_content kind low high v.low v.high)) e in
      let a : same_text bytes low high text ≡ true = rw q at p.1 in
      let b : v.kind ≡ 1 = sym (eqb-true kind v.kind p.0) ∙ eqb-true kind 1 q in
      let c : text_of bytes low high ≡ text = text_is bytes low high text a in
      rw (q, c, b) (twice_asked (eqb k 1) (same_text ts l h text) (same_content k l h 0 0) (same_content k l h v.low v.high))
  swap_by v text false q e ts k l h =
      let p = cond_both (eqb kind v.kind) (cond (eqb kind 1) (same_text bytes low high text) (same_content kind low high v.low v.high)) e in
      let a : same_content kind low high v.low v.high ≡ true = rw q at p.1 in
      let b : v.kind ≡ kind = sym (eqb-true kind v.kind p.0) in
      rw (q, b) (kind_by ts kind low high v.low v.high [] text k l h (eqb k kind) refl q a)

find_alike : (ts : List ℕ) (v w : Value) (a b : List ℕ) → ((k l h : ℕ) → same_value ts k l h v a ≡ same_value ts k l h w b) → (vs : List ℕ) (j : ℕ) → find_value j vs ts v a ≡ find_value j vs ts w b
find_alike ts v w a b f [] j = refl
find_alike ts v w a b f (x ∷ []) j = refl
find_alike ts v w a b f (x ∷ y ∷ []) j = refl
find_alike ts v w a b f (x ∷ y ∷ z ∷ vs) j =
    ap (λ (t : Bool). cond t (Some j) (find_value (suc j) vs ts v a)) (f x y z) ∙ ap (λ (g : Option ℕ). cond (same_value ts x y z w b) (Some j) g) (find_alike ts v w a b f vs (suc j))

-- ---- values
entry_kept : (ts more : List ℕ) (kind low high : ℕ) (v : Value) (text : List ℕ) (t : Bool) → eqb kind 1 ≡ t → value_ok (length ts) kind low high ≡ true → same_value (ts ++ more) kind low high v text ≡ same_value ts kind low high v text
entry_kept ts more kind low high v text true q e =
    let h = leb-true (low + high) (length ts) (rw q at e) in
    let s = same_texts (ts ++ more) ts low high low high text (omega (arith, length-append ts more)) h (text_kept ts more low high h) in
    rw q (ap (λ (x : Bool). cond (eqb kind v.kind) x false) s)
entry_kept ts more kind low high v text false q e = rw q

value_kept : (ts more : List ℕ) (v : Value) (text vs : List ℕ) (j : ℕ) → values_in (length ts) vs ≡ true → find_value j vs (ts ++ more) v text ≡ find_value j vs ts v text
value_kept ts more v text [] j e = refl
value_kept ts more v text (a ∷ []) j e = refl
value_kept ts more v text (a ∷ b ∷ []) j e = refl
value_kept ts more v text (a ∷ b ∷ c ∷ vs) j e =
    let p = cond_both (value_ok (length ts) a b c) (values_in (length ts) vs) e in
    ap (λ (t : Bool). cond t (Some j) (find_value (suc j) vs (ts ++ more) v text)) (entry_kept ts more a b c v text (eqb a 1) refl p.0)
    ∙ ap (λ (f : Option ℕ). cond (same_value ts a b c v text) (Some j) f) (value_kept ts more v text vs (suc j) p.1)

value_index_lem : (vs ts : List ℕ) (v : Value) (text : List ℕ) (i j : ℕ) → is_found (find_value i vs ts v text) ≡ is_found (find_value j vs ts v text)
value_index_lem [] ts v text i j = refl
value_index_lem (a ∷ []) ts v text i j = refl
value_index_lem (a ∷ b ∷ []) ts v text i j = refl
value_index_lem (a ∷ b ∷ c ∷ vs) ts v text i j = by_index (same_value ts a b c v text) i j (find_value (suc i) vs ts v text) (find_value (suc j) vs ts v text) (value_index_lem vs ts v text (suc i) (suc j))

value_append : (n : ℕ) (vs new ts : List ℕ) (v : Value) (text : List ℕ) (j : ℕ) → values_in n vs ≡ true → is_found (find_value j (vs ++ new) ts v text) ≡ cond (is_found (find_value j vs ts v text)) true (is_found (find_value 0 new ts v text))
value_append n [] new ts v text j e = value_index_lem new ts v text j 0
value_append n (a ∷ []) new ts v text j e = never e
value_append n (a ∷ b ∷ []) new ts v text j e = never e
value_append n (a ∷ b ∷ c ∷ vs) new ts v text j e =
    by_found (same_value ts a b c v text) j (find_value (suc j) (vs ++ new) ts v text) (find_value (suc j) vs ts v text) (is_found (find_value 0 new ts v text))
    (value_append n vs new ts v text (suc j) (cond_both (value_ok n a b c) (values_in n vs) e).1)

-- a value as it is stored, its text where it is put, is the one that was given
stored_by : (bytes all : List ℕ) (kind low high start : ℕ) (t : Bool) → eqb kind 1 ≡ t → value_ok (length bytes) kind low high ≡ true → start + length (placed_text bytes (text_place kind low high)) ≤ length all → text_of all start (length (placed_text bytes (text_place kind low high))) ≡ placed_text bytes (text_place kind low high) → (v : Value) (text : List ℕ) →
    same_value all (stored_as start (value_given kind low high) (length (placed_text bytes (text_place kind low high)))).kind (stored_as start (value_given kind low high) (length (placed_text bytes (text_place kind low high)))).low (stored_as start (value_given kind low high) (length (placed_text bytes (text_place kind low high)))).high v text ≡ same_value bytes kind low high v text
stored_by bytes all kind low high start true q e h g v text =
    let k : kind ≡ 1 = eqb-true kind 1 q in
    let i : low + high ≤ length bytes = leb-true (low + high) (length bytes) (rw q at e) in
    let m : start + length (text_of bytes low high) ≤ length all = rw q at h in
    let x : text_of all start (length (text_of bytes low high)) ≡ text_of bytes low high = rw q at g in
    let s = same_texts all bytes start (length (text_of bytes low high)) low high text m i x in
    rw k (ap (λ (b : Bool). cond (eqb 1 v.kind) b false) s)
stored_by bytes all kind low high start false q e h g v text = rw (q, q, q)

module _ (bytes : List ℕ) (kind low high : ℕ) (ok : value_ok (length bytes) kind low high ≡ true) (vs ts : List ℕ) (u : ℕ) (K : values_in (length ts) vs ≡ true) (L : length ts ≡ u) where
  pub value_old : (j : ℕ) → find_value 0 vs ts (value_given kind low high) (placed_text bytes (text_place kind low high)) ≡ Some j → (more : List ℕ) (v : Value) (text : List ℕ) → is_found (find_value 0 (vs ++ []) (ts ++ more) v text) ≡ cond (is_found (find_value 0 vs ts v text)) true (same_value bytes kind low high v text)
  value_old j q more v text =
      let a : is_found (find_value 0 (vs ++ []) (ts ++ more) v text) ≡ is_found (find_value 0 vs ts v text) = rw append-nil (ap (λ (f : Option ℕ). is_found f) (value_kept ts more v text vs 0 K)) in
      a ∙ absorbed (is_found (find_value 0 vs ts v text)) (same_value bytes kind low high v text)
      (λ y. ap (λ (f : Option ℕ). is_found f) (sym (find_alike ts (value_given kind low high) v (placed_text bytes (text_place kind low high)) text (swap_by bytes kind low high v text (eqb kind 1) refl y ts) vs 0) ∙ q))

  pub value_new : (put : List ℕ) (n : ℕ) → length put ≡ n → (v : Value) (text : List ℕ) →
      is_found (find_value 0 (vs ++ ((stored_as (u + n) (value_given kind low high) (length (placed_text bytes (text_place kind low high)))).kind ∷ (stored_as (u + n) (value_given kind low high) (length (placed_text bytes (text_place kind low high)))).low ∷ (stored_as (u + n) (value_given kind low high) (length (placed_text bytes (text_place kind low high)))).high ∷ [])) (ts ++ (put ++ placed_text bytes (text_place kind low high))) v text)
      ≡ cond (is_found (find_value 0 vs ts v text)) true (same_value bytes kind low high v text)
  value_new put n m v text =
      let new = placed_text bytes (text_place kind low high) in
      let all = ts ++ (put ++ placed_text bytes (text_place kind low high)) in
      let w = stored_as (u + n) (value_given kind low high) (length (placed_text bytes (text_place kind low high))) in
      let x : all ≡ ts ++ put ++ (new ++ []) = sym (append_assoc ts put new) ∙ ap (λ (l : List ℕ). ts ++ put ++ l) (sym (append-nil new)) in
      let y : text_of all (u + n) (length new) ≡ new = ap (λ (l : List ℕ). text_of l (u + n) (length new)) x ∙ text_next (ts ++ put) new [] (u + n) (omega (arith, length-append ts put)) in
      let s = stored_by bytes all kind low high (u + n) (eqb kind 1) refl ok (omega (arith, length-append ts (put ++ new), length-append put new)) y v text in
      value_append (length ts) vs (w.kind ∷ w.low ∷ w.high ∷ []) all v text 0 K
      ∙ ap (λ (f : Option ℕ). cond (is_found f) true (is_found (find_value 0 (w.kind ∷ w.low ∷ w.high ∷ []) all v text))) (value_kept ts (put ++ new) v text vs 0 K)
      ∙ ap (λ (b : Bool). cond (is_found (find_value 0 vs ts v text)) true b) (one_found (same_value all w.kind w.low w.high v text) ∙ s)
