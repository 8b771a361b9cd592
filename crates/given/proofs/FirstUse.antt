-- Order of first use: what was met stays where it is, what is used is met, and what is new goes last.
use Prim.Native.Nat.{ℕ, suc}
use mathlib.Core.Path.{◌≡◌, refl, sym, ap, ◌∙◌}
use mathlib.Core.Bool.{Bool, true, false, cond}
use mathlib.Core.List.{List, [], ◌∷◌, ◌++◌, map, append_assoc, append-nil, map-append}
use lib.ListN.{length}
use borrow.Author.Tests.{eq-eqb}
use Rattle.layer.proofs.Fitting.{never}
use Rattle.tile.specs.Holding.{same_bytes}
use Rattle.given.specs.Given.{Content, Tag, mark, same, among, place_of, joined, first_used, key_of, content_of}
use Rattle.given.specs.Messages.{tag_indices}

-- what may be new behind what was met
abbrev pub new : {A : Type 0} → Bool → A → List A
new b x = cond b [] (x ∷ [])

module _ {A : Type 0} (alike : A → A → Bool) where
  pub among_more : (x : A) (xs ys : List A) → among alike x xs ≡ true → among alike x (xs ++ ys) ≡ true
  among_more x [] ys e = never e
  among_more x (y ∷ xs) ys e = by (alike y x) (among_more x xs ys) e
    where
      by : (t : Bool) → (among alike x xs ≡ true → among alike x (xs ++ ys) ≡ true) → cond t true (among alike x xs) ≡ true → cond t true (among alike x (xs ++ ys)) ≡ true
      by true k h = refl
      by false k h = k h

  pub place_more : (x : A) (xs ys : List A) → among alike x xs ≡ true → place_of alike x (xs ++ ys) ≡ place_of alike x xs
  place_more x [] ys e = never e
  place_more x (y ∷ xs) ys e = by (alike y x) (place_more x xs ys) e
    where
      by : (t : Bool) → (among alike x xs ≡ true → place_of alike x (xs ++ ys) ≡ place_of alike x xs) → cond t true (among alike x xs) ≡ true → cond t 0 (suc (place_of alike x (xs ++ ys))) ≡ cond t 0 (suc (place_of alike x xs))
      by true k h = refl
      by false k h = ap suc (k h)

  -- what is not among them would stand behind them
  pub place_new : (x : A) (xs : List A) → among alike x xs ≡ false → place_of alike x xs ≡ length xs
  place_new x [] e = refl
  place_new x (y ∷ xs) e = by (alike y x) (place_new x xs) e
    where
      by : (t : Bool) → (among alike x xs ≡ false → place_of alike x xs ≡ length xs) → cond t true (among alike x xs) ≡ false → cond t 0 (suc (place_of alike x xs)) ≡ suc (length xs)
      by true k h = never (sym h)
      by false k h = ap suc (k h)

  module _ (x : A) (e : alike x x ≡ true) where
    last : (xs : List A) → (among alike x (xs ++ (x ∷ [])) ≡ true) × (place_of alike x (xs ++ (x ∷ [])) ≡ place_of alike x xs)
    last [] = (rw e, rw e)
    last (y ∷ xs) = by (alike y x) (last xs)
      where
        by : (t : Bool) → (among alike x (xs ++ (x ∷ [])) ≡ true) × (place_of alike x (xs ++ (x ∷ [])) ≡ place_of alike x xs) → (cond t true (among alike x (xs ++ (x ∷ []))) ≡ true) × (cond t 0 (suc (place_of alike x (xs ++ (x ∷ [])))) ≡ cond t 0 (suc (place_of alike x xs)))
        by true k = (refl, refl)
        by false k = (k.0, ap suc k.1)

    -- x is among them once it joined them, and stands where it was found before, or would have stood
    pub joins : (xs : List A) → (among alike x (joined alike xs x) ≡ true) × (place_of alike x (joined alike xs x) ≡ place_of alike x xs)
    joins xs = by (among alike x xs) refl
      where
        by : (t : Bool) → among alike x xs ≡ t → (among alike x (xs ++ new t x) ≡ true) × (place_of alike x (xs ++ new t x) ≡ place_of alike x xs)
        by true h = (rw append-nil h, rw append-nil)
        by false h = last xs

  pub first_more : (xs ys : List A) → (zs : List A) × (first_used alike xs ys ≡ xs ++ zs)
  first_more xs [] = ([], sym (append-nil xs))
  first_more xs (y ∷ ys) =
      let (zs, e) = first_more (joined alike xs y) ys in
      (new (among alike y xs) y ++ zs, e ∙ append_assoc xs (new (among alike y xs) y) zs)

  pub first_append : (xs ys zs : List A) → first_used alike xs (ys ++ zs) ≡ first_used alike (first_used alike xs ys) zs
  first_append xs [] zs = refl
  first_append xs (y ∷ ys) zs = first_append (joined alike xs y) ys zs

-- ---- bytes and contents are what they are
pub bytes_same : (l : List ℕ) → same_bytes l l ≡ true
bytes_same [] = refl
bytes_same (a ∷ l) = rw (eq-eqb a a refl) (bytes_same l)

pub content_same : (c : Content) → same c c ≡ true
content_same c = bytes_same (mark c)

-- ---- the keys and the values of tags
abbrev pub Met : List (List ℕ) → List Content → List Tag → Type 0
Met keys values [] = Unit {0}
Met keys values (t ∷ ts) = (among same_bytes t.key keys ≡ true) × (among same t.value values ≡ true) × Met keys values ts

module _ (keys moreKeys : List (List ℕ)) (values moreValues : List Content) where
  pub indices_more : (ts : List Tag) → Met keys values ts → tag_indices (keys ++ moreKeys) (values ++ moreValues) ts ≡ tag_indices keys values ts
  indices_more [] M = refl
  indices_more (t ∷ ts) M =
      rw (place_more same_bytes t.key keys moreKeys M.0, place_more same t.value values moreValues M.1, indices_more ts M.2)

-- tags, and one more
pub indices_append : (keys : List (List ℕ)) (values : List Content) (ts us : List Tag) → tag_indices keys values (ts ++ us) ≡ tag_indices keys values ts ++ tag_indices keys values us
indices_append keys values [] us = refl
indices_append keys values (t ∷ ts) us = rw (indices_append keys values ts us)

module _ (keys : List (List ℕ)) (values : List Content) (ts : List Tag) (us : List Tag) where
  pub met_left : Met keys values (ts ++ us) → Met keys values ts
  met_left = go ts
    where
      go : (ts : List Tag) → Met keys values (ts ++ us) → Met keys values ts
      go [] M = tt
      go (t ∷ ts) M = (M.0, M.1, go ts M.2)

  pub met_right : Met keys values (ts ++ us) → Met keys values us
  met_right = go ts
    where
      go : (ts : List Tag) → Met keys values (ts ++ us) → Met keys values us
      go [] M = M
      go (t ∷ ts) M = go ts M.2

-- every tag's key and value are among those first used
pub all_met : (keys : List (List ℕ)) (values : List Content) (ts : List Tag) → Met (first_used same_bytes keys (map key_of ts)) (first_used same values (map content_of ts)) ts
all_met keys values [] = tt
all_met keys values (t ∷ ts) =
    let (ks, e) = first_more same_bytes (joined same_bytes keys t.key) (map key_of ts) in
    let (vs, g) = first_more same (joined same values t.value) (map content_of ts) in
    let a : among same_bytes t.key (first_used same_bytes (joined same_bytes keys t.key) (map key_of ts)) ≡ true = rw e (among_more same_bytes t.key (joined same_bytes keys t.key) ks (joins same_bytes t.key (bytes_same t.key) keys).0) in
    let b : among same t.value (first_used same (joined same values t.value) (map content_of ts)) ≡ true = rw g (among_more same t.value (joined same values t.value) vs (joins same t.value (content_same t.value) values).0) in
    (a, b, all_met (joined same_bytes keys t.key) (joined same values t.value) ts)

module _ (ts : List Tag) (t : Tag) where
  pub keys_one_more : first_used same_bytes [] (map key_of (ts ++ (t ∷ []))) ≡ joined same_bytes (first_used same_bytes [] (map key_of ts)) t.key
  keys_one_more = rw (map-append key_of ts (t ∷ [])) (first_append same_bytes [] (map key_of ts) (t.key ∷ []))

  pub values_one_more : first_used same [] (map content_of (ts ++ (t ∷ []))) ≡ joined same (first_used same [] (map content_of ts)) t.value
  values_one_more = rw (map-append content_of ts (t ∷ [])) (first_append same [] (map content_of ts) (t.value ∷ []))
