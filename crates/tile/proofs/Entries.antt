-- Laws of the repeated fields: the next entry's field and those behind it, where the entries are as they should be; and how long the fields are at most.
use Prim.Native.Nat.{ℕ, zero, suc, ◌+◌, ◌-◌, ◌*◌, ◌/◌, ◌≤◌, ◌<◌}
use Rattle.std.proofs.Math.Nat.{suc-mul, add_comm}
use Rattle.std.specs.Simd.{first_chunks}
use mathlib.Core.Path.{◌≡◌, refl, sym, ap, ◌∙◌}
use mathlib.Core.Bool.{Bool, true, false, cond}
use mathlib.Core.List.{List, [], ◌∷◌, ◌++◌}
use native.Mathlib.Omega.{arith}
use lib.Dec.{leb}
use lib.ListN.{length, take, drop, get_or, length-append, length-drop, drop_of_length-le}
use lib.Seq.{drop-drop, get_or-drop}
use borrow.Author.Tests.{leb-true}
use borrow.Rule.Slice.PartMut.{mid_of}
use Rattle.wire.specs.declared.field.Field.TheVariants.{LayerFeature, LayerKey, LayerValue}
use Rattle.wire.specs.Fields.{delimited}
use Rattle.promise.proofs.Parts.{lent}
use Rattle.wire.proofs.Fields.{varint_field_short, delimited_long}
use Rattle.std.specs.Prelude.{None}
use Rattle.table.specs.Texts.{inside}
use Rattle.table.specs.Keys.{keys_in}
use Rattle.table.specs.Values.{value_ok, values_in}
use Rattle.records.specs.Records.{head_ok, records_in, is_found}
use Rattle.records.proofs.Records.{skip}
use Rattle.layer.proofs.Fitting.{never}
use Rattle.tile.specs.Texts.{text_field}
use Rattle.tile.specs.Values.{value_message}
use Rattle.tile.proofs.Texts.{text_short}
use Rattle.tile.proofs.Values.{value_short}
use Rattle.tile.specs.Features.{record_message, record_size}
use Rattle.tile.proofs.Features.{record_short}
use Rattle.tile.specs.Entries.{key_fields, value_field, value_fields, feature_field, feature_fields}
use Rattle.tile.proofs.Looping.{Next, Walk}

-- both of two tests, one in the other
twice : (a b : Bool) → cond a b false ≡ true → (a ≡ true) × (b ≡ true)
twice true b e = (refl, e)
twice false b e = never e

-- ---- entries of so many words: the list is cut into pieces of as many
chunk_at : (n c k : ℕ) (xs : List ℕ) → k < c → get_or (first_chunks n c xs) k [] ≡ take n (drop (k * n) xs)
chunk_at n zero k xs h = absurd (omega arith)
chunk_at n (suc c) zero xs h = let z : 0 * n ≡ 0 = omega arith in rw z
chunk_at n (suc c) (suc k) xs h = chunk_at n c k (drop n xs) (omega arith) ∙ rw (drop-drop (k * n) n xs, suc-mul k n, add_comm n (k * n))

-- the entry at the front of some words: that it is whole, and what is behind it; the piece has its words
record Front (whole : Type 0) (good : List ℕ → Type 0) (fields : List ℕ → List ℕ) (field : List ℕ) (l : List ℕ) (n : ℕ) : Type 0 where
  entry : whole
  rest : good (drop n l)
  parts : fields l ≡ field ++ fields (drop n l)

-- ---- keys
-- the pieces of two words; of the key with an index, that its text lies within the texts, and its field
abbrev pub pairs : List ℕ → List (List ℕ)
pairs keys = first_chunks 2 (length keys / 2) keys

abbrev pub key_inside : List ℕ → List ℕ → Type 0
key_inside texts e = inside (length texts) (get_or e 0 0) (get_or e 1 0) ≡ true

abbrev pub key_at : List ℕ → List ℕ → List ℕ
key_at texts e = text_field LayerKey texts (get_or e 0 0) (get_or e 1 0)

key_front : (texts l e : List ℕ) → e ≡ take 2 l → 2 ≤ length l → keys_in (length texts) l ≡ true
    → Front (key_inside texts e) (λ (k : List ℕ). keys_in (length texts) k ≡ true) (key_fields texts) (key_at texts e) l 2
key_front texts [] e q h g = absurd (omega arith)
key_front texts (a ∷ []) e q h g = absurd (omega arith)
key_front texts (a ∷ b ∷ l) e q h g =
    let p = twice (inside (length texts) a b) (keys_in (length texts) l) g in
    rw q (record { entry = p.0; rest = p.1; parts = refl })

pub key_none : (texts l : List ℕ) → length l < 2 → key_fields texts l ≡ []
key_none texts [] h = refl
key_none texts (a ∷ []) h = refl
key_none texts (a ∷ b ∷ l) h = absurd (omega arith)

-- the keys from the one with an index on
module _ (texts keys : List ℕ) where
  pub key_next : (k : ℕ) → k < length keys / 2 → keys_in (length texts) (drop (k * 2) keys) ≡ true
      → Next (key_inside texts (get_or (pairs keys) k [])) (λ (j : ℕ). keys_in (length texts) (drop (j * 2) keys) ≡ true) (λ (j : ℕ). key_fields texts (drop (j * 2) keys)) (key_at texts (get_or (pairs keys) k [])) (length keys / 2) k 1
  key_next k h g =
      let F = key_front texts (drop (k * 2) keys) (get_or (pairs keys) k []) (chunk_at 2 (length keys / 2) k keys h) (rw length-drop (omega arith)) g in
      let d : drop 2 (drop (k * 2) keys) ≡ drop ((k + 1) * 2) keys = drop-drop 2 (k * 2) keys ∙ ap (λ (n : ℕ). drop n keys) (omega arith) in
      record { some = omega arith; within = omega arith; entry = F.entry; rest = rw d at F.rest; parts = rw d at F.parts }

  abbrev pub key_walk : Walk (length keys / 2)
  key_walk = record {
    good = λ (k : ℕ). keys_in (length texts) (drop (k * 2) keys) ≡ true;
    fields = λ (k : ℕ). key_fields texts (drop (k * 2) keys);
    whole = λ (k : ℕ). key_inside texts (get_or (pairs keys) k []);
    field = λ (k : ℕ). key_at texts (get_or (pairs keys) k []);
    words = λ (k : ℕ). 1;
    next = key_next;
    none = λ (k : ℕ) (h : length keys / 2 ≤ k). key_none texts (drop (k * 2) keys) (rw length-drop (omega arith));
  }

pub keys_short : (texts keys : List ℕ) (most : ℕ) → length texts ≤ most → length (key_fields texts keys) * 2 ≤ length keys * (11 + most)
keys_short texts [] most h = omega arith
keys_short texts (a ∷ []) most h = omega arith
keys_short texts (a ∷ b ∷ keys) most h = omega (arith, length-append (text_field LayerKey texts a b) (key_fields texts keys), text_short LayerKey texts a b, keys_short texts keys most h)

-- ---- values
-- the pieces of three words; of the value with an index, that it is one, and its field
abbrev pub triples : List ℕ → List (List ℕ)
triples values = first_chunks 3 (length values / 3) values

abbrev pub value_good : List ℕ → List ℕ → Type 0
value_good texts e = value_ok (length texts) (get_or e 0 0) (get_or e 1 0) (get_or e 2 0) ≡ true

abbrev pub value_at : List ℕ → List ℕ → List ℕ
value_at texts e = value_field texts (get_or e 0 0) (get_or e 1 0) (get_or e 2 0)

value_front : (texts l e : List ℕ) → e ≡ take 3 l → 3 ≤ length l → values_in (length texts) l ≡ true
    → Front (value_good texts e) (λ (v : List ℕ). values_in (length texts) v ≡ true) (value_fields texts) (value_at texts e) l 3
value_front texts [] e q h g = absurd (omega arith)
value_front texts (a ∷ []) e q h g = absurd (omega arith)
value_front texts (a ∷ b ∷ []) e q h g = absurd (omega arith)
value_front texts (a ∷ b ∷ c ∷ l) e q h g =
    let p = twice (value_ok (length texts) a b c) (values_in (length texts) l) g in
    rw q (record { entry = p.0; rest = p.1; parts = refl })

pub value_none : (texts l : List ℕ) → length l < 3 → value_fields texts l ≡ []
value_none texts [] h = refl
value_none texts (a ∷ []) h = refl
value_none texts (a ∷ b ∷ []) h = refl
value_none texts (a ∷ b ∷ c ∷ l) h = absurd (omega arith)

-- the values from the one with an index on
module _ (texts values : List ℕ) where
  pub value_next : (k : ℕ) → k < length values / 3 → values_in (length texts) (drop (k * 3) values) ≡ true
      → Next (value_good texts (get_or (triples values) k [])) (λ (j : ℕ). values_in (length texts) (drop (j * 3) values) ≡ true) (λ (j : ℕ). value_fields texts (drop (j * 3) values)) (value_at texts (get_or (triples values) k [])) (length values / 3) k 1
  value_next k h g =
      let F = value_front texts (drop (k * 3) values) (get_or (triples values) k []) (chunk_at 3 (length values / 3) k values h) (rw length-drop (omega arith)) g in
      let d : drop 3 (drop (k * 3) values) ≡ drop ((k + 1) * 3) values = drop-drop 3 (k * 3) values ∙ ap (λ (n : ℕ). drop n values) (omega arith) in
      record { some = omega arith; within = omega arith; entry = F.entry; rest = rw d at F.rest; parts = rw d at F.parts }

  abbrev pub value_walk : Walk (length values / 3)
  value_walk = record {
    good = λ (k : ℕ). values_in (length texts) (drop (k * 3) values) ≡ true;
    fields = λ (k : ℕ). value_fields texts (drop (k * 3) values);
    whole = λ (k : ℕ). value_good texts (get_or (triples values) k []);
    field = λ (k : ℕ). value_at texts (get_or (triples values) k []);
    words = λ (k : ℕ). 1;
    next = value_next;
    none = λ (k : ℕ) (h : length values / 3 ≤ k). value_none texts (drop (k * 3) values) (rw length-drop (omega arith));
  }

field_short : (texts : List ℕ) (kind low high : ℕ) → length (delimited LayerValue (value_message texts kind low high)) ≤ 22 + length texts
field_short texts kind low high = omega (arith, delimited_long LayerValue (value_message texts kind low high), varint_field_short LayerValue (length (value_message texts kind low high)), value_short texts kind low high)

pub values_short : (texts values : List ℕ) (most : ℕ) → length texts ≤ most → length (value_fields texts values) * 3 ≤ length values * (22 + most)
values_short texts [] most h = omega arith
values_short texts (a ∷ []) most h = omega arith
values_short texts (a ∷ b ∷ []) most h = omega arith
values_short texts (a ∷ b ∷ c ∷ values) most h = omega (arith, length-append (delimited LayerValue (value_message texts a b c)) (value_fields texts values), field_short texts a b c, values_short texts values most h)

-- ---- features
-- records follow each other to the end of these words, so many having been met before
pub record Follow (ws : List ℕ) : Type 0 where
  pub met : ℕ
  pub found : is_found (records_in met 0 ws) ≡ true

-- the words that are still to come, passed over
pub passed : (n : ℕ) (ws : List ℕ) → feature_fields n ws ≡ feature_fields 0 (drop n ws)
passed zero ws = refl
passed (suc n) [] = refl
passed (suc n) (w ∷ ws) = passed n ws

-- the record at the front, and those behind it
front_fields : (ws : List ℕ) → 0 < length ws → feature_fields 0 ws ≡ delimited LayerFeature (record_message ws) ++ feature_fields 0 (drop (record_size ws) ws)
front_fields [] h = absurd (omega arith)
front_fields (w ∷ ws) h =
    let z : 6 + get_or ws 4 0 + get_or ws 3 0 ≡ suc (5 + get_or ws 4 0 + get_or ws 3 0) = omega arith in
    ap (λ (l : List ℕ). delimited LayerFeature (record_message (w ∷ ws)) ++ l) (passed (5 + get_or ws 4 0 + get_or ws 3 0) ws ∙ rw z refl)

found_within : (n left : ℕ) (ws : List ℕ) → is_found (records_in n left ws) ≡ true → (left ≤ length ws) × (is_found (records_in n 0 (drop left ws)) ≡ true)
found_within n left ws e = by (leb left (length ws)) refl (rw (skip n left ws) at e)
  where
    by : (t : Bool) → leb left (length ws) ≡ t → is_found (cond t (records_in n 0 (drop left ws)) None) ≡ true → (left ≤ length ws) × (is_found (records_in n 0 (drop left ws)) ≡ true)
    by true q f = (leb-true left (length ws) q, f)
    by false q f = never f

front_found : (n : ℕ) (ws : List ℕ) → 0 < length ws → is_found (records_in n 0 ws) ≡ true → (record_size ws ≤ length ws) × Follow (drop (record_size ws) ws)
front_found n [] h e = absurd (omega arith)
front_found n (a ∷ []) h e = never e
front_found n (a ∷ b ∷ []) h e = never e
front_found n (a ∷ b ∷ c ∷ []) h e = never e
front_found n (a ∷ b ∷ c ∷ d ∷ []) h e = never e
front_found n (a ∷ b ∷ c ∷ d ∷ x ∷ []) h e = never e
front_found n (a ∷ b ∷ c ∷ d ∷ x ∷ y ∷ ws) h e = by (head_ok a b) e
  where
    by : (t : Bool) → is_found (cond t (records_in (suc n) (x + y) ws) None) ≡ true → (6 + y + x ≤ length (a ∷ b ∷ c ∷ d ∷ x ∷ y ∷ ws)) × Follow (drop (6 + y + x) (a ∷ b ∷ c ∷ d ∷ x ∷ y ∷ ws))
    by true f =
        let p = found_within (suc n) (x + y) ws f in
        let k : 6 + y + x ≡ 6 + (x + y) = omega arith in
        (omega (arith, p.0), record { met = suc n; found = rw (k, ← drop-drop (x + y) 6 (a ∷ b ∷ c ∷ d ∷ x ∷ y ∷ ws)) p.1 })
    by false f = never f

-- the words from index i on, as `&features[i..]` lends them, and the field of the record at their front
abbrev pub from_at : List ℕ → ℕ → List ℕ
from_at features i = mid_of i (length features - i) features

-- the records from an index on
module _ (features : List ℕ) where
  pub feature_next : (i : ℕ) → i < length features → Follow (drop i features)
      → Next (record_size (from_at features i) ≤ length (from_at features i)) (λ (j : ℕ). Follow (drop j features)) (λ (j : ℕ). feature_fields 0 (drop j features)) (feature_field (from_at features i)) (length features) i (record_size (from_at features i))
  feature_next i h F =
      let o : 0 < length (drop i features) = rw length-drop (omega arith) in
      let p = front_found F.met (drop i features) o F.found in
      rw (lent i features)
      (record {
        some = omega arith;
        within = omega (arith, p.0, length-drop i features);
        entry = p.0;
        rest = rw (← drop-drop (record_size (drop i features)) i features) p.1;
        parts = rw (← drop-drop (record_size (drop i features)) i features) (front_fields (drop i features) o);
      })

  abbrev pub feature_walk : Walk (length features)
  feature_walk = record {
    good = λ (i : ℕ). Follow (drop i features);
    fields = λ (i : ℕ). feature_fields 0 (drop i features);
    whole = λ (i : ℕ). record_size (from_at features i) ≤ length (from_at features i);
    field = λ (i : ℕ). feature_field (from_at features i);
    words = λ (i : ℕ). record_size (from_at features i);
    next = feature_next;
    none = λ (i : ℕ) (h : length features ≤ i). ap (feature_fields 0) (drop_of_length-le features {i = i} h);
  }

-- twelve bytes a word at most: a head, a length, and ten bytes a word of the record
pub features_short : (n left : ℕ) (ws : List ℕ) → is_found (records_in n left ws) ≡ true → length (feature_fields left ws) ≤ (length ws - left) * 12
features_short n left [] e = omega arith
features_short n zero (a ∷ []) e = never e
features_short n zero (a ∷ b ∷ []) e = never e
features_short n zero (a ∷ b ∷ c ∷ []) e = never e
features_short n zero (a ∷ b ∷ c ∷ d ∷ []) e = never e
features_short n zero (a ∷ b ∷ c ∷ d ∷ x ∷ []) e = never e
features_short n zero (a ∷ b ∷ c ∷ d ∷ x ∷ y ∷ ws) e = by (head_ok a b) e (features_short (suc n) (x + y) ws)
  where
    by : (t : Bool) → is_found (cond t (records_in (suc n) (x + y) ws) None) ≡ true → (is_found (records_in (suc n) (x + y) ws) ≡ true → length (feature_fields (x + y) ws) ≤ (length ws - (x + y)) * 12) → length (feature_fields 0 (a ∷ b ∷ c ∷ d ∷ x ∷ y ∷ ws)) ≤ (length (a ∷ b ∷ c ∷ d ∷ x ∷ y ∷ ws) - 0) * 12
    by false f k = never f
    by true f k =
        let z : 6 + y + x ≡ 6 + (x + y) = omega arith in
        let g : drop (6 + y + x) (a ∷ b ∷ c ∷ d ∷ x ∷ y ∷ ws) ≡ drop (x + y) ws = rw z (sym (drop-drop (x + y) 6 (a ∷ b ∷ c ∷ d ∷ x ∷ y ∷ ws))) in
        let l : feature_fields 0 (a ∷ b ∷ c ∷ d ∷ x ∷ y ∷ ws) ≡ delimited LayerFeature (record_message (a ∷ b ∷ c ∷ d ∷ x ∷ y ∷ ws)) ++ feature_fields (x + y) ws =
        front_fields (a ∷ b ∷ c ∷ d ∷ x ∷ y ∷ ws) (omega arith) ∙ ap (λ (r : List ℕ). delimited LayerFeature (record_message (a ∷ b ∷ c ∷ d ∷ x ∷ y ∷ ws)) ++ r) (ap (feature_fields 0) g ∙ sym (passed (x + y) ws)) in
        omega (
          arith,
          ap length l,
          length-append (delimited LayerFeature (record_message (a ∷ b ∷ c ∷ d ∷ x ∷ y ∷ ws))) (feature_fields (x + y) ws),
          delimited_long LayerFeature (record_message (a ∷ b ∷ c ∷ d ∷ x ∷ y ∷ ws)),
          varint_field_short LayerFeature (length (record_message (a ∷ b ∷ c ∷ d ∷ x ∷ y ∷ ws))),
          record_short (a ∷ b ∷ c ∷ d ∷ x ∷ y ∷ ws),
          found_within (suc n) (x + y) ws f,
          k f,
        )
features_short n (suc left) (w ∷ ws) e = omega (arith, features_short n left ws e)
