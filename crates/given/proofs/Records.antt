-- Features as a layer's records, and what becomes of them: the open one with its id set, and with a tag more; and the fields that they make.
use Prim.Native.Nat.{ℕ, suc, ◌+◌, ◌%◌, ◌/◌}
use mathlib.Core.Path.{◌≡◌, refl, sym, ap, ◌∙◌}
use mathlib.Core.List.{List, [], ◌∷◌, ◌++◌, append_assoc, append-nil}
use mathlib.Core.Option.{Option, none, some}
use native.Mathlib.Omega.{arith}
use lib.ListN.{length, get_or, set, length-append, take-append-drop}
use lib.Seq.{drop_at, take-append_seam, drop-append_seam, take-set-le, drop-set-add, get_or-append-add}
use Rattle.promise.specs.Laid.{lay}
use Rattle.promise.proofs.Laying.{lay_behind}
use Rattle.layer.specs.Calls.{with_tag}
use Rattle.tile.specs.Features.{record_message, feature_message as storedMessage}
use Rattle.tile.specs.Entries.{feature_fields}
use Rattle.tile.proofs.Entries.{passed}
use Rattle.given.specs.Given.{Content, Tag, Feature, all_tags}
use Rattle.given.specs.Messages.{each, tag_indices, feature_message, feature_field}
use Rattle.given.specs.Layout.{mark_of, number_of, record_from, record_of}
use Rattle.given.proofs.FirstUse.{Met, met_left, met_right, indices_more}
use Rattle.given.proofs.Numbers.{halves}

pub each_append : {A : Type 0} (field : A → List ℕ) (xs ys : List A) → each field (xs ++ ys) ≡ each field xs ++ each field ys
each_append field [] ys = refl
each_append field (x ∷ xs) ys = rw (each_append field xs ys) (sym (append_assoc (field x) (each field xs) (each field ys)))

pub each_last : {A : Type 0} (field : A → List ℕ) (xs : List A) (x : A) → each field (xs ++ (x ∷ [])) ≡ each field xs ++ field x
each_last field xs x = each_append field xs (x ∷ []) ∙ rw append-nil

-- ---- more keys and values behind those that are met
module _ (keys moreKeys : List (List ℕ)) (values moreValues : List Content) where
  pub records_more : (fs : List Feature) → Met keys values (all_tags fs) → each (record_of (keys ++ moreKeys) (values ++ moreValues)) fs ≡ each (record_of keys values) fs
  records_more [] M = refl
  records_more (f ∷ fs) M =
      rw (
        indices_more keys moreKeys values moreValues f.tags (met_left keys values f.tags (all_tags fs) M),
        records_more fs (met_right keys values f.tags (all_tags fs) M),
      )

-- how long records are hangs on no key and no value
module _ (keys₁ keys₂ : List (List ℕ)) (values₁ values₂ : List Content) where
  indices_long : (ts : List Tag) → length (tag_indices keys₁ values₁ ts) ≡ length (tag_indices keys₂ values₂ ts)
  indices_long [] = refl
  indices_long (t ∷ ts) = ap (λ (n : ℕ). suc (suc n)) (indices_long ts)

  pub records_long : (fs : List Feature) → length (each (record_of keys₁ values₁) fs) ≡ length (each (record_of keys₂ values₂) fs)
  records_long [] = refl
  records_long (f ∷ fs) =
      let a = tag_indices keys₁ values₁ f.tags in
      let b = tag_indices keys₂ values₂ f.tags in
      omega (
        arith,
        indices_long f.tags,
        records_long fs,
        length-append (record_of keys₁ values₁ f) (each (record_of keys₁ values₁) fs),
        length-append (record_of keys₂ values₂ f) (each (record_of keys₂ values₂) fs),
        length-append f.geometry a,
        length-append f.geometry b,
      )

-- ---- what is changed behind some words
set_behind : (p q : List ℕ) (i x : ℕ) → set (p ++ q) (length p + i) x ≡ p ++ set q i x
set_behind p q i x =
    sym (take-append-drop (length p) (set (p ++ q) (length p + i) x))
    ∙ rw (take-set-le (length p) (p ++ q) (length p + i) x (omega arith), take-append_seam p q, drop-set-add (length p) (p ++ q) i x, drop-append_seam p q)

module _ (before : List ℕ) (kind : ℕ) (id : Option ℕ) (geometry indices : List ℕ) where
  pub id_laid : (n : ℕ) → lay (length before + 1) (1 ∷ n % 4294967296 ∷ n / 4294967296 ∷ []) (before ++ record_from kind id geometry indices) ≡ before ++ record_from kind (some n) geometry indices
  id_laid n =
      lay_behind before (record_from kind id geometry indices) (1 ∷ n % 4294967296 ∷ n / 4294967296 ∷ []) 1 (length before) refl

  pub tag_laid : (k v : ℕ) → with_tag (length before) k v (before ++ record_from kind id geometry indices) ≡ before ++ record_from kind id geometry (indices ++ (k ∷ v ∷ []))
  tag_laid k v =
      let r = record_from kind id geometry indices in
      let pair = k ∷ v ∷ [] in
      let e : length indices + 2 ≡ length (indices ++ pair) = sym (length-append indices pair) in
      rw (append_assoc before r pair, set_behind before (r ++ pair) 4 (get_or (before ++ r) (length before + 4) 0 + 2), get_or-append-add before r 4 0, e, append_assoc geometry indices pair)

-- ---- the fields
module _ (kind : ℕ) (id : Option ℕ) (geometry indices behind : List ℕ) where
  record_message_lem : record_message (record_from kind id geometry indices ++ behind) ≡ storedMessage kind (mark_of id) (number_of id % 4294967296) (number_of id / 4294967296) indices geometry
  unfolding record_message
  record_message_lem =
      let six = kind ∷ mark_of id ∷ number_of id % 4294967296 ∷ number_of id / 4294967296 ∷ length indices ∷ length geometry ∷ geometry in
      rw (append_assoc geometry indices behind, drop_at six (indices ++ behind) (6 + length geometry) (omega arith), take-append_seam indices behind, take-append_seam geometry (indices ++ behind))

  record_past : feature_fields (5 + length geometry + length indices) (mark_of id ∷ number_of id % 4294967296 ∷ number_of id / 4294967296 ∷ length indices ∷ length geometry ∷ (geometry ++ indices ++ behind)) ≡ feature_fields 0 behind
  record_past =
      let five = mark_of id ∷ number_of id % 4294967296 ∷ number_of id / 4294967296 ∷ length indices ∷ length geometry ∷ (geometry ++ indices) in
      passed (5 + length geometry + length indices) (five ++ behind)
      ∙ ap (feature_fields 0) (drop_at five behind (5 + length geometry + length indices) (omega (arith, length-append geometry indices)))

feature_message_lem : (keys : List (List ℕ)) (values : List Content) (kind : ℕ) (id : Option ℕ) (geometry : List ℕ) (ts : List Tag) → storedMessage kind (mark_of id) (number_of id % 4294967296) (number_of id / 4294967296) (tag_indices keys values ts) geometry ≡ feature_message keys values (record { kind = kind; id = id; geometry = geometry; tags = ts })
unfolding storedMessage feature_message
feature_message_lem keys values kind none geometry ts = refl
feature_message_lem keys values kind (some n) geometry ts = rw (halves n)

pub feature_fields_lem : (keys : List (List ℕ)) (values : List Content) (fs : List Feature) → feature_fields 0 (each (record_of keys values) fs) ≡ each (feature_field keys values) fs
feature_fields_lem keys values [] = refl
feature_fields_lem keys values (f ∷ fs) =
    let indices = tag_indices keys values f.tags in
    let behind = each (record_of keys values) fs in
    rw (
      record_message_lem f.kind f.id f.geometry indices behind,
      record_past f.kind f.id f.geometry indices behind,
      feature_message_lem keys values f.kind f.id f.geometry f.tags,
      feature_fields_lem keys values fs,
    )
