-- A feature's head by its fields, and by one field more behind them.
use Prim.Native.Nat.{ℕ, ◌+◌}
use mathlib.Core.Path.{◌≡◌, refl, sym, ap, ◌∙◌}
use mathlib.Core.Bool.{cond}
use mathlib.Core.List.{List, [], ◌∷◌, ◌++◌, append_assoc, append-nil}
use mathlib.Core.Option.{Option, none, some}
use native.Mathlib.Omega.{arith}
use borrow.Author.Tests.{eq-eqb, ne_eqb}
use lib.Dec.{eqb}
use lib.ListN.{length, length-append, length-map}
use Rattle.std.specs.Prelude.{Option as Maybe}
use Rattle.wire.specs.declared.field.Field.{Field}
use Rattle.wire.specs.declared.field.Field.TheVariants.{FeatureTags, FeatureGeometry}
use Rattle.wire.specs.Schema.{key_of}
use Rattle.messages.specs.declared.field.FieldAt.{FieldAt}
use Rattle.messages.specs.Meaning.{later, last_of, low32, number_or, packed_numbers, single_key, words_in, words_of, id_of}
use Rattle.reader.specs.declared.features.FeatureHead.{FeatureHead}
use Rattle.reader.specs.Heads.{id_told}
use Rattle.reader.specs.FeatureSteps.{head_from, with_id, with_kind, with_tags, with_words}

-- ---- among fields, one more behind them
later_none : (b : Option FieldAt) → later b none ≡ later none b
later_none none = refl
later_none (some f) = refl

later_assoc : (a b c : Option FieldAt) → later a (later b c) ≡ later (later a b) c
later_assoc a b none = refl
later_assoc a b (some f) = refl

last_behind : (key : ℕ) (fs : List FieldAt) (f : FieldAt) → last_of key (fs ++ (f ∷ [])) ≡ later (last_of key fs) (cond (eqb f.key key) (some f) none)
last_behind key [] f = later_none (cond (eqb f.key key) (some f) none)
last_behind key (g ∷ fs) f =
    ap (later (cond (eqb g.key key) (some g) none)) (last_behind key fs f) ∙
    later_assoc (cond (eqb g.key key) (some g) none) (last_of key fs) (cond (eqb f.key key) (some f) none)

pub words_both : (field : Field) (src : List ℕ) (fs gs : List FieldAt) → words_of field src (fs ++ gs) ≡ words_of field src fs ++ words_of field src gs
words_both field src [] gs = refl
words_both field src (f ∷ fs) gs =
    ap (λ (l : List ℕ). words_in field src f ++ l) (words_both field src fs gs) ∙ sym (append_assoc (words_in field src f) (words_of field src fs) (words_of field src gs))

-- ---- a feature's head, part by part
module _ (src : List ℕ) (fs : List FieldAt) (f : FieldAt) where
  last_same : (key : ℕ) → (f.key ≡ key → ⊥) → last_of key (fs ++ (f ∷ [])) ≡ last_of key fs
  last_same key h = last_behind key fs f ∙ rw (ne_eqb f.key key h) refl

  last_new : (key : ℕ) → f.key ≡ key → last_of key (fs ++ (f ∷ [])) ≡ some f
  last_new key h = last_behind key fs f ∙ rw (eq-eqb f.key key h) refl

  module _ (field : Field) where
    pub count_behind : length (words_of field src (fs ++ (f ∷ []))) ≡ length (words_of field src fs) + length (words_in field src f)
    count_behind =
        ap length (words_both field src fs (f ∷ [])) ∙ length-append (words_of field src fs) (words_in field src f ++ []) ∙
        ap (λ (l : List ℕ). length (words_of field src fs) + length l) (append-nil (words_in field src f))

    count_same : (f.key ≡ key_of field → ⊥) → (f.key ≡ single_key field → ⊥) → length (words_of field src (fs ++ (f ∷ []))) ≡ length (words_of field src fs)
    count_same h k =
        let z : length (words_in field src f) ≡ 0 = rw (ne_eqb f.key (key_of field) h, ne_eqb f.key (single_key field) k) refl in
        count_behind ∙ omega (arith, z)

    count_single : (f.key ≡ key_of field → ⊥) → f.key ≡ single_key field → length (words_of field src (fs ++ (f ∷ []))) ≡ length (words_of field src fs) + 1
    count_single h k =
        let z : length (words_in field src f) ≡ 1 = rw (ne_eqb f.key (key_of field) h, eq-eqb f.key (single_key field) k) refl in
        count_behind ∙ omega (arith, z)

    count_packed : f.key ≡ key_of field → length (words_of field src (fs ++ (f ∷ []))) ≡ length (words_of field src fs) + length (packed_numbers src f)
    count_packed h =
        let z : length (words_in field src f) ≡ length (packed_numbers src f) = rw (eq-eqb f.key (key_of field) h) (length-map (packed_numbers src f) low32) in
        count_behind ∙ omega (arith, z)

-- a head by its four parts
module _ (start end : ℕ) where
  abbrev made : Maybe ℕ → ℕ → ℕ → ℕ → FeatureHead
  made id kind tags words = record { id = id; kind = kind; tags = tags; words = words; start = start; end = end }

  abbrev parts_of : Option FieldAt → Option FieldAt → ℕ → ℕ → FeatureHead
  parts_of id kind tags words = made (id_told (id_of id)) (low32 (number_or 0 kind)) tags words

  same_parts : {i i' k k' : Option FieldAt} {t t' w w' : ℕ} → i ≡ i' → k ≡ k' → t ≡ t' → w ≡ w' → parts_of i k t w ≡ parts_of i' k' t' w'
  same_parts a b c d = rw (a, b, c, d) refl

  module _ (src : List ℕ) (fs : List FieldAt) (f : FieldAt) where
    abbrev grown : FeatureHead
    grown = head_from start end src (fs ++ (f ∷ []))

    abbrev was : FeatureHead
    was = head_from start end src fs

    pub grown_id : f.key ≡ 8 → grown ≡ with_id was f.value
    grown_id e =
        same_parts (last_new src fs f 8 e) (last_same src fs f 24 (λ z. omega arith)) (count_same src fs f FeatureTags (λ z. omega arith) (λ z. omega arith))
        (count_same src fs f FeatureGeometry (λ z. omega arith) (λ z. omega arith))

    pub grown_kind : f.key ≡ 24 → grown ≡ with_kind was (low32 f.value)
    grown_kind e =
        same_parts (last_same src fs f 8 (λ z. omega arith)) (last_new src fs f 24 e) (count_same src fs f FeatureTags (λ z. omega arith) (λ z. omega arith))
        (count_same src fs f FeatureGeometry (λ z. omega arith) (λ z. omega arith))

    pub grown_tag : f.key ≡ 16 → grown ≡ with_tags was 1
    grown_tag e =
        same_parts (last_same src fs f 8 (λ z. omega arith)) (last_same src fs f 24 (λ z. omega arith)) (count_single src fs f FeatureTags (λ z. omega arith) e)
        (count_same src fs f FeatureGeometry (λ z. omega arith) (λ z. omega arith))

    pub grown_word : f.key ≡ 32 → grown ≡ with_words was 1
    grown_word e =
        same_parts (last_same src fs f 8 (λ z. omega arith)) (last_same src fs f 24 (λ z. omega arith)) (count_same src fs f FeatureTags (λ z. omega arith) (λ z. omega arith))
        (count_single src fs f FeatureGeometry (λ z. omega arith) e)

    pub grown_tags : f.key ≡ 18 → grown ≡ with_tags was (length (packed_numbers src f))
    grown_tags e =
        same_parts (last_same src fs f 8 (λ z. omega arith)) (last_same src fs f 24 (λ z. omega arith)) (count_packed src fs f FeatureTags e)
        (count_same src fs f FeatureGeometry (λ z. omega arith) (λ z. omega arith))

    pub grown_words : f.key ≡ 34 → grown ≡ with_words was (length (packed_numbers src f))
    grown_words e =
        same_parts (last_same src fs f 8 (λ z. omega arith)) (last_same src fs f 24 (λ z. omega arith)) (count_same src fs f FeatureTags (λ z. omega arith) (λ z. omega arith))
        (count_packed src fs f FeatureGeometry e)

    pub grown_none : (f.key ≡ 8 → ⊥) → (f.key ≡ 24 → ⊥) → (f.key ≡ 16 → ⊥) → (f.key ≡ 32 → ⊥) → (f.key ≡ 18 → ⊥) → (f.key ≡ 34 → ⊥) → grown ≡ was
    grown_none a b c d e g =
        same_parts (last_same src fs f 8 a) (last_same src fs f 24 b) (count_same src fs f FeatureTags e c) (count_same src fs f FeatureGeometry g d)
