-- The fields of a feature one after the other: those that are read are good, and the head is theirs. Every number that is counted took a byte.
use Prim.Native.Nat.{ℕ, ◌+◌, ◌-◌, ◌≤◌, ◌<◌}
use mathlib.Core.Path.{◌≡◌, refl, sym, ap, ◌∙◌}
use mathlib.Core.Bool.{Bool, true, false, cond}
use mathlib.Core.List.{List, [], ◌∷◌, ◌++◌, append_assoc, append-nil}
use mathlib.Core.Option.{Option, none, some}
use native.Mathlib.Omega.{arith}
use borrow.Author.Tests.{eq-eqb, ne_eqb, eqb-true, eqb-false}
use lib.Dec.{eqb}
use lib.ListN.{length, take, length-map}
use lib.Seq.{length-take-le}
use Rattle.std.specs.Prelude.{Some, None}
use Rattle.wire.specs.declared.field.Field.{Field}
use Rattle.wire.specs.declared.field.Field.TheVariants.{FeatureTags, FeatureGeometry}
use Rattle.wire.specs.Schema.{key_of}
use Rattle.messages.specs.declared.key.Kind.TheVariants.{Feature as feature}
use Rattle.messages.specs.declared.field.FieldAt.{FieldAt}
use Rattle.messages.specs.Fields.{NextField, before, field_at, fields_from, numbers_from}
use Rattle.messages.specs.Tiles.{is_read, holds, all_hold, if_read, nested}
use Rattle.messages.specs.Meaning.{low32, or_nothing, packed_numbers, single_key, words_in, words_of}
use Rattle.messages.proofs.Fields.{field_ends, fields_step, fields_end}
use Rattle.reader.specs.declared.features.FeatureHead.{FeatureHead}
use Rattle.reader.specs.Packed.{Count, counted}
use Rattle.reader.specs.FeatureSteps.{FeatureRead, head_from, feature_read, with_tags, with_words, tags_read, words_read, with_field, Adds, Ample}
use Rattle.reader.proofs.Counting.{numbers_few}
use Rattle.reader.proofs.FeatureKeys.{holds_any, holds_tags, holds_words}
use Rattle.reader.proofs.FeatureFields.{count_behind, grown_id, grown_kind, grown_tag, grown_word, grown_tags, grown_words, grown_none}

-- ---- one field more, that can be read: it is good and in the head, or the feature is broken
module _ (start end : ℕ) (src : List ℕ) (fs : List FieldAt) (at : ℕ) (f : FieldAt) (r : field_at feature at src ≡ Some f) where
  abbrev was : FeatureHead
  was = head_from start end src fs

  abbrev numbers : Option (List ℕ)
  numbers = numbers_from f.start (take f.end src)

  abbrev Taken : Type 0
  Taken = with_field was src f ≡ cond (holds (nested 0) feature src f) (Some (head_from start end src (fs ++ (f ∷ [])))) None

  taken_id : f.key ≡ 8 → Taken
  unfolding with_field
  taken_id e = rw (eq-eqb f.key 8 e, holds_any src f at r (λ z. omega arith) (λ z. omega arith)) (ap Some (sym (grown_id start end src fs f e)))

  module _ (a : f.key ≡ 8 → ⊥) where
    taken_kind : f.key ≡ 24 → Taken
    unfolding with_field
    taken_kind e =
        rw (ne_eqb f.key 8 a, eq-eqb f.key 24 e, holds_any src f at r (λ z. omega arith) (λ z. omega arith)) (ap Some (sym (grown_kind start end src fs f e)))

    module _ (b : f.key ≡ 24 → ⊥) where
      taken_tag : f.key ≡ 16 → Taken
      unfolding with_field
      taken_tag e =
          rw (ne_eqb f.key 8 a, ne_eqb f.key 24 b, eq-eqb f.key 16 e, holds_any src f at r (λ z. omega arith) (λ z. omega arith))
          (ap Some (sym (grown_tag start end src fs f e)))

      module _ (c : f.key ≡ 16 → ⊥) where
        taken_word : f.key ≡ 32 → Taken
        unfolding with_field
        taken_word e =
            rw (ne_eqb f.key 8 a, ne_eqb f.key 24 b, ne_eqb f.key 16 c, eq-eqb f.key 32 e, holds_any src f at r (λ z. omega arith) (λ z. omega arith))
            (ap Some (sym (grown_word start end src fs f e)))

        module _ (d : f.key ≡ 32 → ⊥) where
          tags_by : (o : Option (List ℕ)) → tags_read was (counted o) ≡ cond (is_read o) (Some (with_tags was (length (or_nothing o)))) None
          tags_by none = refl
          tags_by (some ns) = refl

          words_by_lem : (o : Option (List ℕ)) → words_read was (counted o) ≡ cond (is_read o) (Some (with_words was (length (or_nothing o)))) None
          words_by_lem none = refl
          words_by_lem (some ns) = refl

          taken_tags : f.key ≡ 18 → Taken
          unfolding with_field
          taken_tags e =
              rw (ne_eqb f.key 8 a, ne_eqb f.key 24 b, ne_eqb f.key 16 c, ne_eqb f.key 32 d, eq-eqb f.key 18 e, holds_tags src f e, grown_tags start end src fs f e)
              (tags_by numbers)

          module _ (g : f.key ≡ 18 → ⊥) where
            taken_words : f.key ≡ 34 → Taken
            unfolding with_field
            taken_words e =
                rw (
                  ne_eqb f.key 8 a,
                  ne_eqb f.key 24 b,
                  ne_eqb f.key 16 c,
                  ne_eqb f.key 32 d,
                  ne_eqb f.key 18 g,
                  eq-eqb f.key 34 e,
                  holds_words src f e,
                  grown_words start end src fs f e,
                )
                (words_by_lem numbers)

            taken_none : (f.key ≡ 34 → ⊥) → Taken
            unfolding with_field
            taken_none h =
                rw (
                  ne_eqb f.key 8 a,
                  ne_eqb f.key 24 b,
                  ne_eqb f.key 16 c,
                  ne_eqb f.key 32 d,
                  ne_eqb f.key 18 g,
                  ne_eqb f.key 34 h,
                  holds_any src f at r g h,
                )
                (ap Some (sym (grown_none start end src fs f a b c d g h)))

            by_words : (t : Bool) → eqb f.key 34 ≡ t → Taken
            by_words true e = taken_words (eqb-true f.key 34 e)
            by_words false e = taken_none (eqb-false f.key 34 e)

          by_tags : (t : Bool) → eqb f.key 18 ≡ t → Taken
          by_tags true e = taken_tags (eqb-true f.key 18 e)
          by_tags false e = by_words (eqb-false f.key 18 e) (eqb f.key 34) refl

        by_word : (t : Bool) → eqb f.key 32 ≡ t → Taken
        by_word true e = taken_word (eqb-true f.key 32 e)
        by_word false e = by_tags (eqb-false f.key 32 e) (eqb f.key 18) refl

      by_tag : (t : Bool) → eqb f.key 16 ≡ t → Taken
      by_tag true e = taken_tag (eqb-true f.key 16 e)
      by_tag false e = by_word (eqb-false f.key 16 e) (eqb f.key 32) refl

    by_kind : (t : Bool) → eqb f.key 24 ≡ t → Taken
    by_kind true e = taken_kind (eqb-true f.key 24 e)
    by_kind false e = by_tag (eqb-false f.key 24 e) (eqb f.key 16) refl

  by_id : (t : Bool) → eqb f.key 8 ≡ t → Taken
  by_id true e = taken_id (eqb-true f.key 8 e)
  by_id false e = by_kind (eqb-false f.key 8 e) (eqb f.key 24) refl

  taken : Taken
  taken = by_id (eqb f.key 8) refl

-- ---- no more numbers than bytes
part_few : (src : List ℕ) (f : FieldAt) → f.start ≤ f.end → f.end ≤ length src → (o : Option (List ℕ)) → numbers_from f.start (take f.end src) ≡ o
    → f.start + length (or_nothing o) ≤ f.end
part_few src f h k none e = omega arith
part_few src f h k (some ns) e =
    let l = length-take-le f.end src k in omega (arith, l, numbers_few (take f.end src) f.start ns (omega (arith, l)) e)

module _ (src : List ℕ) (f : FieldAt) (at : ℕ) (r : field_at feature at src ≡ Some f) (field : Field) where
  packed_few : f.start + length (packed_numbers src f) ≤ f.end
  packed_few = let e = field_ends feature r in part_few src f e.ordered e.inside (numbers_from f.start (take f.end src)) refl

  in_few : (a b : Bool) → eqb f.key (key_of field) ≡ a → eqb f.key (single_key field) ≡ b → at + length (words_in field src f) ≤ f.end
  in_few true b e g = rw e (omega (arith, packed_few, (field_ends feature r).behind, length-map (packed_numbers src f) low32))
  in_few false true e g = rw (e, g) (omega (arith, (field_ends feature r).later))
  in_few false false e g = rw (e, g) (omega (arith, (field_ends feature r).later))

  pub words_few : (fs : List FieldAt) → length (words_of field src fs) ≤ at → length (words_of field src (fs ++ (f ∷ []))) ≤ f.end
  words_few fs h = omega (arith, count_behind src fs f field, in_few (eqb f.key (key_of field)) (eqb f.key (single_key field)) refl refl)

-- ---- all that is counted fits
module _ (h : FeatureHead) (src : List ℕ) (f : FieldAt) (w : Ample h f (length src)) (s : length src < 18446744073709551616) (r : Count) where
  adds_by : (n : ℕ) → n < f.start → (o : Option (List ℕ)) → numbers_from f.start (take f.end src) ≡ o → Adds n (counted o)
  adds_by n k none e = tt
  adds_by n k (some ns) e = omega (arith, part_few src f w.ordered w.inside (some ns) e, w.inside)

  pub tags_add : r ≡ counted (numbers_from f.start (take f.end src)) → Adds h.tags r
  tags_add e = rw e (adds_by h.tags w.few_tags (numbers_from f.start (take f.end src)) refl)

  pub words_add : r ≡ counted (numbers_from f.start (take f.end src)) → Adds h.words r
  words_add e = rw e (adds_by h.words w.few_words (numbers_from f.start (take f.end src)) refl)

-- ---- the loop
abbrev onto : List FieldAt → Option (List FieldAt) → Option (List FieldAt)
onto fs none = none
onto fs (some gs) = some (fs ++ gs)

onto_before : (fs : List FieldAt) (f : FieldAt) (o : Option (List FieldAt)) → onto fs (before f o) ≡ onto (fs ++ (f ∷ [])) o
onto_before fs f none = refl
onto_before fs f (some gs) = ap some (sym (append_assoc fs (f ∷ []) gs))

onto_none : (o : Option (List FieldAt)) → o ≡ onto [] o
onto_none none = refl
onto_none (some gs) = refl

module _ (src : List ℕ) where
  held_both : (fs gs : List FieldAt) → all_hold (nested 0) feature src fs ≡ true → all_hold (nested 0) feature src (fs ++ gs) ≡ all_hold (nested 0) feature src gs
  held_both [] gs e = refl
  held_both (f ∷ fs) gs e = by (holds (nested 0) feature src f) (held_both fs gs) e
    where
      by : (b : Bool) → (all_hold (nested 0) feature src fs ≡ true → all_hold (nested 0) feature src (fs ++ gs) ≡ all_hold (nested 0) feature src gs)
          → cond b (all_hold (nested 0) feature src fs) false ≡ true → cond b (all_hold (nested 0) feature src (fs ++ gs)) false ≡ all_hold (nested 0) feature src gs
      by true k e = k e
      by false k e = absurd (let z : ◌≡◌ {A = ℕ} 0 1 = cc in omega arith)

pub record Reading (src : List ℕ) (start : ℕ) (h : FeatureHead) (at : ℕ) : Type 0 where
  pub done : List FieldAt
  pub fields : fields_from feature start src ≡ onto done (fields_from feature at src)
  pub held : all_hold (nested 0) feature src done ≡ true
  pub head : h ≡ head_from start (length src) src done
  pub few_tags : length (words_of FeatureTags src done) ≤ at
  pub few_words : length (words_of FeatureGeometry src done) ≤ at

pub reading_start : (src : List ℕ) (start : ℕ) → Reading src start (head_from start (length src) src []) start
reading_start src start =
    record { done = []; fields = onto_none (fields_from feature start src); held = refl; head = refl; few_tags = omega arith; few_words = omega arith }

module _ {src : List ℕ} {start : ℕ} {h : FeatureHead} {at : ℕ} (I : Reading src start h at) where
  broken_by : (o : Option (List FieldAt)) → fields_from feature start src ≡ o → if_read (nested 0) feature src o ≡ false → None ≡ feature_read start src
  unfolding feature_read nested
  broken_by o e g = rw (e, g) refl

  pub reading_end : length src ≤ at → Some h ≡ feature_read start src
  unfolding feature_read nested
  reading_end l =
      let e : fields_from feature start src ≡ some (I.done ++ []) = I.fields ∙ ap (onto I.done) (fields_end src feature at l) in
      rw (e, append-nil I.done, I.held) (ap Some I.head)

  module _ (r : NextField) (l : at < length src) (e : r ≡ field_at feature at src) where
    pub reading_faulty : r ≡ None → None ≡ feature_read start src
    reading_faulty g =
        let v : field_at feature at src ≡ None = sym e ∙ g in
        let s : fields_from feature at src ≡ none = fields_step src feature at l ∙ rw v refl in
        broken_by none (I.fields ∙ ap (onto I.done) s) refl

    module _ (f : FieldAt) (g : r ≡ Some f) where
      there : field_at feature at src ≡ Some f
      there = sym e ∙ g

      pub reading_ample : Ample h f (length src)
      reading_ample =
          let b = field_ends feature there in
          rw I.head (record { few_tags = omega (arith, I.few_tags, b.behind); few_words = omega (arith, I.few_words, b.behind); ordered = b.ordered; inside = b.inside })

      pub reading_less : length src - f.end < length src - at
      reading_less = omega (arith, (field_ends feature there).later)

      step : fields_from feature start src ≡ onto (I.done ++ (f ∷ [])) (fields_from feature f.end src)
      step =
          let s : fields_from feature at src ≡ before f (fields_from feature f.end src) = fields_step src feature at l ∙ rw there refl in
          I.fields ∙ ap (onto I.done) s ∙ onto_before I.done f (fields_from feature f.end src)

      now_taken : with_field h src f ≡ cond (holds (nested 0) feature src f) (Some (head_from start (length src) src (I.done ++ (f ∷ [])))) None
      now_taken = rw I.head (taken start (length src) src I.done at f there)

      held_now : (b : Bool) → holds (nested 0) feature src f ≡ b → all_hold (nested 0) feature src (I.done ++ (f ∷ [])) ≡ b
      held_now true k = held_both src I.done (f ∷ []) I.held ∙ rw k refl
      held_now false k = held_both src I.done (f ∷ []) I.held ∙ rw k refl

      module _ (w : FeatureRead) (m : w ≡ with_field h src f) where
        pub reading_broken : w ≡ None → None ≡ feature_read start src
        reading_broken k = by (holds (nested 0) feature src f) refl (sym now_taken ∙ sym m ∙ k)
          where
            rest : (o : Option (List FieldAt)) → holds (nested 0) feature src f ≡ false → if_read (nested 0) feature src (onto (I.done ++ (f ∷ [])) o) ≡ false
            rest none n = refl
            rest (some gs) n = ap (all_hold (nested 0) feature src) (append_assoc I.done (f ∷ []) gs) ∙ held_both src I.done (f ∷ gs) I.held ∙ rw n refl

            by : (b : Bool) → holds (nested 0) feature src f ≡ b → cond b (Some (head_from start (length src) src (I.done ++ (f ∷ [])))) None ≡ None
                → None ≡ feature_read start src
            by true n q = absurd (let z : ◌≡◌ {A = ℕ} 0 1 = cc in omega arith)
            by false n q = broken_by (onto (I.done ++ (f ∷ [])) (fields_from feature f.end src)) step (rest (fields_from feature f.end src) n)

        pub reading_turn : (h' : FeatureHead) → w ≡ Some h' → Reading src start h' f.end
        reading_turn h' k = by (holds (nested 0) feature src f) refl (sym now_taken ∙ sym m ∙ k)
          where
            by : (b : Bool) → holds (nested 0) feature src f ≡ b → cond b (Some (head_from start (length src) src (I.done ++ (f ∷ [])))) None ≡ Some h'
                → Reading src start h' f.end
            by true n q =
                record {
                  done = I.done ++ (f ∷ []);
                  fields = step;
                  held = held_now true n;
                  head = let p : head_from start (length src) src (I.done ++ (f ∷ [])) ≡ h' = cc in sym p;
                  few_tags = words_few src f at there FeatureTags I.done I.few_tags;
                  few_words = words_few src f at there FeatureGeometry I.done I.few_words;
                }
            by false n q = absurd (let z : ◌≡◌ {A = ℕ} 0 1 = cc in omega arith)
