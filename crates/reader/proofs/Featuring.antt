-- The features of a good layer, as Walking has its keys and values: going on from each answer's end, the call hands out every feature with what it says, and then
-- that there is none; and a feature's numbers are those that it says.
use Prim.Native.Nat.{ℕ, ◌≤◌}
use mathlib.Core.Path.{◌≡◌, refl, sym, ap, subst, ◌∙◌}
use mathlib.Core.Bool.{true, cond}
use mathlib.Core.List.{List, [], ◌∷◌, ◌++◌, map}
use mathlib.Core.Option.{some}
use native.Mathlib.Omega.{arith}
use borrow.Author.Tests.{le-leb}
use lib.Dec.{eqb}
use lib.ListN.{length, take}
use lib.Seq.{length-take-le, take-take}
use Rattle.std.specs.Prelude.{Some, None, Ok}
use Rattle.wire.specs.declared.field.Field.{Field}
use Rattle.wire.specs.declared.field.Field.TheVariants.{LayerFeature, FeatureTags, FeatureGeometry}
use Rattle.wire.specs.Schema.{key_of}
use Rattle.messages.specs.declared.key.Kind.{Kind}
use Rattle.messages.specs.declared.key.Kind.TheVariants.{Layer as layer, Feature as feature}
use Rattle.messages.specs.declared.key.Body.TheVariants.{Within as within}
use Rattle.messages.specs.declared.key.Follows.TheVariants.{ABody as aBody}
use Rattle.messages.specs.declared.field.FieldAt.{FieldAt}
use Rattle.messages.specs.Keys.{follows}
use Rattle.messages.specs.Fields.{fields_from, numbers_from}
use Rattle.messages.specs.Tiles.{Verdict, nested}
use Rattle.messages.specs.Meaning.{or_nothing, each_of, low32, fields_of, packed_numbers, single_key, words_in, words_of, feature_says, feature_of}
use Rattle.messages.proofs.Fields.{field_ends}
use Rattle.reader.specs.Heads.{feature_head}
use Rattle.reader.specs.Answers.{next_feature, laid_out, words_into}
use Rattle.reader.proofs.Walking.{Walk, behind, All, nested_read, GoodBody, good_bodies, walk_call, GoodLayer, fields_are, layer_read_lem, long, walk_found}

-- ---- what a feature says does not go by what stands behind its layer
-- fields that were read end inside the bytes
fields_inside : (kind : Kind) (src : List ℕ) (at : ℕ) (fs : List FieldAt) → fields_from kind at src ≡ some fs → All (λ h. h.end ≤ length src) fs
fields_inside kind src at [] e = tt
fields_inside kind src at (f ∷ fs) e =
    let b = behind kind src at f fs e in
    ((field_ends kind b.here).inside, fields_inside kind src f.end fs b.rest)

module _ (end : ℕ) (src : List ℕ) where
  packed_same : (h : FieldAt) → h.end ≤ end → packed_numbers (take end src) h ≡ packed_numbers src h
  packed_same h i = ap (λ (l : List ℕ). or_nothing (numbers_from h.start l)) (take-take h.end end src i)

  words_same : (field : Field) (fs : List FieldAt) → All (λ h. h.end ≤ end) fs → words_of field (take end src) fs ≡ words_of field src fs
  words_same field [] a = refl
  words_same field (h ∷ fs) a =
      ap (λ (ns : List ℕ). cond (eqb h.key (key_of field)) (map low32 ns) (cond (eqb h.key (single_key field)) (low32 h.value ∷ []) []) ++ words_of field (take end src) fs)
      (packed_same h a.0)
      ∙ ap (λ (ws : List ℕ). words_in field src h ++ ws) (words_same field fs a.1)

  says_same : (fs : List FieldAt) → All (λ h. h.end ≤ end) fs → feature_says (take end src) fs ≡ feature_says src fs
  says_same fs a = rw (words_same FeatureTags fs a, words_same FeatureGeometry fs a) refl

-- ---- the features of a good layer
feature_follows : follows layer (key_of LayerFeature) ≡ aBody (within feature)
unfolding follows
feature_follows = refl

module _ (v : Verdict) (src : List ℕ) (f : FieldAt) (k : GoodLayer src f) where
  good_features : All (GoodBody 1 feature (take f.end src)) (each_of (key_of LayerFeature) (fields_of layer src f))
  good_features =
      subst (λ (fs : List FieldAt). All (GoodBody 1 feature (take f.end src)) (each_of (key_of LayerFeature) fs))
      (fields_are (fields_from layer f.start (take f.end src)) (layer_read_lem v src f k).read)
      (good_bodies layer (key_of LayerFeature) (take f.end src) 1 feature feature_follows f.start (layer_read_lem v src f k))

  feature_same : (g : FieldAt) → GoodBody 1 feature (take f.end src) g → feature_of (take f.end src) g ≡ feature_of src g
  unfolding feature_of
  feature_same g b =
      let i : g.end ≤ f.end = omega (arith, b.inside, long v src f k) in
      let m = nested_read 0 feature g.start (take g.end (take f.end src)) b.good in
      let t : take g.end (take f.end src) ≡ take g.end src = take-take g.end f.end src i in
      let r : fields_from feature g.start (take g.end src) ≡ some m.fields = ap (fields_from feature g.start) (sym t) ∙ m.read in
      let n : length (take g.end (take f.end src)) ≡ g.end = length-take-le g.end (take f.end src) b.inside in
      rw (t, r) (says_same f.end src m.fields (few m.fields (omega (arith, n, i)) (fields_inside feature (take g.end (take f.end src)) g.start m.fields m.read)))
    where
      few : {n : ℕ} (fs : List FieldAt) → n ≤ f.end → All (λ h. h.end ≤ n) fs → All (λ h. h.end ≤ f.end) fs
      few [] l a = tt
      few (h ∷ fs) l a = (omega (arith, a.0, l), few fs l a.1)

  pub walk_features : Walk (λ at. next_feature at f.end src v) (Ok None) (λ g. Ok (Some (feature_head g (feature_of src g)))) f.start (each_of (key_of LayerFeature) (fields_of layer src f))
  unfolding next_feature
  walk_features =
      walk_call layer (key_of LayerFeature) (take f.end src) (λ at. next_feature at f.end src v) (Ok None) (λ g. Ok (Some (feature_head g (feature_of src g))))
      (GoodBody 1 feature (take f.end src))
      (λ at h e. rw (le-leb at f.end (omega (arith, h, long v src f k)), le-leb f.end (length src) k.inside, e) refl)
      (λ at g h e b. rw (le-leb at f.end (omega (arith, h, long v src f k)), le-leb f.end (length src) k.inside, e, b.good, feature_same g b) refl)
      f.start (each_of (key_of LayerFeature) (fields_of layer src f)) (omega (arith, k.ordered, long v src f k)) (walk_found v src f k (key_of LayerFeature)) good_features

  -- ---- and each one's numbers: given room, those that it says are laid
  module _ (g : FieldAt) (b : GoodBody 1 feature (take f.end src) g) where
    in_layer : take g.end (take f.end src) ≡ take g.end src
    in_layer = take-take g.end f.end src (omega (arith, b.inside, long v src f k))

    is_good_lem : nested 1 feature g.start (take g.end src) ≡ true
    is_good_lem = ap (nested 1 feature g.start) (sym in_layer) ∙ b.good

    pub words_read_lem : (field : Field) (out : List ℕ) → words_into field g.start g.end src out v ≡ laid_out (words_of field src (fields_of feature src g)) out
    unfolding words_into
    words_read_lem field out =
        let m = nested_read 0 feature g.start (take g.end src) is_good_lem in
        let i : g.end ≤ length src = omega (arith, b.inside, long v src f k, k.inside) in
        let n : length (take g.end src) ≡ g.end = length-take-le g.end src i in
        let a = subst (λ (x : ℕ). All (λ h. h.end ≤ x) m.fields) n (fields_inside feature (take g.end src) g.start m.fields m.read) in
        rw (le-leb g.start g.end b.ordered, le-leb g.end (length src) i, is_good_lem, m.read) (ap (λ (ws : List ℕ). laid_out ws out) (words_same g.end src field m.fields a))
