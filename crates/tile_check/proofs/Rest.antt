-- A message field by field: it is one from the start on where it is one from the place on that is reached.
use Prim.Native.Nat.{ℕ, suc, ◌-◌, ◌≤◌, ◌<◌}
use mathlib.Core.Path.{◌≡◌, refl, sym, ◌∙◌}
use mathlib.Core.Bool.{Bool, true, false, cond, not, ◌||◌}
use mathlib.Core.List.{List}
use mathlib.Core.Option.{Option, none, some}
use native.Mathlib.Omega.{arith}
use borrow.Author.Tests.{not-true, not-false, eqb-true, eqb-false}
use lib.Dec.{eqb}
use lib.ListN.{length, take}
use lib.Seq.{length-take-le}
use Rattle.messages.specs.declared.key.Kind.{Kind}
use Rattle.messages.specs.declared.key.Kind.TheVariants.{Layer as layer, Feature as feature, Value as value}
use Rattle.messages.specs.declared.key.Follows.TheVariants.{Wrong as wrong}
use Rattle.messages.specs.declared.field.FieldAt.{FieldAt}
use Rattle.messages.specs.Fields.{field_at, before, fields_from, numbers_from}
use Rattle.messages.specs.Keys.{follows}
use Rattle.messages.specs.Tiles.{is_read, is_content, holds, if_read, nested}
use Rattle.messages.proofs.Fields.{field_ends, fields_step, fields_end}
use Rattle.messages.proofs.Following.{field_right}
use Rattle.tile_check.proofs.Asked.{value_others, feature_others, layer_others, tags_ask, geometry_asks, features_ask, values_ask}
use Rattle.std.specs.Prelude.{Some, None}
use Rattle.messages.specs.Fields.{NextField}

pub record Rest (depth : ℕ) (kind : Kind) (src : List ℕ) (start at : ℕ) : Type 0 where
  pub rest : nested (suc depth) kind start src ≡ nested (suc depth) kind at src

-- ---- a field takes bytes that are there
module _ (kind : Kind) (src : List ℕ) (at : ℕ) (r : NextField) (g : r ≡ field_at kind at src) (f : FieldAt) (e : r ≡ Some f) where
  pub field_less : length src - f.end < length src - at
  field_less = let n = field_ends kind (sym g ∙ e) in omega (arith, n.later, n.inside)

  pub field_part : f.end ≡ length (take f.end src)
  field_part = sym (length-take-le f.end src (field_ends kind (sym g ∙ e)).inside)

-- ---- a field, and what is behind it
never : (b : Bool) → false ≡ cond b false false
never true = refl
never false = refl

front : (P : Kind → ℕ → List ℕ → Bool) (kind : Kind) (src : List ℕ) (f : FieldAt) (fs : Option (List FieldAt)) → if_read P kind src (before f fs) ≡ cond (holds P kind src f) (if_read P kind src fs) false
front P kind src f none = never (holds P kind src f)
front P kind src f (some fs) = refl

module _ (depth : ℕ) (kind : Kind) (src : List ℕ) where
  pub rest_start : (start : ℕ) → Rest depth kind src start start
  rest_start start = record { rest = refl }

  module _ (start at : ℕ) (R : Rest depth kind src start at) where
    pub rest_end : length src ≤ at → true ≡ nested (suc depth) kind start src
    unfolding nested
    rest_end h = sym (R.rest ∙ rw (fields_end src kind at h) refl)

    module _ (h : at < length src) (r : NextField) (g : r ≡ field_at kind at src) where
      pub rest_faulty : r ≡ None → false ≡ nested (suc depth) kind start src
      unfolding nested
      rest_faulty e = sym (R.rest ∙ rw (fields_step src kind at h, ← g, e) refl)

      module _ (f : FieldAt) (e : r ≡ Some f) where
        step : nested (suc depth) kind start src ≡ cond (holds (nested depth) kind src f) (nested (suc depth) kind f.end src) false
        unfolding nested
        step = R.rest ∙ rw (fields_step src kind at h, ← g, e) (front (nested depth) kind src f (fields_from kind f.end src))

        -- no field that can be read has a wrong key
        pub rest_right : follows kind f.key ≡ wrong → ⊥
        rest_right = field_right kind at src f (sym g ∙ e)

        module _ (t : Bool) (w : t ≡ holds (nested depth) kind src f) where
          pub rest_bad : not t ≡ true → false ≡ nested (suc depth) kind start src
          rest_bad b = let q = sym w ∙ not-true t b in sym (step ∙ rw q refl)

          pub rest_more : not t ≡ false → Rest depth kind src start f.end
          rest_more b = let q = sym w ∙ not-false t b in record { rest = step ∙ rw q refl }

-- ---- what a field of a value, a feature and a layer holds
module _ (at : ℕ) (src : List ℕ) (key : ℕ) where
  pub value_holds : (follows value key ≡ wrong → ⊥) → true ≡ is_content (nested 0) (follows value key) at src
  value_holds h = sym (value_others (nested 0) at src key h)

  either : (s t : Bool) → eqb key 18 ≡ s → eqb key 34 ≡ t → (s || t) ≡ true → is_content (nested 0) (follows feature key) at src ≡ is_read (numbers_from at src)
  either true t a b c = tags_ask (nested 0) at src key (eqb-true key 18 a)
  either false true a b c = geometry_asks (nested 0) at src key (eqb-true key 34 b)
  either false false a b c = absurd (let z : ◌≡◌ {A = ℕ} 0 1 = cc in omega arith)

  neither : (follows feature key ≡ wrong → ⊥) → (s t : Bool) → eqb key 18 ≡ s → eqb key 34 ≡ t → (s || t) ≡ false → is_content (nested 0) (follows feature key) at src ≡ true
  neither h true t a b c = absurd (let z : ◌≡◌ {A = ℕ} 0 1 = cc in omega arith)
  neither h false true a b c = absurd (let z : ◌≡◌ {A = ℕ} 0 1 = cc in omega arith)
  neither h false false a b c = feature_others (nested 0) at src key (eqb-false key 18 a) (eqb-false key 34 b) h

  pub list_holds : (eqb key 18 || eqb key 34) ≡ true → (t : Bool) → t ≡ is_read (numbers_from at src) → t ≡ is_content (nested 0) (follows feature key) at src
  list_holds y t w = w ∙ sym (either (eqb key 18) (eqb key 34) refl refl y)

  pub feature_holds : (eqb key 18 || eqb key 34) ≡ false → (follows feature key ≡ wrong → ⊥) → true ≡ is_content (nested 0) (follows feature key) at src
  feature_holds n h = sym (neither h (eqb key 18) (eqb key 34) refl refl n)

  pub features_hold : key ≡ 18 → (t : Bool) → t ≡ nested 1 feature at src → t ≡ is_content (nested 1) (follows layer key) at src
  features_hold k t w = w ∙ sym (features_ask (nested 1) at src key k)

  pub values_hold : key ≡ 34 → (t : Bool) → t ≡ nested 1 value at src → t ≡ is_content (nested 1) (follows layer key) at src
  values_hold k t w = w ∙ sym (values_ask (nested 1) at src key k)

  pub layer_holds : (key ≡ 18 → ⊥) → (key ≡ 34 → ⊥) → (follows layer key ≡ wrong → ⊥) → true ≡ is_content (nested 1) (follows layer key) at src
  layer_holds m n h = sym (layer_others (nested 1) at src key m n h)
