-- What the next feature of a layer is, and what is told of it by the tile's verdict: a law for each way of the code, and that the call's definition is it.
use Prim.Native.Nat.{ℕ, ◌+◌, ◌%◌, ◌≤◌, ◌<◌}
use mathlib.Core.Path.{◌≡◌, refl, sym, ap, ◌∙◌}
use mathlib.Core.Bool.{Bool, true, false, cond}
use mathlib.Core.List.{List}
use borrow.Author.Tests.{le-leb, lt-leb, eq-eqb, ne_eqb}
use lib.ListN.{length, take}
use lib.Seq.{length-take-le}
use Rattle.std.specs.Prelude.{Option as Maybe, Some, None, Ok, Err}
use Rattle.refusal.specs.declared.Refusal.TheVariants.{State}
use Rattle.refusal.specs.declared.Fault.{Fault}
use Rattle.refusal.specs.Said.{plain}
use Rattle.wire.specs.declared.field.Field.TheVariants.{LayerFeature}
use Rattle.wire.specs.Schema.{key_of}
use Rattle.messages.specs.declared.key.Kind.TheVariants.{Layer as layer, Feature as feature}
use Rattle.messages.specs.declared.field.FieldAt.{FieldAt}
use Rattle.messages.specs.Fields.{numbers_from}
use Rattle.messages.specs.Tiles.{Verdict, Answers, nested}
use Rattle.messages.specs.Meaning.{feature_of}
use Rattle.reader.specs.declared.cause.Cause.{Cause}
use Rattle.reader.specs.declared.cause.Cause.TheVariants.{Outside, Broken}
use Rattle.reader.specs.declared.features.FeatureHead.{FeatureHead}
use Rattle.reader.specs.Finding.{Found, first_of}
use Rattle.reader.specs.Packed.{Count, counted}
use Rattle.reader.specs.Answers.{blamed, fault_of, within, feature_found, next_feature}
use Rattle.reader.specs.FeatureSteps.{feature_read, with_kind, tags_read, words_read, with_field, Adds}
use Rattle.reader.specs.FeatureSteps.{FeatureRead, FeatureStep, step_read, step_found, feature_step}
use Rattle.reader.specs.Steps.{told}
use Rattle.reader.proofs.Telling.{says, refuses}
use Rattle.reader.proofs.Finding.{found_at}
use Rattle.reader.proofs.FeatureParts.{same_head, says_part}

-- ---- a count added
module _ (c : Count) where
  pub adds_are : (t n : ℕ) → Adds t c → c ≡ Some n → t + n < 18446744073709551616
  adds_are t n h e = rw e at h

-- ---- one field more
module _ (h : FeatureHead) (src : List ℕ) (f : FieldAt) (a : f.key ≡ 8 → ⊥) where
  pub field_kind : f.key ≡ 24 → (k : ℕ) (r : FeatureHead) → k ≡ f.value % 4294967296 → r ≡ with_kind h k → Some r ≡ with_field h src f
  unfolding with_field
  field_kind b k r e g = rw (ne_eqb f.key 8 a, eq-eqb f.key 24 b, g, e) refl

  module _ (b : f.key ≡ 24 → ⊥) (c : f.key ≡ 16 → ⊥) (d : f.key ≡ 32 → ⊥) (n : Count) (e : n ≡ counted (numbers_from f.start (take f.end src))) (r : FeatureRead) where
    pub field_tags : f.key ≡ 18 → r ≡ tags_read h n → r ≡ with_field h src f
    unfolding with_field
    field_tags g k = rw (ne_eqb f.key 8 a, ne_eqb f.key 24 b, ne_eqb f.key 16 c, ne_eqb f.key 32 d, eq-eqb f.key 18 g) (rw e at k)

    pub field_words : (f.key ≡ 18 → ⊥) → f.key ≡ 34 → r ≡ words_read h n → r ≡ with_field h src f
    unfolding with_field
    field_words g i k = rw (ne_eqb f.key 8 a, ne_eqb f.key 24 b, ne_eqb f.key 16 c, ne_eqb f.key 32 d, ne_eqb f.key 18 g, eq-eqb f.key 34 i) (rw e at k)

-- ---- the next feature
module _ (at end : ℕ) (src : List ℕ) where
  pub step_before : end < at → Err Outside ≡ feature_step at end src
  unfolding feature_step
  step_before h = rw (lt-leb at end h) refl

  pub step_beyond : at ≤ end → length src < end → Err Outside ≡ feature_step at end src
  unfolding feature_step
  step_beyond h k = rw (le-leb at end h, lt-leb end (length src) k) refl

  module _ (h : at ≤ end) (k : end ≤ length src) (r : Found) (e : r ≡ first_of layer 18 at (take end src)) where
    inside : step_found (take end src) r ≡ feature_step at end src
    unfolding feature_step
    inside = rw (le-leb at end h, le-leb end (length src) k) (ap (step_found (take end src)) e)

    pub step_broken : (c : Cause) → r ≡ Err c → Err c ≡ feature_step at end src
    step_broken c g = sym (ap (step_found (take end src)) g) ∙ inside

    module _ (o : Maybe FieldAt) (u : r ≡ Ok o) where
      pub step_end : o ≡ None → Ok None ≡ feature_step at end src
      step_end g = sym (ap (step_found (take end src)) (u ∙ ap Ok g)) ∙ inside

      module _ (f : FieldAt) (g : o ≡ Some f) where
        pub step_within : f.end ≤ length (take end src)
        step_within = (found_at layer 18 (take end src) (sym e ∙ u ∙ ap Ok g)).inside

        module _ (w : FeatureRead) (m : w ≡ feature_read f.start (take f.end (take end src))) where
          found : step_read w ≡ feature_step at end src
          found = ap step_read m ∙ sym (ap (step_found (take end src)) (u ∙ ap Ok g)) ∙ inside

          pub step_unread : w ≡ None → Err Broken ≡ feature_step at end src
          step_unread n = sym (ap step_read n) ∙ found

          pub step_read_lem : (x : FeatureHead) → w ≡ Some x → Ok (Some x) ≡ feature_step at end src
          step_read_lem x n = sym (ap step_read n) ∙ found

-- ---- the call is what is told of the step
module _ (v : Verdict) where
  told_read : (b : Bool) (h h' : FeatureHead) → h ≡ h' → told v (step_read (cond b (Some h) None)) ≡ cond b (Ok (Some h')) (Err (blamed v))
  told_read true h h' e = ap Ok (ap Some e)
  told_read false h h' e = refl

  told_at : (src : List ℕ) (f : FieldAt) → f.end ≤ length src → told v (step_found src (Ok (Some f))) ≡ feature_found v src (Ok (Some f))
  unfolding feature_read feature_of
  told_at src f h =
      told_read (nested 1 feature f.start (take f.end src)) _ _
      (same_head f.start (length (take f.end src)) f.end _ _ (length-take-le f.end src h) (says_part src f.end f.start))

  told_found : (src : List ℕ) (r : Found) (at : ℕ) → first_of layer 18 at src ≡ r → told v (step_found src r) ≡ feature_found v src r
  told_found src (Ok (Some f)) at e = told_at src f (found_at layer 18 src e).inside
  told_found src (Ok None) at e = refl
  told_found src (Err c) at e = refl

  pub feature_told : (at end : ℕ) (src : List ℕ) → told v (feature_step at end src) ≡ next_feature at end src v
  unfolding feature_step next_feature
  feature_told at end src = by (within at end src)
    where
      by : (b : Bool) → told v (cond b (step_found (take end src) (first_of layer (key_of LayerFeature) at (take end src))) (Err Outside))
          ≡ cond b (feature_found v (take end src) (first_of layer (key_of LayerFeature) at (take end src))) (Err (plain State))
      by true = told_found (take end src) (first_of layer 18 at (take end src)) at refl
      by false = refl

-- ---- the call's answer
module _ (at end : ℕ) (src : List ℕ) (s : FeatureStep) (e : s ≡ feature_step at end src) where
  feature_by : (v : Verdict) → next_feature at end src v ≡ told v s
  feature_by v = sym (ap (told v) e ∙ feature_told v at end src)

  pub says_feature : (x : Maybe FeatureHead) → s ≡ Ok x → Answers src (next_feature at end src) (Ok x)
  says_feature x k = says src (next_feature at end src) s (λ y. y) feature_by x k

  pub refuses_feature : (c : Cause) → s ≡ Err c → (f : Fault) → Answers src (fault_of c) f → Answers src (next_feature at end src) (Err f)
  refuses_feature c k f a = refuses src (next_feature at end src) s (λ y. y) feature_by c k f a
