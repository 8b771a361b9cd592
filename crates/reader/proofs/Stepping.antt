-- What a call meets at a place, by what was found there: a law for each way, of a layer, a key and a value.
use Prim.Native.Nat.{ℕ, ◌≤◌, ◌<◌}
use mathlib.Core.Path.{◌≡◌, refl, sym, ap, ◌∙◌}
use mathlib.Core.List.{List}
use native.Mathlib.Omega.{arith}
use borrow.Author.Tests.{le-leb, lt-leb}
use lib.ListN.{length, take}
use lib.Seq.{length-take-le, take-take}
use Rattle.std.specs.Prelude.{Option as Maybe, Some, None, Ok, Err}
use Rattle.messages.specs.declared.key.Kind.TheVariants.{Tile as tile, Layer as layer, Value as value}
use Rattle.messages.specs.declared.field.FieldAt.{FieldAt}
use Rattle.messages.specs.Fields.{fields_from}
use Rattle.reader.specs.declared.cause.Cause.{Cause}
use Rattle.reader.specs.declared.cause.Cause.TheVariants.{Outside}
use Rattle.reader.specs.declared.layers.Part.{Part}
use Rattle.reader.specs.Finding.{Found, first_of}
use Rattle.reader.specs.Heads.{part_of}
use Rattle.reader.specs.Steps.{LayerStep, ValueStep, layer_in, layer_at, layer_step, key_at, key_step, value_in, value_at, value_step}
use Rattle.reader.proofs.Finding.{found_at}

-- ---- a layer
module _ (src : List ℕ) (at : ℕ) where
  pub layer_outside : length src < at → Err Outside ≡ layer_step at src
  unfolding layer_step
  layer_outside h = rw (lt-leb at (length src) h) refl

  module _ (h : at ≤ length src) (r : Found) (e : r ≡ first_of tile 26 at src) where
    found_is : (x : Found) → r ≡ x → layer_at src x ≡ layer_step at src
    unfolding layer_step
    found_is x k = rw (le-leb at (length src) h) (ap (layer_at src) (sym k ∙ e))

    pub layer_broken : (c : Cause) → r ≡ Err c → Err c ≡ layer_step at src
    layer_broken c k = found_is (Err c) k

    module _ (o : Maybe FieldAt) (u : r ≡ Ok o) where
      pub layer_end : o ≡ None → Ok None ≡ layer_step at src
      layer_end k = found_is (Ok None) (u ∙ ap Ok k)

      module _ (f : FieldAt) (k : o ≡ Some f) where
        pub layer_long : f.end ≡ length (take f.end src)
        layer_long = sym (length-take-le f.end src (found_at tile 26 src (sym e ∙ u ∙ ap Ok k)).inside)

        pub layer_is : (x : LayerStep) → x ≡ layer_in f (fields_from layer f.start (take f.end src)) → x ≡ layer_step at src
        layer_is x w = w ∙ found_is (Ok (Some f)) (u ∙ ap Ok k)

-- ---- the bytes to the end of a layer's message
module _ (src : List ℕ) (at end : ℕ) where
  pub key_before : end < at → Err Outside ≡ key_step at end src
  unfolding key_step
  key_before h = rw (lt-leb at end h) refl

  pub key_beyond : at ≤ end → length src < end → Err Outside ≡ key_step at end src
  unfolding key_step
  key_beyond h k = rw (le-leb at end h, lt-leb end (length src) k) refl

  pub value_before : end < at → Err Outside ≡ value_step at end src
  unfolding value_step
  value_before h = rw (lt-leb at end h) refl

  pub value_beyond : at ≤ end → length src < end → Err Outside ≡ value_step at end src
  unfolding value_step
  value_beyond h k = rw (le-leb at end h, lt-leb end (length src) k) refl

  module _ (h : at ≤ end) (k : end ≤ length src) (r : Found) where
    -- ---- a key
    module _ (e : r ≡ first_of layer 26 at (take end src)) where
      key_found_lem : (x : Found) → r ≡ x → key_at x ≡ key_step at end src
      unfolding key_step
      key_found_lem x g = rw (le-leb at end h, le-leb end (length src) k) (ap key_at (sym g ∙ e))

      pub key_broken : (c : Cause) → r ≡ Err c → Err c ≡ key_step at end src
      key_broken c g = key_found_lem (Err c) g

      module _ (o : Maybe FieldAt) (u : r ≡ Ok o) where
        pub key_end : o ≡ None → Ok None ≡ key_step at end src
        key_end g = key_found_lem (Ok None) (u ∙ ap Ok g)

        module _ (f : FieldAt) (g : o ≡ Some f) where
          pub key_ordered : f.start ≤ f.end
          key_ordered = (found_at layer 26 (take end src) (sym e ∙ u ∙ ap Ok g)).ordered

          pub key_is_lem : (p : Part) → p ≡ part_of f → Ok (Some p) ≡ key_step at end src
          key_is_lem p w = ap (λ (q : Part). Ok (Some q)) w ∙ key_found_lem (Ok (Some f)) (u ∙ ap Ok g)

    -- ---- a value
    module _ (e : r ≡ first_of layer 34 at (take end src)) where
      value_found_lem : (x : Found) → r ≡ x → value_at (take end src) x ≡ value_step at end src
      unfolding value_step
      value_found_lem x g = rw (le-leb at end h, le-leb end (length src) k) (ap (value_at (take end src)) (sym g ∙ e))

      pub value_broken : (c : Cause) → r ≡ Err c → Err c ≡ value_step at end src
      value_broken c g = value_found_lem (Err c) g

      module _ (o : Maybe FieldAt) (u : r ≡ Ok o) where
        pub value_end : o ≡ None → Ok None ≡ value_step at end src
        value_end g = value_found_lem (Ok None) (u ∙ ap Ok g)

        module _ (f : FieldAt) (g : o ≡ Some f) where
          value_inside : f.end ≤ end
          value_inside = omega (arith, (found_at layer 34 (take end src) (sym e ∙ u ∙ ap Ok g)).inside, length-take-le end src k)

          pub value_long : f.end ≡ length (take f.end src)
          value_long = sym (length-take-le f.end src (omega (arith, value_inside)))

          pub value_is_lem : (x : ValueStep) → x ≡ value_in f (fields_from value f.start (take f.end src)) → x ≡ value_step at end src
          value_is_lem x w =
              w ∙ ap (λ (l : List ℕ). value_in f (fields_from value f.start l)) (sym (take-take f.end end src value_inside)) ∙ value_found_lem (Ok (Some f)) (u ∙ ap Ok g)

pub part_long : (src : List ℕ) (end : ℕ) → end ≤ length src → end ≡ length (take end src)
part_long src end h = sym (length-take-le end src h)
