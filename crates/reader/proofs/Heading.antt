-- A layer's head taken field by field is what all its fields say: `layer_over h fs` is the head h after the fields fs.
--     over_with over_none over-start     one field more, none, and the head at the beginning
use Prim.Native.Nat.{ℕ, suc, ◌+◌, ◌-◌, ◌≤◌, ◌<◌}
use mathlib.Core.Path.{◌≡◌, refl, sym, ap, subst, ◌∙◌}
use mathlib.Core.Bool.{Bool, true, false, cond}
use mathlib.Core.List.{List, [], ◌∷◌}
use mathlib.Core.Option.{Option, none, some}
use native.Mathlib.Omega.{arith}
use borrow.Author.Tests.{ne_eqb}
use lib.Dec.{eqb}
use lib.ListN.{length}
use Rattle.std.specs.Prelude.{Some, None, Ok, Err}
use Rattle.wire.specs.declared.field.Field.TheVariants.{LayerName, LayerFeature, LayerKey, LayerValue, LayerExtent, LayerVersion}
use Rattle.wire.specs.Schema.{key_of}
use Rattle.messages.specs.declared.key.Kind.TheVariants.{Layer as layer}
use Rattle.messages.specs.declared.field.FieldAt.{FieldAt}
use Rattle.messages.specs.Fields.{NextField, field_at, before, and_then, fields_from}
use Rattle.messages.specs.Meaning.{later, last_of, each_of, low32, number_or}
use Rattle.messages.proofs.Fields.{FieldEnds, field_ends, fields_step, fields_end}
use Rattle.reader.specs.declared.layers.Part.{Part}
use Rattle.reader.specs.declared.layers.LayerHead.{LayerHead}
use Rattle.reader.specs.Heads.{part_from, part_of, part_or, layer_head}
use Rattle.reader.specs.declared.cause.Cause.TheVariants.{Broken}
use Rattle.reader.specs.Steps.{LayerStep, layer_with_key, layer_with, Counted, Taken, layer_in}

-- ---- a field by its key: each case of the code
module _ (h : LayerHead) (f : FieldAt) where
  by_known : (key : ℕ) → f.key ≡ key → layer_with_key h f key ≡ layer_with h f
  unfolding layer_with
  by_known key e = ap (layer_with_key h f) (sym e)

  pub with_name : (r : Part) → f.key ≡ 10 → r ≡ part_of f
      → record {
        name = r;
        version = h.version;
        extent = h.extent;
        keys = h.keys;
        values = h.values;
        features = h.features;
        start = h.start;
        end = h.end;
      } ≡ layer_with h f
  with_name r k e = rw e (by_known 10 k)

  pub with_version : (r : ℕ) → f.key ≡ 120 → r ≡ low32 f.value
      → record {
        name = h.name;
        version = r;
        extent = h.extent;
        keys = h.keys;
        values = h.values;
        features = h.features;
        start = h.start;
        end = h.end;
      } ≡ layer_with h f
  with_version r k e = rw e (by_known 120 k)

  pub with_extent : (r : ℕ) → f.key ≡ 40 → r ≡ low32 f.value
      → record {
        name = h.name;
        version = h.version;
        extent = r;
        keys = h.keys;
        values = h.values;
        features = h.features;
        start = h.start;
        end = h.end;
      } ≡ layer_with h f
  with_extent r k e = rw e (by_known 40 k)

  pub with_key : f.key ≡ 26
      → record {
        name = h.name;
        version = h.version;
        extent = h.extent;
        keys = h.keys + 1;
        values = h.values;
        features = h.features;
        start = h.start;
        end = h.end;
      } ≡ layer_with h f
  with_key k = by_known 26 k

  pub with_value : f.key ≡ 34
      → record {
        name = h.name;
        version = h.version;
        extent = h.extent;
        keys = h.keys;
        values = h.values + 1;
        features = h.features;
        start = h.start;
        end = h.end;
      } ≡ layer_with h f
  with_value k = by_known 34 k

  pub with_feature : f.key ≡ 18
      → record {
        name = h.name;
        version = h.version;
        extent = h.extent;
        keys = h.keys;
        values = h.values;
        features = h.features + 1;
        start = h.start;
        end = h.end;
      } ≡ layer_with h f
  with_feature k = by_known 18 k

  pub with_other : (f.key ≡ 10 → ⊥) → (f.key ≡ 120 → ⊥) → (f.key ≡ 40 → ⊥) → (f.key ≡ 26 → ⊥) → (f.key ≡ 34 → ⊥) → (f.key ≡ 18 → ⊥) → h ≡ layer_with h f
  unfolding layer_with
  with_other a b c d e g =
      rw (ne_eqb f.key 10 a, ne_eqb f.key 120 b, ne_eqb f.key 40 c, ne_eqb f.key 26 d, ne_eqb f.key 34 e, ne_eqb f.key 18 g) refl

-- ---- a head, and what the fields behind say
abbrev part_else : Part → Option FieldAt → Part
part_else p none = p
part_else p (some f) = part_of f

abbrev low_else : ℕ → Option FieldAt → ℕ
low_else n none = n
low_else n (some f) = low32 f.value

abbrev layer_over : LayerHead → List FieldAt → LayerHead
layer_over h fs =
    record {
      name = part_else h.name (last_of (key_of LayerName) fs);
      version = low_else h.version (last_of (key_of LayerVersion) fs);
      extent = low_else h.extent (last_of (key_of LayerExtent) fs);
      keys = h.keys + length (each_of (key_of LayerKey) fs);
      values = h.values + length (each_of (key_of LayerValue) fs);
      features = h.features + length (each_of (key_of LayerFeature) fs);
      start = h.start;
      end = h.end;
    }

part_with : (p : Part) (g : FieldAt) (b : Bool) (o : Option FieldAt) → part_else (cond b (part_of g) p) o ≡ part_else p (later (cond b (some g) none) o)
part_with p g true none = refl
part_with p g true (some f) = refl
part_with p g false none = refl
part_with p g false (some f) = refl

low_with : (n : ℕ) (g : FieldAt) (b : Bool) (o : Option FieldAt) → low_else (cond b (low32 g.value) n) o ≡ low_else n (later (cond b (some g) none) o)
low_with n g true none = refl
low_with n g true (some f) = refl
low_with n g false none = refl
low_with n g false (some f) = refl

count_with : (n : ℕ) (g : FieldAt) (b : Bool) (fs : List FieldAt) → cond b (n + 1) n + length fs ≡ n + length (cond b (g ∷ fs) fs)
count_with n g true fs = omega arith
count_with n g false fs = refl

over_with : (h : LayerHead) (g : FieldAt) (fs : List FieldAt) → layer_over h (g ∷ fs) ≡ layer_over (layer_with h g) fs
unfolding layer_with
over_with h g fs =
    rw (
      ← part_with h.name g (eqb g.key (key_of LayerName)) (last_of (key_of LayerName) fs),
      ← low_with h.version g (eqb g.key (key_of LayerVersion)) (last_of (key_of LayerVersion) fs),
      ← low_with h.extent g (eqb g.key (key_of LayerExtent)) (last_of (key_of LayerExtent) fs),
      ← count_with h.keys g (eqb g.key (key_of LayerKey)) (each_of (key_of LayerKey) fs),
      ← count_with h.values g (eqb g.key (key_of LayerValue)) (each_of (key_of LayerValue) fs),
      ← count_with h.features g (eqb g.key (key_of LayerFeature)) (each_of (key_of LayerFeature) fs),
    ) refl

over_none : (h : LayerHead) → layer_over h [] ≡ h
over_none h =
    let none_behind : (n : ℕ) → n + 0 ≡ n = λ n. omega arith in
    rw (none_behind h.keys, none_behind h.values, none_behind h.features) refl

-- ---- the loop: what the layer's fields say is what the head says with those behind
abbrev ended : LayerHead → Option (List FieldAt) → LayerStep
ended h none = Err Broken
ended h (some fs) = Ok (Some (layer_over h fs))

pub record Heading (src : List ℕ) (start : ℕ) (before : LayerHead) (at : ℕ) (h : LayerHead) : Type 0 where
  pub counted : Counted h (suc at)
  pub rest : ended before (fields_from layer start src) ≡ ended h (fields_from layer at src)

abbrev first : FieldAt → LayerHead
first f = record { name = part_from 0 0; version = 1; extent = 4096; keys = 0; values = 0; features = 0; start = f.start; end = f.end }

part_first : (o : Option FieldAt) → part_or o ≡ part_else (part_from 0 0) o
part_first none = refl
part_first (some f) = refl

low_first : (n : ℕ) → n < 4294967296 → (o : Option FieldAt) → low32 (number_or n o) ≡ low_else n o
low_first n h none = omega arith
low_first n h (some f) = refl

over_first : (f : FieldAt) (fs : List FieldAt) → layer_head f fs ≡ layer_over (first f) fs
over_first f fs =
    let none_before : (n : ℕ) → 0 + n ≡ n = λ n. omega arith in
    rw (
      none_before (length (each_of (key_of LayerKey) fs)),
      none_before (length (each_of (key_of LayerValue) fs)),
      none_before (length (each_of (key_of LayerFeature) fs)),
      ← part_first (last_of (key_of LayerName) fs),
      ← low_first 1 (omega arith) (last_of (key_of LayerVersion) fs),
      ← low_first 4096 (omega arith) (last_of (key_of LayerExtent) fs),
    ) refl

pub heading_first : (f : FieldAt) (src : List ℕ) → Heading src f.start (first f) f.start (first f)
heading_first f src = record { counted = record { keys = omega arith; values = omega arith; features = omega arith }; rest = refl }

over_all : (f : FieldAt) (o : Option (List FieldAt)) → layer_in f o ≡ ended (first f) o
unfolding layer_in
over_all f none = refl
over_all f (some fs) = ap Ok (ap Some (over_first f fs))

ended_with : (h : LayerHead) (g : FieldAt) (o : Option (List FieldAt)) → ended h (before g o) ≡ ended (layer_with h g) o
ended_with h g none = refl
ended_with h g (some fs) = ap Ok (ap Some (over_with h g fs))

counted_with : (h : LayerHead) (g : FieldAt) (n : ℕ) → Counted h n → Counted (layer_with h g) (suc n)
unfolding layer_with
counted_with h g n c =
    record {
      keys = by (eqb g.key (key_of LayerKey)) h.keys c.keys;
      values = by (eqb g.key (key_of LayerValue)) h.values c.values;
      features = by (eqb g.key (key_of LayerFeature)) h.features c.features;
    }
  where
    by : (b : Bool) (k : ℕ) → k < n → cond b (k + 1) k < suc n
    by true k l = omega arith
    by false k l = omega arith

counted_up : {h : LayerHead} {m n : ℕ} → Counted h (suc m) → m ≤ n → Counted h (suc n)
counted_up c l = record { keys = omega (arith, c.keys); values = omega (arith, c.values); features = omega (arith, c.features) }

module _ (src : List ℕ) (at : ℕ) (h : LayerHead) where
  module _ (f : FieldAt) (I : Heading src f.start (first f) at h) where
    pub heading_done : length src ≤ at → Ok (Some h) ≡ layer_in f (fields_from layer f.start src)
    heading_done l = sym (over_all f (fields_from layer f.start src) ∙ I.rest ∙ ap (ended h) (fields_end src layer at l) ∙ ap Ok (ap Some (over_none h)))

  module _ (l : at < length src) (r : NextField) (e : r ≡ field_at layer at src) where
    turn : (x : NextField) → r ≡ x → ended h (fields_from layer at src) ≡ ended h (and_then x (λ g. fields_from layer g.end src))
    turn x k = ap (ended h) (fields_step src layer at l ∙ ap (λ (y : NextField). and_then y (λ g. fields_from layer g.end src)) (sym e ∙ k))

    pub heading_broken : (f : FieldAt) → Heading src f.start (first f) at h → r ≡ None → Err Broken ≡ layer_in f (fields_from layer f.start src)
    heading_broken f I k = sym (over_all f (fields_from layer f.start src) ∙ I.rest ∙ turn None k)

    module _ (start : ℕ) (h₀ : LayerHead) (I : Heading src start h₀ at h) (g : FieldAt) (k : r ≡ Some g) where
      with_ends : FieldEnds at src g
      with_ends = field_ends layer (sym e ∙ k)

      pub with_taken : Taken h g
      with_taken =
          let b = with_ends.behind in
          record {
            ordered = with_ends.ordered;
            counted = record { keys = omega (arith, I.counted.keys); values = omega (arith, I.counted.values); features = omega (arith, I.counted.features) };
          }

      pub heading_less : length src - g.end < length src - at
      heading_less = omega (arith, with_ends.later)

      pub heading_goes_on : (m : LayerHead) → m ≡ layer_with h g → Heading src start h₀ g.end m
      heading_goes_on m w =
          subst (Heading src start h₀ g.end) (sym w)
          (record {
            counted = counted_up (counted_with h g g.start with_taken.counted) with_ends.ordered;
            rest = I.rest ∙ turn (Some g) k ∙ ended_with h g (fields_from layer g.end src);
          })
