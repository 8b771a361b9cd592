-- The answers of specs/Answers are told of what the calls meet (specs/Steps) and of the tile's verdict.
use Prim.Native.Nat.{ℕ}
use mathlib.Core.Path.{◌≡◌, refl, sym, ap, ◌∙◌}
use mathlib.Core.Bool.{Bool, true, false, cond}
use mathlib.Core.List.{List}
use mathlib.Core.Option.{Option, none, some}
use native.Mathlib.Omega.{arith}
use lib.Dec.{leb}
use lib.ListN.{length, take}
use Rattle.std.specs.Prelude.{Option as Maybe, Some, None, Result, Ok, Err}
use Rattle.refusal.specs.declared.Fault.{Fault}
use Rattle.refusal.specs.declared.Refusal.TheVariants.{Wire, State, Room}
use Rattle.refusal.specs.Said.{placed, plain}
use Rattle.messages.specs.declared.key.Kind.TheVariants.{Tile as tile, Layer as layer, Value as value}
use Rattle.messages.specs.declared.field.FieldAt.{FieldAt}
use Rattle.messages.specs.Fields.{fields_from}
use Rattle.messages.specs.Tiles.{Verdict, good, fault, Judges, Answers}
use Rattle.scan.specs.Verdicts.{check}
use Rattle.scan.proofs.Places.{check_judges}
use Rattle.tile_check.specs.Checking.{checked}
use Rattle.reader.specs.declared.cause.Cause.{Cause}
use Rattle.reader.specs.declared.cause.Cause.TheVariants.{Outside, NoRoom}
use Rattle.reader.specs.declared.layers.Part.{Part}
use Rattle.reader.specs.declared.layers.LayerHead.{LayerHead}
use Rattle.reader.specs.declared.entries.ValueAt.{ValueAt}
use Rattle.reader.specs.Finding.{Found, first_of}
use Rattle.reader.specs.Answers.{blamed, fault_of, within, layer_read, layer_found, next_layer, key_found, next_key, value_read, value_found, next_value}
use Rattle.reader.specs.Steps.{LayerStep, KeyStep, ValueStep, layer_in, layer_at, layer_step, key_at, key_step, value_in, value_at, value_step, told}

by_test : {X Y : Type 0} (g : X → Y) (b : Bool) {a c : X} {p q : Y} → p ≡ g a → q ≡ g c → cond b p q ≡ g (cond b a c)
by_test g true e h = e
by_test g false e h = h

module _ (v : Verdict) where
  layer_read_lem : (f : FieldAt) (o : Option (List FieldAt)) → layer_read v f o ≡ told v (layer_in f o)
  unfolding layer_in
  layer_read_lem f none = refl
  layer_read_lem f (some fs) = refl

  layer_found_lem : (src : List ℕ) (r : Found) → layer_found v src r ≡ told v (layer_at src r)
  layer_found_lem src (Ok (Some f)) = layer_read_lem f (fields_from layer f.start (take f.end src))
  layer_found_lem src (Ok None) = refl
  layer_found_lem src (Err c) = refl

  key_found_lem : (r : Found) → key_found v r ≡ told v (key_at r)
  key_found_lem (Ok (Some f)) = refl
  key_found_lem (Ok None) = refl
  key_found_lem (Err c) = refl

  value_read_lem : (f : FieldAt) (o : Option (List FieldAt)) → value_read v f o ≡ told v (value_in f o)
  unfolding value_in
  value_read_lem f none = refl
  value_read_lem f (some fs) = refl

  value_found_lem : (src : List ℕ) (r : Found) → value_found v src r ≡ told v (value_at src r)
  value_found_lem src (Ok (Some f)) = value_read_lem f (fields_from value f.start (take f.end src))
  value_found_lem src (Ok None) = refl
  value_found_lem src (Err c) = refl

  -- ---- the calls
  pub layer_told : (at : ℕ) (src : List ℕ) → next_layer at src v ≡ told v (layer_step at src)
  unfolding next_layer layer_step
  layer_told at src = by_test (told v) (leb at (length src)) (layer_found_lem src (first_of tile 26 at src)) refl

  pub key_told : (at end : ℕ) (src : List ℕ) → next_key at end src v ≡ told v (key_step at end src)
  unfolding next_key key_step
  key_told at end src = by_test (told v) (within at end src) (key_found_lem (first_of layer 26 at (take end src))) refl

  pub value_told : (at end : ℕ) (src : List ℕ) → next_value at end src v ≡ told v (value_step at end src)
  unfolding next_value value_step
  value_told at end src = by_test (told v) (within at end src) (value_found_lem (take end src) (first_of layer 34 at (take end src))) refl

-- ---- the answer of a call that met this: there is a verdict for all bytes
module _ {A B : Type 0} (src : List ℕ) (answer : Verdict → B) (s : Result A Cause) (with_it : Result A Fault → B) (e : (v : Verdict) → answer v ≡ with_it (told v s)) where
  pub says : (x : A) → s ≡ Ok x → Answers src answer (with_it (Ok x))
  says x k =
      record { verdict = check src; judged = check_judges src; is = ap (λ (r : Result A Cause). with_it (told (check src) r)) (sym k) ∙ sym (e (check src)) }

  pub refuses : (c : Cause) → s ≡ Err c → (f : Fault) → Answers src (fault_of c) f → Answers src answer (with_it (Err f))
  refuses c k f a =
      record {
        verdict = a.verdict;
        judged = a.judged;
        is = ap (λ (x : Fault). with_it (Err x)) a.is ∙ ap (λ (r : Result A Cause). with_it (told a.verdict r)) (sym k) ∙ sym (e a.verdict);
      }

module _ (src : List ℕ) (at : ℕ) (r : LayerStep) (e : r ≡ layer_step at src) where
  layer_by : (v : Verdict) → next_layer at src v ≡ told v r
  layer_by v = layer_told v at src ∙ ap (told v) (sym e)

  pub says_layer : (x : Maybe LayerHead) → r ≡ Ok x → Answers src (next_layer at src) (Ok x)
  says_layer x k = says src (next_layer at src) r (λ y. y) layer_by x k

  pub refuses_layer : (c : Cause) → r ≡ Err c → (f : Fault) → Answers src (fault_of c) f → Answers src (next_layer at src) (Err f)
  refuses_layer c k f a = refuses src (next_layer at src) r (λ y. y) layer_by c k f a

module _ (src : List ℕ) (at end : ℕ) where
  module _ (r : KeyStep) (e : r ≡ key_step at end src) where
    key_by_lem : (v : Verdict) → next_key at end src v ≡ told v r
    key_by_lem v = key_told v at end src ∙ ap (told v) (sym e)

    pub says_key : (x : Maybe Part) → r ≡ Ok x → Answers src (next_key at end src) (Ok x)
    says_key x k = says src (next_key at end src) r (λ y. y) key_by_lem x k

    pub refuses_key : (c : Cause) → r ≡ Err c → (f : Fault) → Answers src (fault_of c) f → Answers src (next_key at end src) (Err f)
    refuses_key c k f a = refuses src (next_key at end src) r (λ y. y) key_by_lem c k f a

  module _ (r : ValueStep) (e : r ≡ value_step at end src) where
    value_by_lem : (v : Verdict) → next_value at end src v ≡ told v r
    value_by_lem v = value_told v at end src ∙ ap (told v) (sym e)

    pub says_value : (x : Maybe ValueAt) → r ≡ Ok x → Answers src (next_value at end src) (Ok x)
    says_value x k = says src (next_value at end src) r (λ y. y) value_by_lem x k

    pub refuses_value : (c : Cause) → r ≡ Err c → (f : Fault) → Answers src (fault_of c) f → Answers src (next_value at end src) (Err f)
    refuses_value c k f a = refuses src (next_value at end src) r (λ y. y) value_by_lem c k f a

-- ---- whose fault it is
module _ (src : List ℕ) where
  pub fault_outside : Answers src (fault_of Outside) (plain State)
  fault_outside = record { verdict = check src; judged = check_judges src; is = refl }

  pub fault_no_room : Answers src (fault_of NoRoom) (plain Room)
  fault_no_room = record { verdict = check src; judged = check_judges src; is = refl }

module _ (src : List ℕ) (r : Result ℕ Fault) (a : Answers src (checked src) r) where
  pub blames_place : (n : ℕ) → r ≡ Ok n → Answers src blamed (plain State)
  blames_place n k = by a.verdict a.judged a.is
    where
      by : (v : Verdict) → Judges src v → r ≡ checked src v → Answers src blamed (plain State)
      by good j e = record { verdict = good; judged = j; is = refl }
      by (fault p) j e = absurd (let z : ◌≡◌ {A = ℕ} 0 1 = cc in omega arith)

  pub blames_tile : (f : Fault) → r ≡ Err f → Answers src blamed f
  blames_tile f k = by a.verdict a.judged a.is
    where
      by : (v : Verdict) → Judges src v → r ≡ checked src v → Answers src blamed f
      by good j e = absurd (let z : ◌≡◌ {A = ℕ} 0 1 = cc in omega arith)
      by (fault p) j e = let m : f ≡ placed Wire p = cc in record { verdict = fault p; judged = j; is = m }
