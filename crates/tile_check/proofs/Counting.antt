-- A tile field by field, with its layers counted.
use Prim.Native.Nat.{ℕ, suc, ◌+◌, ◌≤◌, ◌<◌}
use mathlib.Core.Path.{◌≡◌, refl, sym, ap, ◌∙◌}
use mathlib.Core.Bool.{Bool, true, false, cond, not}
use mathlib.Core.List.{List}
use mathlib.Core.Option.{Option, none, some}
use native.Mathlib.Omega.{arith}
use borrow.Author.Tests.{not-true, not-false, eq-eqb, ne_eqb}
use lib.ListN.{length, take}
use Rattle.messages.specs.declared.key.Kind.TheVariants.{Tile as tile, Layer as layer}
use Rattle.messages.specs.declared.field.FieldAt.{FieldAt}
use Rattle.messages.specs.Fields.{field_at, before, fields_from}
use Rattle.messages.specs.Tiles.{holds, all_hold, if_read, nested, is_good}
use Rattle.messages.specs.Meaning.{each_of, or_nothing}
use Rattle.messages.proofs.Fields.{field_ends, fields_step, fields_end}
use Rattle.messages.proofs.Following.{field_right}
use Rattle.tile_check.specs.Layers.{layers_of}
use Rattle.tile_check.proofs.Asked.{tile_others, layers_ask}
use Rattle.std.specs.Prelude.{Option as Maybe, Some, None}
use Rattle.messages.specs.Fields.{NextField}

-- the layers among some fields, where those can be read and hold what they should; and so many before them
abbrev among : List ℕ → Option (List FieldAt) → Maybe ℕ
among src fs = cond (if_read (nested 2) tile src fs) (Some (length (each_of 26 (or_nothing fs)))) None

abbrev and : ℕ → Maybe ℕ → Maybe ℕ
and n (Some k) = Some (n + k)
and n None = None

and_none : (l : Maybe ℕ) → l ≡ and 0 l
and_none (Some k) = ap Some (omega arith)
and_none None = refl

and_more : (n m k : ℕ) (l : Maybe ℕ) → n + m ≡ k → and n (and m l) ≡ and k l
and_more n m k (Some j) e = let s : n + (m + j) ≡ k + j = omega arith in rw s refl
and_more n m k None e = refl

-- a field before others: a layer, or something else
module _ (src : List ℕ) (f : FieldAt) where
  bad_field : (fs : Option (List FieldAt)) → holds (nested 2) tile src f ≡ false → among src (before f fs) ≡ None
  bad_field none b = refl
  bad_field (some fs) b = rw b refl

  layer_field : (fs : Option (List FieldAt)) → holds (nested 2) tile src f ≡ true → f.key ≡ 26 → among src (before f fs) ≡ and 1 (among src fs)
  layer_field none b k = refl
  layer_field (some fs) b k = rw (b, eq-eqb f.key 26 k) (by (all_hold (nested 2) tile src fs))
    where
      by : (t : Bool) → cond t (Some (suc (length (each_of 26 fs)))) None ≡ and 1 (cond t (Some (length (each_of 26 fs))) None)
      by true = ap Some (omega arith)
      by false = refl

  other_field : (fs : Option (List FieldAt)) → holds (nested 2) tile src f ≡ true → (f.key ≡ 26 → ⊥) → among src (before f fs) ≡ among src fs
  other_field none b k = refl
  other_field (some fs) b k = rw (b, ne_eqb f.key 26 k) refl

-- ---- the loop
pub record Counted (src : List ℕ) (at n : ℕ) : Type 0 where
  pub few : n ≤ at
  pub rest : layers_of src ≡ and n (among src (fields_from tile at src))

pub counted_start : (src : List ℕ) → Counted src 0 0
unfolding layers_of is_good nested
counted_start src = record { few = omega arith; rest = and_none (among src (fields_from tile 0 src)) }

module _ (src : List ℕ) (at n : ℕ) (C : Counted src at n) where
  pub counted_end : length src ≤ at → Some n ≡ layers_of src
  counted_end h = let s : n + 0 ≡ n = omega arith in sym (C.rest ∙ rw (fields_end src tile at h, s) refl)

  module _ (h : at < length src) (r : NextField) (g : r ≡ field_at tile at src) where
    pub counted_faulty : r ≡ None → None ≡ layers_of src
    counted_faulty e = sym (C.rest ∙ rw (fields_step src tile at h, ← g, e) refl)

    module _ (f : FieldAt) (e : r ≡ Some f) where
      step : layers_of src ≡ and n (among src (before f (fields_from tile f.end src)))
      step = C.rest ∙ rw (fields_step src tile at h, ← g, e) refl

      later : at < f.end
      later = (field_ends tile (sym g ∙ e)).later

      pub other_counted : (f.key ≡ 26 → ⊥) → Counted src f.end n
      other_counted k =
          let t = tile_others (nested 2) f.start (take f.end src) f.key k (field_right tile at src f (sym g ∙ e)) in
          record { few = omega (arith, later, C.few); rest = step ∙ ap (and n) (other_field src f (fields_from tile f.end src) t k) }

      module _ (k : f.key ≡ 26) (t : Bool) (w : t ≡ nested 2 layer f.start (take f.end src)) where
        pub layer_bad : not t ≡ true → None ≡ layers_of src
        layer_bad b =
            let q = layers_ask (nested 2) f.start (take f.end src) f.key k ∙ sym w ∙ not-true t b in
            sym (step ∙ ap (and n) (bad_field src f (fields_from tile f.end src) q))

        pub layer_counted : not t ≡ false → Counted src f.end (n + 1)
        layer_counted b =
            let q = layers_ask (nested 2) f.start (take f.end src) f.key k ∙ sym w ∙ not-false t b in
            record {
              few = omega (arith, later, C.few);
              rest = step ∙ ap (and n) (layer_field src f (fields_from tile f.end src) q k) ∙ and_more n 1 (n + 1) (among src (fields_from tile f.end src)) refl;
            }
