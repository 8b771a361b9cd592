-- A feature's numbers laid field by field: what the fields from `at` on hold is left to be laid, and all of them are good.
use Prim.Native.Nat.{ℕ, ◌+◌, ◌-◌, ◌%◌, ◌≤◌, ◌<◌}
use mathlib.Core.Path.{◌≡◌, refl, sym, ap, ◌∙◌}
use mathlib.Core.Logic.{◌⊎◌, inl, inr}
use mathlib.Core.Bool.{Bool, true, false, cond}
use mathlib.Core.List.{List, [], ◌∷◌, ◌++◌}
use mathlib.Core.Option.{Option, none, some}
use native.Mathlib.Omega.{arith}
use borrow.Author.Tests.{eq-eqb, ne_eqb}
use lib.ListN.{length, take, set, length-append}
use Rattle.std.specs.Prelude.{Some, None}
use Rattle.promise.proofs.Laying.{lay_nothing, lay_one}
use Rattle.messages.specs.declared.key.Kind.TheVariants.{Feature as feature}
use Rattle.messages.specs.declared.field.FieldAt.{FieldAt}
use Rattle.messages.specs.Fields.{NextField, before, field_at, fields_from, numbers_from}
use Rattle.messages.specs.Tiles.{is_read, holds, all_hold, if_read, nested}
use Rattle.messages.specs.Meaning.{low32, or_nothing}
use Rattle.messages.proofs.Fields.{field_ends, fields_step, fields_end}
use Rattle.reader.specs.Packed.{low_of, RoomFor, PutsAt}
use Rattle.reader.specs.WordSteps.{words_by, words_at, FieldFits, AllFit}
use Rattle.reader.proofs.Laying.{Onward, onward_start, onward_turn, onward_end, onward_room, onward_long}
use Rattle.reader.proofs.Listing.{low_long}
use Rattle.reader.proofs.FeatureKeys.{holds_tags, holds_words}

-- ---- one field
module _ (packed single : ℕ) (src : List ℕ) (f : FieldAt) (from : ℕ) (out : List ℕ) where
  abbrev numbers : Option (List ℕ)
  numbers = numbers_from f.start (take f.end src)

  module _ (w : FieldFits packed single src f from out) (e : f.key ≡ packed) where
    by_packed : words_by packed single src f ≡ low_of numbers
    by_packed = rw (eq-eqb f.key packed e) refl

    pub list_fits : RoomFor numbers from out
    list_fits = record { can = w.can e; fits = omega (arith, w.fits, ap length by_packed, low_long numbers) }

    pub list_laid : (r : ℕ) (l : List ℕ) → PutsAt from (low_of numbers) out r l → PutsAt from (words_by packed single src f) out r l
    list_laid r l p = rw by_packed p

  module _ (w : FieldFits packed single src f from out) (d : f.key ≡ packed → ⊥) where
    module _ (e : f.key ≡ single) where
      by_single : words_by packed single src f ≡ low32 f.value ∷ []
      by_single = rw (ne_eqb f.key packed d, eq-eqb f.key single e) refl

      pub one_fits : from < length out
      one_fits = omega (arith, w.fits, ap length by_single)

      pub one_laid : (a : ℕ) → a ≡ f.value % 4294967296 → PutsAt from (words_by packed single src f) out (from + 1) (set out from a)
      one_laid a g = rw (by_single, g) (record { place = refl; list = lay_one out from (low32 f.value) one_fits })

    pub none_laid : (f.key ≡ single → ⊥) → PutsAt from (words_by packed single src f) out from out
    none_laid e = rw (ne_eqb f.key packed d, ne_eqb f.key single e) (record { place = omega arith; list = sym (lay_nothing from out) })

-- ---- all fields
module _ (packed single : ℕ) (src : List ℕ) where
  abbrev words_from : ℕ → List ℕ
  words_from at = words_at packed single src (or_nothing (fields_from feature at src))

  pub record Fields (start : ℕ) (out₀ out : List ℕ) (at n : ℕ) : Type 0 where
    pub a_list : (packed ≡ 18) ⊎ (packed ≡ 34)
    pub good : if_read (nested 0) feature src (fields_from feature at src) ≡ true
    pub on : Onward (words_from start) 0 out₀ out n (words_from at)

  pub fields_start : (start : ℕ) (out : List ℕ) → AllFit packed single src start out → Fields start out out start 0
  unfolding nested
  fields_start start out w = record { a_list = w.a_list; good = w.good; on = onward_start (words_from start) 0 out (omega (arith, w.fits)) }

  -- what is known of the first of good fields
  record First (f : FieldAt) (o : Option (List FieldAt)) : Type 0 where
    holds_it : holds (nested 0) feature src f ≡ true
    good_rest : if_read (nested 0) feature src o ≡ true
    words_are : words_at packed single src (or_nothing (before f o)) ≡ words_by packed single src f ++ words_at packed single src (or_nothing o)

  first_of : (f : FieldAt) (o : Option (List FieldAt)) → if_read (nested 0) feature src (before f o) ≡ true → First f o
  first_of f none e = absurd (let z : ◌≡◌ {A = ℕ} 0 1 = cc in omega arith)
  first_of f (some fs) e = by (holds (nested 0) feature src f) refl e
    where
      by : (b : Bool) → holds (nested 0) feature src f ≡ b → cond b (all_hold (nested 0) feature src fs) false ≡ true → First f (some fs)
      by true h g = record { holds_it = h; good_rest = g; words_are = refl }
      by false h g = absurd (let z : ◌≡◌ {A = ℕ} 0 1 = cc in omega arith)

  module _ {start : ℕ} {out₀ out : List ℕ} {at n : ℕ} (I : Fields start out₀ out at n) where
    pub fields_long : length out ≡ length out₀
    fields_long = onward_long I.on

    pub fields_done : length src ≤ at → PutsAt 0 (words_from start) out₀ n out
    fields_done h = onward_end I.on (ap (λ (o : Option (List FieldAt)). words_at packed single src (or_nothing o)) (fields_end src feature at h))

    module _ (r : NextField) (h : at < length src) (e : r ≡ field_at feature at src) where
      pub fields_never : r ≡ None → ⊥
      fields_never g =
          let v : field_at feature at src ≡ None = sym e ∙ g in
          let s : fields_from feature at src ≡ none = fields_step src feature at h ∙ rw v refl in
          let b : false ≡ true = sym (ap (if_read (nested 0) feature src) s) ∙ I.good in
          let z : ◌≡◌ {A = ℕ} 0 1 = cc in
          omega arith

      module _ (f : FieldAt) (g : r ≡ Some f) where
        there : field_at feature at src ≡ Some f
        there = sym e ∙ g

        step : fields_from feature at src ≡ before f (fields_from feature f.end src)
        step = fields_step src feature at h ∙ rw there refl

        first : First f (fields_from feature f.end src)
        first = first_of f (fields_from feature f.end src) (sym (ap (if_read (nested 0) feature src) step) ∙ I.good)

        left : words_from at ≡ words_by packed single src f ++ words_from f.end
        left = ap (λ (o : Option (List FieldAt)). words_at packed single src (or_nothing o)) step ∙ first.words_are

        can_read : (packed ≡ 18) ⊎ (packed ≡ 34) → f.key ≡ packed → is_read (numbers_from f.start (take f.end src)) ≡ true
        can_read (inl p) k = sym (holds_tags src f (k ∙ p)) ∙ first.holds_it
        can_read (inr p) k = sym (holds_words src f (k ∙ p)) ∙ first.holds_it

        pub fields_fit : FieldFits packed single src f n out
        fields_fit =
            record {
              inside = (field_ends feature there).inside;
              can = can_read I.a_list;
              fits = omega (arith, onward_room I.on, ap length left, length-append (words_by packed single src f) (words_from f.end));
            }

        pub fields_less : length src - f.end < length src - at
        fields_less = omega (arith, (field_ends feature there).later)

        pub fields_turn : (m : ℕ) (l : List ℕ) → PutsAt n (words_by packed single src f) out m l → Fields start out₀ l f.end m
        fields_turn m l p = record { a_list = I.a_list; good = first.good_rest; on = onward_turn I.on (words_by packed single src f) (words_from f.end) m l left p }
