-- A value's message has one piece, by which it reads back as it was given.
use Prim.Native.Nat.{ℕ, ◌≤◌, ◌<◌}
use mathlib.Core.Path.{◌≡◌, refl, sym, ap, ◌∙◌}
use mathlib.Core.Bool.{Bool, true, false, cond, not}
use mathlib.Core.List.{List, [], ◌∷◌, ◌++◌, append-nil}
use native.Mathlib.Omega.{arith}
use lib.IntN.{ℤ, pos, negsuc}
use lib.Dec.{eqb}
use lib.ListN.{length, length-append}
use Rattle.words.specs.Params.{param}
use Rattle.words.proofs.Params.{param_pos, param_neg, unparam_param}
use Rattle.wire.specs.declared.field.ValueKind.TheVariants.{Text, Float, Double, Int, Uint, Sint, Bool as Truth}
use Rattle.wire.specs.declared.field.Field.{Field}
use Rattle.wire.specs.declared.field.Field.TheVariants.{Value as ValueOf}
use Rattle.wire.specs.Fields.{varint_field}
use Rattle.messages.specs.declared.key.Kind.TheVariants.{Value as value}
use Rattle.messages.specs.declared.field.FieldAt.{FieldAt}
use Rattle.messages.specs.Keys.{follows}
use Rattle.messages.specs.Tiles.{nested}
use Rattle.messages.specs.Meaning.{Value, text as textSaid, int as intSaid, sint as sintSaid, bool, kind_field, content_or, value_of}
use Rattle.messages.proofs.Written.{Piece, number, four, eight, body, written, written_all, number_written, four_written, eight_written, body_written}
use Rattle.messages.proofs.Written.{Placed, placed_is, AllPlaced, none_placed, one_placed, Good, any_body, is_message_lem, body_there, within_read}
use Rattle.given.specs.Given.{Content, text, float, double, int, uint, sint, bool as boolGiven, bits64}
use Rattle.given.specs.Asked.{Int64}
use Rattle.given.specs.Messages.{value_message}
use Rattle.given.proofs.Numbers.{signed_back}
use Rattle.read_back.specs.Layers.{value_given}
use Rattle.read_back.specs.Sizes.{SizedContent}

abbrev pub value_piece : Content → Piece
value_piece (text t) = body (ValueOf Text) t
value_piece (float bits) = four (ValueOf Float) bits
value_piece (double bits) = eight (ValueOf Double) bits
value_piece (int n) = number (ValueOf Int) (bits64 n)
value_piece (uint n) = number (ValueOf Uint) n
value_piece (sint n) = number (ValueOf Sint) (param n)
value_piece (boolGiven b) = number (ValueOf Truth) (cond b 1 0)

one_piece : (c : Content) → value_message c ≡ written (value_piece c)
unfolding value_message
one_piece (text t) = body_written (ValueOf Text) t
one_piece (float bits) = four_written (ValueOf Float) bits
one_piece (double bits) = eight_written (ValueOf Double) bits
one_piece (int n) = number_written (ValueOf Int) (bits64 n)
one_piece (uint n) = number_written (ValueOf Uint) n
one_piece (sint n) = number_written (ValueOf Sint) (param n)
one_piece (boolGiven b) = number_written (ValueOf Truth) (cond b 1 0)

pub value_written : (c : Content) → value_message c ≡ written_all (value_piece c ∷ [])
value_written c = one_piece c ∙ sym (append-nil (written (value_piece c)))

-- ---- each is known to MVT, and its number has 64 bits
bits_fit : (n : ℤ) → Int64 n → bits64 n < 18446744073709551616
bits_fit (pos n) h = omega arith
bits_fit (negsuc n) h = omega arith

param_fits : (n : ℤ) → Int64 n → param n < 18446744073709551616
param_fits (pos n) h = omega (arith, param_pos n)
param_fits (negsuc n) h = omega (arith, param_neg n)

bit_fits : (b : Bool) → cond b 1 0 < 18446744073709551616
bit_fits true = omega arith
bit_fits false = omega arith

pub value_good : (c : Content) → SizedContent c → length (value_message c) ≤ 4294967295 → Good (nested 0) value (value_piece c)
unfolding follows
value_good (text t) s h =
    any_body (nested 0) value (ValueOf Text) t (omega (arith, ap length (one_piece (text t)), length-append (varint_field (ValueOf Text) (length t)) t)) refl
value_good (float bits) s h = (refl, s)
value_good (double bits) s h = (refl, s)
value_good (int n) s h = (refl, bits_fit n s)
value_good (uint n) s h = (refl, s)
value_good (sint n) s h = (refl, param_fits n s)
value_good (boolGiven b) s h = (refl, bit_fits b)

pub value_holds : (c : Content) → SizedContent c → length (value_message c) ≤ 4294967295 → (front : List ℕ)
    → nested 1 value (length front) (front ++ value_message c) ≡ true
unfolding nested
value_holds c s h front = rw (value_written c) (is_message_lem (nested 0) value (value_piece c ∷ []) (value_good c s h, tt) front)

-- ---- what it says
same_bool : (b : Bool) → bool (not (eqb (cond b 1 0) 0)) ≡ bool b
same_bool true = refl
same_bool false = refl

module _ (src : List ℕ) where
  abbrev says : FieldAt → Value
  says f = content_or src (kind_field (f ∷ []))

  content_said : (c : Content) → SizedContent c → (f : FieldAt) → Placed src (value_piece c) f → says f ≡ value_given c
  content_said (text t) s f q = ap says (placed_is q) ∙ ap (λ (l : List ℕ). textSaid l) (body_there q)
  content_said (float bits) s f q = ap says (placed_is q)
  content_said (double bits) s f q = ap says (placed_is q)
  content_said (int n) s f q = ap says (placed_is q) ∙ ap (λ (z : ℤ). intSaid z) (signed_back n s)
  content_said (uint n) s f q = ap says (placed_is q)
  content_said (sint n) s f q = ap says (placed_is q) ∙ ap (λ (z : ℤ). sintSaid z) (unparam_param n)
  content_said (boolGiven b) s f q = ap says (placed_is q) ∙ same_bool b

  -- a value in the body of a field
  pub value_read_lem : (field : Field) (c : Content) → SizedContent c → length (value_message c) ≤ 4294967295 → (f : FieldAt)
      → Placed src (body field (value_message c)) f → value_of src f ≡ value_given c
  unfolding value_of
  value_read_lem field c s h f q =
      let I = within_read (nested 0) value (value_piece c ∷ []) (value_good c s h, tt) q (value_written c) in
      ap (λ (fs : List FieldAt). content_or src (kind_field fs)) I.read ∙ alone I.fields I.placed
    where
      alone : (fs : List FieldAt) → AllPlaced src (value_piece c ∷ []) fs → content_or src (kind_field fs) ≡ value_given c
      alone _ (one_placed _ g _ _ r none_placed) = content_said c s g r
