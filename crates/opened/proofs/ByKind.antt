-- The words of a value by its kind, as the code asks for it; and how long they are.
use mathlib.Core.Path.{◌≡◌}
use mathlib.Core.Bool.{Bool, true, false, cond}
use mathlib.Core.List.{List, [], ◌∷◌, ◌++◌}
use Prim.Native.Nat.{ℕ, ◌%◌, ◌≤◌}
use native.Mathlib.Omega.{arith}
use borrow.Author.Tests.{eq-eqb, ne_eqb}
use lib.Dec.{eqb}
use lib.IntN.{ℤ, pos, negsuc, nat_abs}
use lib.ListN.{length, length-append}
use Rattle.whole.specs.Twos.{signed64}
use Rattle.printed.specs.Printed.{newline}
use Rattle.opened.specs.Opened.{named}
use Rattle.opened.specs.Values.{hex_digits, signed_decimal, float_head, double_head, int_head, uint_head, sint_head, true_words, false_words, bool_words, empty_words, value_words, value_text, value_room}
use Rattle.opened.proofs.Spelling.{decimal_short, hex_long}

-- ---- each kind
module _ (kind bits : ℕ) where
  pub is_float : kind ≡ 2 → value_words kind bits ≡ float_head ++ hex_digits 8 (bits % 4294967296)
  unfolding value_words
  is_float e = rw (eq-eqb kind 2 e)

  module _ (a : kind ≡ 2 → ⊥) where
    pub is_double : kind ≡ 3 → value_words kind bits ≡ double_head ++ hex_digits 16 bits
    unfolding value_words
    is_double e = rw (ne_eqb kind 2 a, eq-eqb kind 3 e)

    module _ (b : kind ≡ 3 → ⊥) where
      pub is_int : kind ≡ 4 → value_words kind bits ≡ int_head ++ signed_decimal (signed64 bits)
      unfolding value_words
      is_int e = rw (ne_eqb kind 2 a, ne_eqb kind 3 b, eq-eqb kind 4 e)

      module _ (c : kind ≡ 4 → ⊥) where
        pub is_uint : kind ≡ 5 → value_words kind bits ≡ named uint_head bits
        unfolding value_words
        is_uint e = rw (ne_eqb kind 2 a, ne_eqb kind 3 b, ne_eqb kind 4 c, eq-eqb kind 5 e)

        module _ (d : kind ≡ 5 → ⊥) where
          pub is_sint : kind ≡ 6 → value_words kind bits ≡ sint_head ++ signed_decimal (signed64 bits)
          unfolding value_words
          is_sint e = rw (ne_eqb kind 2 a, ne_eqb kind 3 b, ne_eqb kind 4 c, ne_eqb kind 5 d, eq-eqb kind 6 e)

          module _ (f : kind ≡ 6 → ⊥) where
            pub is_bool : kind ≡ 7 → value_words kind bits ≡ bool_words bits
            unfolding value_words
            is_bool e = rw (ne_eqb kind 2 a, ne_eqb kind 3 b, ne_eqb kind 4 c, ne_eqb kind 5 d, ne_eqb kind 6 f, eq-eqb kind 7 e)

            pub is_empty : (kind ≡ 7 → ⊥) → value_words kind bits ≡ empty_words
            unfolding value_words
            is_empty g = rw (ne_eqb kind 2 a, ne_eqb kind 3 b, ne_eqb kind 4 c, ne_eqb kind 5 d, ne_eqb kind 6 f, ne_eqb kind 7 g)

module _ (bits : ℕ) where
  pub is_false : bits ≡ 0 → bool_words bits ≡ false_words
  is_false e = rw (eq-eqb bits 0 e)

  pub is_true : (bits ≡ 0 → ⊥) → bool_words bits ≡ true_words
  is_true e = rw (ne_eqb bits 0 e)

-- ---- how long the words are
signed_short : (z : ℤ) → length (signed_decimal z) ≤ 21
signed_short (pos n) = omega (arith, decimal_short n)
signed_short (negsuc n) = omega (arith, decimal_short (nat_abs (negsuc n)))

bool_short : (bits : ℕ) → length (bool_words bits) ≤ 16
bool_short bits = by (eqb bits 0)
  where
    by : (t : Bool) → length (cond t false_words true_words) ≤ 16
    by true = omega arith
    by false = omega arith

-- a text that goes by six tests is no longer than the longest
module _ (a b c d e f g : List ℕ) (k : length a ≤ 32) (l : length b ≤ 32) (m : length c ≤ 32) (n : length d ≤ 32) (o : length e ≤ 32) (p : length f ≤ 32) (q : length g ≤ 32) where
  six : (t u v w x y : Bool) → length (cond t a (cond u b (cond v c (cond w d (cond x e (cond y f g)))))) ≤ 32
  six true u v w x y = k
  six false true v w x y = l
  six false false true w x y = m
  six false false false true x y = n
  six false false false false true y = o
  six false false false false false true = p
  six false false false false false false = q

module _ (kind bits : ℕ) where
  pub words_short : length (value_words kind bits) ≤ 32
  unfolding value_words
  words_short =
      six (float_head ++ hex_digits 8 (bits % 4294967296)) (double_head ++ hex_digits 16 bits) (int_head ++ signed_decimal (signed64 bits)) (named uint_head bits)
      (sint_head ++ signed_decimal (signed64 bits)) (bool_words bits) empty_words
      (omega (arith, hex_long 8 (bits % 4294967296))) (omega (arith, hex_long 16 bits)) (omega (arith, signed_short (signed64 bits))) (omega (arith, decimal_short bits))
      (omega (arith, signed_short (signed64 bits))) (omega (arith, bool_short bits)) (omega arith)
      (eqb kind 2) (eqb kind 3) (eqb kind 4) (eqb kind 5) (eqb kind 6) (eqb kind 7)

  pub value_short : length (value_text kind bits) ≤ value_room
  value_short = rw (length-append (value_words kind bits) (newline ∷ [])) (omega (arith, words_short))
