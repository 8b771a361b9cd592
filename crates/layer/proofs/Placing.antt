-- The parts of the lent bytes that a tag's five words name, and the tag that they make.
use Prim.Native.Nat.{ℕ, ◌+◌, ◌-◌, ◌≤◌}
use mathlib.Core.Path.{◌≡◌, refl, sym, ap, ◌∙◌}
use mathlib.Core.Bool.{Bool, true, false, not}
use mathlib.Core.List.{List}
use native.Mathlib.Omega.{arith}
use lib.ListN.{length, get_or, take, drop}
use lib.Dec.{eqb}
use borrow.Author.Tests.{leb-true, eq-eqb, ne_eqb, not-true, not-false}
use Rattle.table.specs.declared.Text.{Text}
use Rattle.table.specs.declared.Value.{Value}
use Rattle.promise.specs.Widened.{Wide}
use Rattle.table.specs.Texts.{inside, short_text, max_bytes}
use Rattle.table.specs.Values.{value_ok}
use Rattle.layer.specs.declared.tag_list.Place.{Place}
use Rattle.layer.specs.Calls.{Tag}
use Rattle.layer.proofs.Fitting.{both}
use Rattle.layer.specs.TagLists.{value_given, text_place, tag_at, ok_at, short_at}
use Rattle.layer.specs.WholeSteps.{place_at, TagThere}

pub text_there : (kind low high a b : ℕ) → kind ≡ 1 → a ≡ low → b ≡ high → ◌≡◌ {A = Text} (record { start = a; len = b }) (text_place kind low high)
text_there kind low high a b k p q = rw (eq-eqb kind 1 k, p, q)

place_inside : (n kind low high : ℕ) (t : Bool) → eqb kind 1 ≡ t → value_ok n kind low high ≡ true → (text_place kind low high).start + (text_place kind low high).len ≤ n
place_inside n kind low high true q e = rw q (leb-true (low + high) n (rw q at e))
place_inside n kind low high false q e = rw q (omega arith)

module _ (bytes ws : List ℕ) (i : ℕ) (ok : ok_at (length bytes) ws i ≡ true) where
  both_inside : (inside (length bytes) (get_or ws i 0) (get_or ws (i + 1) 0) ≡ true) × (value_ok (length bytes) (get_or ws (i + 2) 0) (get_or ws (i + 3) 0) (get_or ws (i + 4) 0) ≡ true)
  both_inside = both (inside (length bytes) (get_or ws i 0) (get_or ws (i + 1) 0)) (value_ok (length bytes) (get_or ws (i + 2) 0) (get_or ws (i + 3) 0) (get_or ws (i + 4) 0)) ok

  key_inside : get_or ws i 0 + get_or ws (i + 1) 0 ≤ length bytes
  key_inside = leb-true (get_or ws i 0 + get_or ws (i + 1) 0) (length bytes) both_inside.0

  pub key_read : (a l : ℕ) → Wide (get_or ws i 0) a → Wide (get_or ws (i + 1) 0) l → a + l ≤ length bytes
  key_read a l x y = omega (arith, key_inside, x.same, y.same)

  pub text_read : get_or ws (i + 2) 0 ≡ 1 → (c m : ℕ) → Wide (get_or ws (i + 3) 0) c → Wide (get_or ws (i + 4) 0) m → c + m ≤ length bytes
  text_read k c m x y =
      omega (arith, leb-true (get_or ws (i + 3) 0 + get_or ws (i + 4) 0) (length bytes) (rw (eq-eqb (get_or ws (i + 2) 0) 1 k) at both_inside.1), x.same, y.same)

  pub key_room : (p : Place) → p ≡ place_at ws i → p.key.start + p.key.len ≤ length bytes
  key_room p e = rw e key_inside

  pub text_room : (p : Place) → p ≡ place_at ws i → p.text.start + p.text.len ≤ length bytes
  text_room p e = rw e (place_inside (length bytes) (get_or ws (i + 2) 0) (get_or ws (i + 3) 0) (get_or ws (i + 4) 0) (eqb (get_or ws (i + 2) 0) 1) refl both_inside.1)

module _ (bytes ws : List ℕ) (i : ℕ) (T : TagThere bytes ws i) where
  both_short : (short_text (get_or ws (i + 1) 0) ≡ true) × (short_text (text_place (get_or ws (i + 2) 0) (get_or ws (i + 3) 0) (get_or ws (i + 4) 0)).len ≡ true)
  both_short = both (short_text (get_or ws (i + 1) 0)) (short_text (text_place (get_or ws (i + 2) 0) (get_or ws (i + 3) 0) (get_or ws (i + 4) 0)).len) T.short

  pub key_short : (p : Place) → p ≡ place_at ws i → p.key.len ≤ max_bytes
  key_short p e = rw e (leb-true (get_or ws (i + 1) 0) max_bytes both_short.0)

  pub text_short : (p : Place) → p ≡ place_at ws i → p.text.len ≤ max_bytes
  text_short p e = rw e (leb-true (text_place (get_or ws (i + 2) 0) (get_or ws (i + 3) 0) (get_or ws (i + 4) 0)).len max_bytes both_short.1)

-- the slices at a place are the tag
pub tag_there : (bytes ws : List ℕ) (i : ℕ) (p : Place) → p ≡ place_at ws i → ◌≡◌ {A = Tag} (record { key = take (p.key.start + p.key.len - p.key.start) (drop p.key.start bytes); value = p.value; text = take (p.text.start + p.text.len - p.text.start) (drop p.text.start bytes) }) (tag_at bytes ws i)
tag_there bytes ws i p e =
    let x : p.key.start + p.key.len - p.key.start ≡ p.key.len = omega arith in
    let y : p.text.start + p.text.len - p.text.start ≡ p.text.len = omega arith in
    rw (x, y, e)

-- the parts as they are read off the words
pub place_read : (ws : List ℕ) (i a l : ℕ) (v : Value) (t : Text) → Wide (get_or ws i 0) a → Wide (get_or ws (i + 1) 0) l → v ≡ value_given (get_or ws (i + 2) 0) (get_or ws (i + 3) 0) (get_or ws (i + 4) 0) → t ≡ text_place (get_or ws (i + 2) 0) (get_or ws (i + 3) 0) (get_or ws (i + 4) 0) → ◌≡◌ {A = Place} (record { key = record { start = a; len = l }; value = v; text = t }) (place_at ws i)
place_read ws i a l v t p q e f = rw (p.same, q.same, e, f)

-- ---- `is_short`: the key's length first, and then the text's, where there is one
module _ (ws : List ℕ) (i l : ℕ) (w : Wide (get_or ws (i + 1) 0) l) (k : Bool) (g : k ≡ short_text l) where
  key_told : short_text (get_or ws (i + 1) 0) ≡ k
  key_told = ap short_text (sym w.same) ∙ sym g

  pub long_key : not k ≡ true → false ≡ short_at ws i
  long_key h = rw (key_told, not-true k h)

  module _ (h : not k ≡ false) where
    pub no_long_text : (get_or ws (i + 2) 0 ≡ 1 → ⊥) → true ≡ short_at ws i
    no_long_text n = rw (key_told, not-false k h, ne_eqb (get_or ws (i + 2) 0) 1 n)

    pub text_length : get_or ws (i + 2) 0 ≡ 1 → (m : ℕ) → Wide (get_or ws (i + 4) 0) m → (t : Bool) → t ≡ short_text m → t ≡ short_at ws i
    text_length e m v t f = rw (key_told, not-false k h, eq-eqb (get_or ws (i + 2) 0) 1 e, ← v.same) f
