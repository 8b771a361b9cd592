-- What a key is followed by: a law for each way of the code.
use Prim.Native.Nat.{ℕ, ◌/◌, ◌%◌, ◌≤◌, ◌<◌}
use mathlib.Core.Path.{◌≡◌, refl}
use borrow.Author.Tests.{le-leb, lt-leb, eq-eqb, ne_eqb}
use Rattle.messages.specs.declared.key.Kind.{Kind}
use Rattle.messages.specs.declared.key.Kind.TheVariants.{Tile, Layer, Feature, Value}
use Rattle.messages.specs.declared.key.Holds.{Holds}
use Rattle.messages.specs.declared.key.Holds.TheVariants.{Number, Four, Eight, Text, Numbers, Message, Unknown}
use Rattle.messages.specs.declared.key.Body.TheVariants.{Any, Varints, Within}
use Rattle.messages.specs.declared.key.Follows.{Follows}
use Rattle.messages.specs.declared.key.Follows.TheVariants.{Wrong, AVarint, Bytes, ABody}
use Rattle.messages.specs.Keys.{knows, only, content, max_number, follows}

module _ (k : Kind) (n : ℕ) (r : Holds) where
  pub knows_tile : k ≡ Tile → r ≡ knows Tile n → r ≡ knows k n
  knows_tile e h = rw e h

  pub knows_layer : k ≡ Layer → r ≡ knows Layer n → r ≡ knows k n
  knows_layer e h = rw e h

  pub knows_feature : k ≡ Feature → r ≡ knows Feature n → r ≡ knows k n
  knows_feature e h = rw e h

  pub knows_value : k ≡ Value → r ≡ knows Value n → r ≡ knows k n
  knows_value e h = rw e h

module _ (h : Holds) (t : ℕ) (r : Follows) where
  pub content_number : h ≡ Number → r ≡ only 0 t AVarint → r ≡ content h t
  content_number e g = rw e g

  pub content_four : h ≡ Four → r ≡ only 5 t (Bytes 4) → r ≡ content h t
  content_four e g = rw e g

  pub content_eight : h ≡ Eight → r ≡ only 1 t (Bytes 8) → r ≡ content h t
  content_eight e g = rw e g

  pub content_text : h ≡ Text → r ≡ only 2 t (ABody Any) → r ≡ content h t
  content_text e g = rw e g

  pub content_numbers : h ≡ Numbers → r ≡ content Numbers t → r ≡ content h t
  content_numbers e g = rw e g

  pub content_message : (k : Kind) → h ≡ Message k → r ≡ only 2 t (ABody (Within k)) → r ≡ content h t
  content_message k e g = rw e g

  pub content_unknown : h ≡ Unknown → r ≡ content Unknown t → r ≡ content h t
  content_unknown e g = rw e g

pub numbers_single : (t : ℕ) → t ≡ 0 → AVarint ≡ content Numbers t
numbers_single t e = rw (eq-eqb t 0 e) refl

pub numbers_packed : (t : ℕ) (r : Follows) → (t ≡ 0 → ⊥) → r ≡ only 2 t (ABody Varints) → r ≡ content Numbers t
numbers_packed t r e g = rw (ne_eqb t 0 e) g

module _ (kind : Kind) (key : ℕ) where
  pub number_nought : key / 8 < 1 → Wrong ≡ follows kind key
  unfolding follows
  number_nought h = rw (lt-leb 1 (key / 8) h) refl

  pub number_large : 1 ≤ key / 8 → 536870911 < key / 8 → Wrong ≡ follows kind key
  unfolding follows
  number_large h g = rw (le-leb 1 (key / 8) h, lt-leb (key / 8) max_number g) refl

  pub number_right : (x : Holds) (r : Follows) → 1 ≤ key / 8 → key / 8 ≤ 536870911 → x ≡ knows kind (key / 8) → r ≡ content x (key % 8) → r ≡ follows kind key
  unfolding follows
  number_right x r h g e f = rw (le-leb 1 (key / 8) h, le-leb (key / 8) max_number g) (rw e at f)
