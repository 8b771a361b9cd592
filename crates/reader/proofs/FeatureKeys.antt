-- What a feature's fields hold: of those that can be read, packed tags and packed geometry must be varints, and the others are good whatever they hold.
use Prim.Native.Nat.{ℕ, ◌+◌, ◌/◌, ◌%◌}
use mathlib.Core.Path.{◌≡◌, refl, sym, ap, ◌∙◌}
use mathlib.Core.Bool.{Bool, true, false, cond, ◌&&◌}
use mathlib.Core.List.{List}
use native.Mathlib.Omega.{arith}
use borrow.Author.Tests.{eqb-true}
use lib.Dec.{leb, eqb}
use lib.ListN.{length, take, drop}
use Rattle.std.specs.Prelude.{Some, None}
use Rattle.messages.specs.declared.key.Kind.{Kind}
use Rattle.messages.specs.declared.key.Kind.TheVariants.{Feature as feature}
use Rattle.messages.specs.declared.key.Holds.TheVariants.{Number as a_number, Numbers as numbers, Unknown as unknown}
use Rattle.messages.specs.declared.key.Body.TheVariants.{Any as any, Varints as varints, Within as inner}
use Rattle.messages.specs.declared.key.Follows.{Follows}
use Rattle.messages.specs.declared.key.Follows.TheVariants.{Wrong as wrong, AVarint as aVarint, Bytes as bytes, ABody as aBody}
use Rattle.messages.specs.declared.field.FieldAt.{FieldAt}
use Rattle.messages.specs.Keys.{content as content_of, max_number, follows}
use Rattle.messages.specs.Fields.{VarintAt, varint_at, from_little, field_from, numbered, bodied, content, keyed, field_at, numbers_from}
use Rattle.messages.specs.Tiles.{is_read, is_content, holds, nested}

-- ---- a field that can be read has a right key
module _ (kind : Kind) (src : List ℕ) (f : FieldAt) where
  no_field : None ≡ Some f → ⊥
  no_field e = let z : ◌≡◌ {A = ℕ} 0 1 = cc in omega arith

  module _ (key at : ℕ) where
    key_made : (value start end : ℕ) → Some (field_from key value start end) ≡ Some f → f.key ≡ key
    key_made value start end e = let g : field_from key value start end ≡ f = cc in sym (ap (λ (x : FieldAt). x.key) g)

    key_numbered : (r : VarintAt) → numbered key at r ≡ Some f → f.key ≡ key
    key_numbered (Some (n, next)) e = key_made n at next e
    key_numbered None e = absurd (no_field e)

    key_fixed : (n : ℕ) (b : Bool) → cond b (Some (field_from key (from_little (take n (drop at src))) at (at + n))) None ≡ Some f → f.key ≡ key
    key_fixed n true e = key_made (from_little (take n (drop at src))) at (at + n) e
    key_fixed n false e = absurd (no_field e)

    key_body : (n start : ℕ) (b : Bool) → cond b (Some (field_from key 0 start (start + n))) None ≡ Some f → f.key ≡ key
    key_body n start true e = key_made 0 start (start + n) e
    key_body n start false e = absurd (no_field e)

    key_bodied : (r : VarintAt) → bodied key src r ≡ Some f → f.key ≡ key
    key_bodied (Some (n, start)) e = key_body n start (leb (start + n) (length src)) e
    key_bodied None e = absurd (no_field e)

    key_content : (c : Follows) → content key at src c ≡ Some f → f.key ≡ key
    unfolding content
    key_content wrong e = absurd (no_field e)
    key_content aVarint e = key_numbered (varint_at at src) e
    key_content (bytes n) e = key_fixed n (leb (at + n) (length src)) e
    key_content (aBody body) e = key_bodied (varint_at at src) e

    right_content : content key at src (follows kind key) ≡ Some f → follows kind f.key ≡ wrong → ⊥
    unfolding content
    right_content e w =
        let k : f.key ≡ key = key_content (follows kind key) e in
        let g : follows kind key ≡ wrong = sym (ap (follows kind) k) ∙ w in
        no_field (rw g at e)

  right_keyed : (r : VarintAt) → keyed kind src r ≡ Some f → follows kind f.key ≡ wrong → ⊥
  right_keyed (Some (key, at)) e w = right_content key at e w
  right_keyed None e w = no_field e

  pub right_key : (at : ℕ) → field_at kind at src ≡ Some f → follows kind f.key ≡ wrong → ⊥
  unfolding field_at
  right_key at e w = right_keyed (varint_at at src) e w

-- ---- nothing is asked of what follows a key, but that it can be read
abbrev Loose : Follows → Type 0
Loose wrong = Unit {0}
Loose aVarint = Unit {0}
Loose (bytes n) = Unit {0}
Loose (aBody any) = Unit {0}
Loose (aBody varints) = ⊥
Loose (aBody (inner kind)) = ⊥

loose_by : (b : Bool) (f g : Follows) → Loose f → Loose g → Loose (cond b f g)
loose_by true f g h k = h
loose_by false f g h k = k

module _ (key : ℕ) (not-tags : key ≡ 18 → ⊥) (not-words : key ≡ 34 → ⊥) where
  loose_number : Loose (content_of a_number (key % 8))
  loose_number = loose_by (eqb (key % 8) 0) aVarint wrong tt tt

  loose_unknown : Loose (content_of unknown (key % 8))
  loose_unknown =
      loose_by (eqb (key % 8) 0) aVarint _ tt
      (loose_by (eqb (key % 8) 1) (bytes 8) _ tt (loose_by (eqb (key % 8) 2) (aBody any) _ tt (loose_by (eqb (key % 8) 5) (bytes 4) wrong tt tt)))

  loose_packed : (b : Bool) → eqb (key % 8) 2 ≡ b → (key % 8 ≡ 2 → ⊥) → Loose (cond b (aBody varints) wrong)
  loose_packed true e h = h (eqb-true (key % 8) 2 e)
  loose_packed false e h = tt

  loose_numbers : (key % 8 ≡ 2 → ⊥) → Loose (content_of numbers (key % 8))
  loose_numbers h = loose_by (eqb (key % 8) 0) aVarint _ tt (loose_packed (eqb (key % 8) 2) refl h)

  loose_knows : (a b c d : Bool) → eqb (key / 8) 2 ≡ b → eqb (key / 8) 4 ≡ d
      → Loose (content_of (cond a a_number (cond b numbers (cond c a_number (cond d numbers unknown)))) (key % 8))
  loose_knows true b c d e g = loose_number
  loose_knows false true c d e g = loose_numbers (λ t. not-tags (let n = eqb-true (key / 8) 2 e in omega arith))
  loose_knows false false true d e g = loose_number
  loose_knows false false false true e g = loose_numbers (λ t. not-words (let n = eqb-true (key / 8) 4 g in omega arith))
  loose_knows false false false false e g = loose_unknown

  loose_follows : Loose (follows feature key)
  unfolding follows
  loose_follows =
      loose_by (leb 1 (key / 8) && leb (key / 8) max_number) _ wrong
      (loose_knows (eqb (key / 8) 1) (eqb (key / 8) 2) (eqb (key / 8) 3) (eqb (key / 8) 4) refl refl) tt

-- ---- what a feature's field holds
module _ (src : List ℕ) (f : FieldAt) where
  loose_content : (c : Follows) → Loose c → (c ≡ wrong → ⊥) → is_content (nested 0) c f.start (take f.end src) ≡ true
  loose_content wrong l h = absurd (h refl)
  loose_content aVarint l h = refl
  loose_content (bytes n) l h = refl
  loose_content (aBody any) l h = refl
  loose_content (aBody varints) l h = absurd l
  loose_content (aBody (inner kind)) l h = absurd l

  pub holds_any : (at : ℕ) → field_at feature at src ≡ Some f → (f.key ≡ 18 → ⊥) → (f.key ≡ 34 → ⊥) → holds (nested 0) feature src f ≡ true
  holds_any at e a b = loose_content (follows feature f.key) (loose_follows f.key a b) (right_key feature src f at e)

  holds_varints : follows feature f.key ≡ aBody varints → holds (nested 0) feature src f ≡ is_read (numbers_from f.start (take f.end src))
  holds_varints g = ap (λ (c : Follows). is_content (nested 0) c f.start (take f.end src)) g

  tags_follow : follows feature 18 ≡ aBody varints
  unfolding follows
  tags_follow = refl

  words_follow : follows feature 34 ≡ aBody varints
  unfolding follows
  words_follow = refl

  pub holds_tags : f.key ≡ 18 → holds (nested 0) feature src f ≡ is_read (numbers_from f.start (take f.end src))
  holds_tags e = holds_varints (ap (follows feature) e ∙ tags_follow)

  pub holds_words : f.key ≡ 34 → holds (nested 0) feature src f ≡ is_read (numbers_from f.start (take f.end src))
  holds_words e = holds_varints (ap (follows feature) e ∙ words_follow)
