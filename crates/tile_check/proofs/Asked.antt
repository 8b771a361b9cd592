-- Which keys are followed by more than any bytes: the law `asks` goes through MVT's fields once, and the others say what that means for what a field holds.
--     value_others feature_others layer_others tile_others    the other right keys are followed by what cannot be wrong
--     tags_ask geometry_asks features_ask values_ask layers_ask    those keys ask for a list or a message
use Prim.Native.Nat.{ℕ, ◌/◌, ◌%◌}
use mathlib.Core.Path.{◌≡◌, refl}
use mathlib.Core.Bool.{Bool, true, false, cond, ◌&&◌}
use mathlib.Core.List.{List}
use mathlib.Core.Logic.{◌⊎◌, inl, inr, ⊎_elim}
use native.Mathlib.Omega.{arith}
use borrow.Author.Tests.{eqb-true}
use lib.Dec.{leb, eqb}
use Rattle.messages.specs.declared.key.Kind.{Kind}
use Rattle.messages.specs.declared.key.Kind.TheVariants.{Tile as tile, Layer as layer, Feature as feature, Value as value}
use Rattle.messages.specs.declared.key.Holds.{Holds}
use Rattle.messages.specs.declared.key.Holds.TheVariants.{Number as number, Four as four, Eight as eight, Text as text, Numbers as numbers, Message as message, Unknown as unknown}
use Rattle.messages.specs.declared.key.Body.TheVariants.{Any as any, Varints as varints, Within as within}
use Rattle.messages.specs.declared.key.Follows.{Follows}
use Rattle.messages.specs.declared.key.Follows.TheVariants.{Wrong as wrong, AVarint as aVarint, Bytes as bytes, ABody as aBody}
use Rattle.messages.specs.Keys.{knows, only, content, max_number, follows}
use Rattle.messages.specs.Fields.{numbers_from}
use Rattle.messages.specs.Tiles.{is_read, is_content}

-- the keys of lists of numbers, and of messages of a kind
abbrev Lists : Kind → ℕ → Type 0
Lists tile key = ⊥
Lists layer key = ⊥
Lists feature key = (key ≡ 18) ⊎ (key ≡ 34)
Lists value key = ⊥

abbrev InTile : Kind → ℕ → Type 0
InTile tile key = ⊥
InTile layer key = key ≡ 26
InTile feature key = ⊥
InTile value key = ⊥

abbrev InLayer : Kind → ℕ → Type 0
InLayer tile key = ⊥
InLayer layer key = ⊥
InLayer feature key = key ≡ 18
InLayer value key = key ≡ 34

abbrev Inside : Kind → Kind → ℕ → Type 0
Inside tile inner key = InTile inner key
Inside layer inner key = InLayer inner key
Inside feature inner key = ⊥
Inside value inner key = ⊥

abbrev Asks : Kind → ℕ → Follows → Type 0
Asks kind key wrong = Unit {0}
Asks kind key aVarint = Unit {0}
Asks kind key (bytes n) = Unit {0}
Asks kind key (aBody any) = Unit {0}
Asks kind key (aBody varints) = Lists kind key
Asks kind key (aBody (within inner)) = Inside kind inner key

-- ---- field by field
by_test : (Q : Follows → Type 0) (b : Bool) (f g : Follows) → (b ≡ true → Q f) → Q g → Q (cond b f g)
by_test Q true f g h k = h refl
by_test Q false f g h k = k

by_number : (Q : Holds → Type 0) (b : Bool) (x y : Holds) → (b ≡ true → Q x) → Q y → Q (cond b x y)
by_number Q true x y h k = h refl
by_number Q false x y h k = k

module _ (kind : Kind) (key : ℕ) where
  abbrev Typed : Holds → Type 0
  Typed h = Asks kind key (content h (key % 8))

  typed : (right : ℕ) (f : Follows) → (key % 8 ≡ right → Asks kind key f) → Asks kind key (only right (key % 8) f)
  typed right f h = by_test (Asks kind key) (eqb (key % 8) right) f wrong (λ e. h (eqb-true (key % 8) right e)) tt

  a_number : Typed number
  a_number = typed 0 aVarint (λ e. tt)

  a_text : Typed text
  a_text = typed 2 (aBody any) (λ e. tt)

  fours : Typed four
  fours = typed 5 (bytes 4) (λ e. tt)

  eights : Typed eight
  eights = typed 1 (bytes 8) (λ e. tt)

  a_list : (key % 8 ≡ 2 → Lists kind key) → Typed numbers
  a_list h = by_test (Asks kind key) (eqb (key % 8) 0) aVarint _ (λ e. tt) (typed 2 (aBody varints) h)

  a_message : (inner : Kind) → (key % 8 ≡ 2 → Inside kind inner key) → Typed (message inner)
  a_message inner h = typed 2 (aBody (within inner)) h

  none_known : Typed unknown
  none_known =
      by_test (Asks kind key) (eqb (key % 8) 0) aVarint _ (λ e. tt)
      (by_test (Asks kind key) (eqb (key % 8) 1) (bytes 8) _ (λ e. tt)
      (by_test (Asks kind key) (eqb (key % 8) 2) (aBody any) _ (λ e. tt)
      (by_test (Asks kind key) (eqb (key % 8) 5) (bytes 4) wrong (λ e. tt) tt)))

  -- a field's number, and what its type is then
  numbered : (m : ℕ) (x y : Holds) → (key / 8 ≡ m → Typed x) → Typed y → Typed (cond (eqb (key / 8) m) x y)
  numbered m x y h k = by_number Typed (eqb (key / 8) m) x y (λ e. h (eqb-true (key / 8) m e)) k

module _ (key : ℕ) where
  known : (kind : Kind) → Asks kind key (content (knows kind (key / 8)) (key % 8))
  known tile = numbered tile key 3 (message layer) unknown (λ n. a_message tile key layer (λ t. omega arith)) (none_known tile key)
  known layer =
      numbered layer key 1 text _ (λ n. a_text layer key)
      (numbered layer key 2 (message feature) _ (λ n. a_message layer key feature (λ t. omega arith))
      (numbered layer key 3 text _ (λ n. a_text layer key)
      (numbered layer key 4 (message value) _ (λ n. a_message layer key value (λ t. omega arith))
      (numbered layer key 5 number _ (λ n. a_number layer key)
      (numbered layer key 15 number unknown (λ n. a_number layer key) (none_known layer key))))))
  known feature =
      numbered feature key 1 number _ (λ n. a_number feature key)
      (numbered feature key 2 numbers _ (λ n. a_list feature key (λ t. inl (omega arith)))
      (numbered feature key 3 number _ (λ n. a_number feature key)
      (numbered feature key 4 numbers unknown (λ n. a_list feature key (λ t. inr (omega arith))) (none_known feature key))))
  known value =
      numbered value key 1 text _ (λ n. a_text value key)
      (numbered value key 2 four _ (λ n. fours value key)
      (numbered value key 3 eight _ (λ n. eights value key)
      (numbered value key 4 number _ (λ n. a_number value key)
      (numbered value key 5 number _ (λ n. a_number value key)
      (numbered value key 6 number _ (λ n. a_number value key)
      (numbered value key 7 number unknown (λ n. a_number value key) (none_known value key)))))))

  asks : (kind : Kind) → Asks kind key (follows kind key)
  unfolding follows
  asks kind = by_test (Asks kind key) (leb 1 (key / 8) && leb (key / 8) max_number) (content (knows kind (key / 8)) (key % 8)) wrong (λ e. known kind) tt

-- ---- what it means for what follows a right key
module _ (P : Kind → ℕ → List ℕ → Bool) (at : ℕ) (src : List ℕ) where
  others : (kind : Kind) (key : ℕ) (f : Follows) → Asks kind key f → (Lists kind key → ⊥) → ((inner : Kind) → Inside kind inner key → ⊥) → (f ≡ wrong → ⊥) → is_content P f at src ≡ true
  others kind key wrong a l i h = absurd (h refl)
  others kind key aVarint a l i h = refl
  others kind key (bytes n) a l i h = refl
  others kind key (aBody any) a l i h = refl
  others kind key (aBody varints) a l i h = absurd (l a)
  others kind key (aBody (within inner)) a l i h = absurd (i inner a)

  module _ (key : ℕ) where
    pub value_others : (follows value key ≡ wrong → ⊥) → is_content P (follows value key) at src ≡ true
    value_others h = others value key (follows value key) (asks key value) (λ a. a) (λ inner a. a) h

    pub feature_others : (key ≡ 18 → ⊥) → (key ≡ 34 → ⊥) → (follows feature key ≡ wrong → ⊥) → is_content P (follows feature key) at src ≡ true
    feature_others t g h = others feature key (follows feature key) (asks key feature) (⊎_elim t g) (λ inner a. a) h

    pub layer_others : (key ≡ 18 → ⊥) → (key ≡ 34 → ⊥) → (follows layer key ≡ wrong → ⊥) → is_content P (follows layer key) at src ≡ true
    layer_others f v h = others layer key (follows layer key) (asks key layer) (λ a. a) by h
      where
        by : (inner : Kind) → InLayer inner key → ⊥
        by tile a = a
        by layer a = a
        by feature a = f a
        by value a = v a

    pub tile_others : (key ≡ 26 → ⊥) → (follows tile key ≡ wrong → ⊥) → is_content P (follows tile key) at src ≡ true
    tile_others l h = others tile key (follows tile key) (asks key tile) (λ a. a) by h
      where
        by : (inner : Kind) → InTile inner key → ⊥
        by tile a = a
        by layer a = l a
        by feature a = a
        by value a = a

    -- ---- and for those keys
    pub tags_ask : key ≡ 18 → is_content P (follows feature key) at src ≡ is_read (numbers_from at src)
    unfolding follows
    tags_ask e = rw e refl

    pub geometry_asks : key ≡ 34 → is_content P (follows feature key) at src ≡ is_read (numbers_from at src)
    unfolding follows
    geometry_asks e = rw e refl

    pub features_ask : key ≡ 18 → is_content P (follows layer key) at src ≡ P feature at src
    unfolding follows
    features_ask e = rw e refl

    pub values_ask : key ≡ 34 → is_content P (follows layer key) at src ≡ P value at src
    unfolding follows
    values_ask e = rw e refl

    pub layers_ask : key ≡ 26 → is_content P (follows tile key) at src ≡ P layer at src
    unfolding follows
    layers_ask e = rw e refl
