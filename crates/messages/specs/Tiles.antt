-- Request (i): a good tile, what can become one, and the place of a fault.
use Rattle.std.specs.Prelude.{ℕ, zero, suc, ◌≤◌, ◌<◌, ◌≡◌, Bool, true, false, cond, List, [], ◌∷◌, ◌++◌, length, take}
use Rattle.std.proofs.Math.Option.{Option, none, some}
use Rattle.messages.specs.declared.key.Kind.{Kind}
use Rattle.messages.specs.declared.key.Kind.TheVariants.{Tile as tile}
use Rattle.messages.specs.declared.key.Body.{Body}
use Rattle.messages.specs.declared.key.Body.TheVariants.{Any as any, Varints as varints, Within as within}
use Rattle.messages.specs.declared.key.Follows.{Follows}
use Rattle.messages.specs.declared.key.Follows.TheVariants.{Wrong as wrong, AVarint as aVarint, Bytes as bytes, ABody as aBody}
use Rattle.messages.specs.declared.field.FieldAt.{FieldAt}
use Rattle.messages.specs.Keys.{follows}
use Rattle.messages.specs.Fields.{fields_from, numbers_from}

abbrev pub is_read : {A : Type 0} → Option A → Bool
is_read none = false
is_read (some x) = true

-- ---- a message: all its fields can be read, and each body is what its field asks for; P says which bytes, from a place to their end, are a message of a kind
module _ (P : Kind → ℕ → List ℕ → Bool) where
  abbrev pub is_body : Body → ℕ → List ℕ → Bool
  is_body any at src = true
  is_body varints at src = is_read (numbers_from at src)
  is_body (within kind) at src = P kind at src

  abbrev pub is_content : Follows → ℕ → List ℕ → Bool
  is_content wrong at src = false
  is_content aVarint at src = true
  is_content (bytes n) at src = true
  is_content (aBody body) at src = is_body body at src

  abbrev pub holds : Kind → List ℕ → FieldAt → Bool
  holds kind src f = is_content (follows kind f.key) f.start (take f.end src)

  abbrev pub all_hold : Kind → List ℕ → List FieldAt → Bool
  all_hold kind src [] = true
  all_hold kind src (f ∷ fs) = cond (holds kind src f) (all_hold kind src fs) false

  abbrev pub if_read : Kind → List ℕ → Option (List FieldAt) → Bool
  if_read kind src none = false
  if_read kind src (some fs) = all_hold kind src fs

  abbrev pub is_message : Kind → ℕ → List ℕ → Bool
  is_message kind at src = if_read kind src (fields_from kind at src)

-- messages one inside the other, so many deep
unfoldable pub nested : ℕ → Kind → ℕ → List ℕ → Bool
nested zero kind at src = false
nested (suc depth) kind at src = is_message (nested depth) kind at src

-- a tile holds layers, and those features and values: three deep
unfoldable pub is_good : List ℕ → Bool
is_good src = nested 3 tile 0 src

-- ---- what can become a good tile
abbrev pub Bytes : List ℕ → Type 0
Bytes [] = Unit {0}
Bytes (b ∷ bs) = (b < 256) × Bytes bs

pub record Viable (p : List ℕ) : Type 0 where
  pub more : List ℕ
  pub more_bytes : Bytes more
  pub good : is_good (p ++ more) ≡ true

-- "A fault's place is the first byte after which no continuation could be a good tile; a tile that only ends too early has its length as the place": the
-- byte's index from 0
pub record Fault (src : List ℕ) (place : ℕ) : Type 0 where
  pub not_good : is_good src ≡ true → ⊥
  pub there : place ≤ length src
  pub before : Viable (take place src)
  pub after : place < length src → Viable (take (suc place) src) → ⊥

-- a tile is good, or has a fault at a place
pub data Verdict : Type 0 where
  good : Verdict
  fault : ℕ → Verdict

abbrev pub Judges : List ℕ → Verdict → Type 0
Judges src good = is_good src ≡ true
Judges src (fault place) = Fault src place

-- an answer that goes by the tile's verdict. There is one for all bytes (`check_judges` of scan), and only one (`one_verdict`)
pub record Answers {A : Type 0} (src : List ℕ) (answer : Verdict → A) (r : A) : Type 0 where
  pub verdict : Verdict
  pub judged : Judges src verdict
  pub is : r ≡ answer verdict
