-- What follows a field's key, where it stands: one law for each way of the code.
use Prim.Native.Nat.{ℕ, ◌+◌, ◌*◌, ◌-◌, ◌/◌, ◌%◌, ◌≤◌, ◌<◌}
use mathlib.Core.Path.{◌≡◌, refl, sym, ap, ◌∙◌}
use mathlib.Core.Bool.{Bool, true, false, cond, ◌&&◌}
use mathlib.Core.List.{List, [], ◌∷◌}
use native.Mathlib.Omega.{arith}
use borrow.Author.Tests.{le-leb, lt-leb}
use lib.Dec.{leb, eqb}
use lib.ListN.{length, get_or, take, drop, length-drop}
use lib.Seq.{drop-drop}
use Rattle.std.specs.Int.{from_le_bytes}
use mir.Syntax.{w32}
use Rattle.promise.proofs.Steps.{next}
use Rattle.messages.specs.declared.key.Kind.{Kind}
use Rattle.messages.specs.declared.key.Holds.{Holds}
use Rattle.messages.specs.declared.key.Holds.TheVariants.{Number as a_number, Four as aFour, Eight as anEight, Text as text, Numbers as numbers, Message as message, Unknown as unknown}
use Rattle.messages.specs.declared.key.Body.TheVariants.{Any as any, Varints as varints, Within as within}
use Rattle.messages.specs.declared.key.Body.{Body}
use Rattle.messages.specs.declared.key.Follows.{Follows}
use Rattle.messages.specs.declared.key.Follows.TheVariants.{Wrong as wrong, AVarint as aVarint, Bytes as bytes, ABody as aBody}
use Rattle.messages.specs.declared.field.FieldAt.{FieldAt}
use Rattle.messages.specs.Keys.{knows, only, content as content_of, max_number, follows}
use Rattle.messages.specs.Fields.{varint_at, from_little, field_from, numbered, fixed, bodied, content, keyed, field_at}
use Rattle.messages.specs.Asking.{FourOrEight, four, eight, Short}
use Rattle.messages.proofs.Fields.{varint_ends}
use Rattle.std.specs.Prelude.{Some, None}
use Rattle.messages.specs.Fields.{VarintAt, NextField}

-- ---- bytes are four or eight
by_type : (b : Bool) (f g : Follows) → Short f → Short g → Short (cond b f g)
by_type true f g h k = h
by_type false f g h k = k

content_short : (h : Holds) (type : ℕ) → Short (content_of h type)
content_short a_number type = by_type (eqb type 0) aVarint wrong tt tt
content_short aFour type = by_type (eqb type 5) (bytes 4) wrong (four refl) tt
content_short anEight type = by_type (eqb type 1) (bytes 8) wrong (eight refl) tt
content_short text type = by_type (eqb type 2) (aBody any) wrong tt tt
content_short numbers type = by_type (eqb type 0) aVarint (only 2 type (aBody varints)) tt (by_type (eqb type 2) (aBody varints) wrong tt tt)
content_short (message kind) type = by_type (eqb type 2) (aBody (within kind)) wrong tt tt
content_short unknown type = by_type (eqb type 0) aVarint _ tt (by_type (eqb type 1) (bytes 8) _ (eight refl) (by_type (eqb type 2) (aBody any) _ tt (by_type (eqb type 5) (bytes 4) wrong (four refl) tt)))

pub follows_short : (kind : Kind) (key : ℕ) → Short (follows kind key)
unfolding follows
follows_short kind key = by_type (leb 1 (key / 8) && leb (key / 8) max_number) (content_of (knows kind (key / 8)) (key % 8)) wrong (content_short (knows kind (key / 8)) (key % 8)) tt

is_eight : {n : ℕ} → FourOrEight n → (n ≡ 4 → ⊥) → n ≡ 8
is_eight (four e) h = absurd (h e)
is_eight (eight e) h = e

module _ {n : ℕ} (f : FourOrEight n) (h : n ≡ 4 → ⊥) (at : ℕ) (src : List ℕ) (l : at + n ≤ length src) where
  pub eight_first : at + 4 ≤ length src
  eight_first = let e = is_eight f h in omega arith

  pub eight_second : at + 4 + 4 ≤ length src
  eight_second = let e = is_eight f h in omega arith

-- ---- bytes, least significant first
module _ (src : List ℕ) (at : ℕ) where
  pub take_four : at + 4 ≤ length src → take 4 (drop at src) ≡ get_or src at 0 ∷ get_or src (at + 1) 0 ∷ get_or src (at + 2) 0 ∷ get_or src (at + 3) 0 ∷ []
  take_four h =
      rw (
        next src at (at + 1) (omega arith) (omega arith),
        next src (at + 1) (at + 2) (omega arith) (omega arith),
        next src (at + 2) (at + 3) (omega arith) (omega arith),
        next src (at + 3) (at + 4) (omega arith) (omega arith),
      )
      refl

  pub four_is : (r : ℕ) → at + 4 ≤ length src → r ≡ from_le_bytes w32 (get_or src at 0 ∷ get_or src (at + 1) 0 ∷ get_or src (at + 2) 0 ∷ get_or src (at + 3) 0 ∷ []) → r ≡ from_little (take 4 (drop at src))
  four_is r h e = rw (take_four h) (omega (arith, e))

-- eight are four and four behind them
split : (bs : List ℕ) → 8 ≤ length bs → from_little (take 8 bs) ≡ from_little (take 4 bs) + 4294967296 * from_little (take 4 (drop 4 bs))
split [] l = absurd (omega arith)
split (a ∷ []) l = absurd (omega arith)
split (a ∷ b ∷ []) l = absurd (omega arith)
split (a ∷ b ∷ c ∷ []) l = absurd (omega arith)
split (a ∷ b ∷ c ∷ d ∷ bs) l = omega arith

module _ (src : List ℕ) (at : ℕ) where
  pub four_little : (n r : ℕ) → n ≡ 4 → r ≡ from_little (take 4 (drop at src)) → r ≡ from_little (take n (drop at src))
  four_little n r e v = rw e v

  pub eight_little : (n r s : ℕ) → FourOrEight n → (n ≡ 4 → ⊥) → at + n ≤ length src → r ≡ from_little (take 4 (drop at src)) → s ≡ from_little (take 4 (drop (at + 4) src))
      → r + 4294967296 * s ≡ from_little (take n (drop at src))
  eight_little n r s f h l v w =
      let e : n ≡ 8 = is_eight f h in
      let d : 8 ≤ length (drop at src) = omega (arith, length-drop at src) in
      let q : drop 4 (drop at src) ≡ drop (at + 4) src = drop-drop 4 at src in
      rw e (omega (arith, split (drop at src) d, v, w, ap (λ (x : List ℕ). from_little (take 4 x)) q))

  -- ---- a field of so many bytes
  module _ (key n : ℕ) (h : at ≤ length src) where
    pub fixed_past : length src - at < n → None ≡ fixed key n at src
    fixed_past l = rw (lt-leb (at + n) (length src) (omega arith)) refl

    pub fixed_is : (r : ℕ) → n ≤ length src - at → r ≡ from_little (take n (drop at src)) → Some (field_from key r at (at + n)) ≡ fixed key n at src
    fixed_is r l e = rw (le-leb (at + n) (length src) (omega arith), e) refl

  -- ---- a number, or a length and a body
  module _ (key : ℕ) (r : VarintAt) (g : r ≡ varint_at at src) where
    pub numbered_not : r ≡ None → None ≡ numbered key at (varint_at at src)
    numbered_not e = rw (← g, e) refl

    pub bodied_not : r ≡ None → None ≡ bodied key src (varint_at at src)
    bodied_not e = rw (← g, e) refl

    module _ (n start : ℕ) (e : r ≡ Some (n, start)) where
      pub numbered_is : Some (field_from key n at start) ≡ numbered key at (varint_at at src)
      numbered_is = rw (← g, e) refl

      pub begins_inside : start ≤ length src
      begins_inside = (varint_ends (sym g ∙ e)).inside

      pub bodied_past : length src - start < n → None ≡ bodied key src (varint_at at src)
      bodied_past l = let i = begins_inside in rw (← g, e, lt-leb (start + n) (length src) (omega arith)) refl

      pub bodied_is : n ≤ length src - start → Some (field_from key 0 start (start + n)) ≡ bodied key src (varint_at at src)
      bodied_is l = let i = begins_inside in rw (← g, e, le-leb (start + n) (length src) (omega arith)) refl

-- ---- by what follows the key
module _ (key at : ℕ) (src : List ℕ) (f : Follows) where
  pub content_bytes : (n : ℕ) → f ≡ bytes n → Short f → FourOrEight n
  content_bytes n e s = rw e at s

  pub content_wrong : f ≡ wrong → None ≡ content key at src f
  unfolding content
  content_wrong e = rw e refl

  module _ (r : NextField) where
    pub content_varint : f ≡ aVarint → r ≡ numbered key at (varint_at at src) → r ≡ content key at src f
    unfolding content
    content_varint e h = rw e h

    pub content_fixed : (n : ℕ) → f ≡ bytes n → r ≡ fixed key n at src → r ≡ content key at src f
    unfolding content
    content_fixed n e h = rw e h

    pub content_body : (body : Body) → f ≡ aBody body → r ≡ bodied key src (varint_at at src) → r ≡ content key at src f
    unfolding content
    content_body body e h = rw e h

-- ---- a field
module _ (kind : Kind) (at : ℕ) (src : List ℕ) (v : VarintAt) (g : v ≡ varint_at at src) where
  pub field_no_key : v ≡ None → None ≡ field_at kind at src
  unfolding field_at
  field_no_key e = rw (← g, e) refl

  module _ (key start : ℕ) (e : v ≡ Some (key, start)) (f : Follows) (h : f ≡ follows kind key) where
    pub field_short : Short f
    field_short = rw h (follows_short kind key)

    pub field_inside : start ≤ length src
    field_inside = (varint_ends (sym g ∙ e)).inside

    pub field_is : (r : NextField) → r ≡ content key start src f → r ≡ field_at kind at src
    unfolding field_at
    field_is r i = rw (← g, e, ← h) i

-- ---- a field that was read has a right key
module _ (key at : ℕ) (src : List ℕ) (f : FieldAt) where
  no_field : {X : Type 0} → None ≡ Some f → X
  no_field e = absurd (let z : ◌≡◌ {A = ℕ} 0 1 = cc in omega arith)

  numbered_key : (v : VarintAt) → numbered key at v ≡ Some f → f.key ≡ key
  numbered_key (Some (n, end)) e = let m : field_from key n at end ≡ f = cc in sym (ap (λ (g : FieldAt). g.key) m)
  numbered_key None e = no_field e

  inside_key : (b : Bool) (value start end : ℕ) → cond b (Some (field_from key value start end)) None ≡ Some f → f.key ≡ key
  inside_key true value start end e = let m : field_from key value start end ≡ f = cc in sym (ap (λ (g : FieldAt). g.key) m)
  inside_key false value start end e = no_field e

  bodied_key : (v : VarintAt) → bodied key src v ≡ Some f → f.key ≡ key
  bodied_key (Some (n, start)) e = inside_key (leb (start + n) (length src)) 0 start (start + n) e
  bodied_key None e = no_field e

  content_key : (c : Follows) → content key at src c ≡ Some f → f.key ≡ key
  unfolding content
  content_key wrong e = no_field e
  content_key aVarint e = numbered_key (varint_at at src) e
  content_key (bytes n) e = inside_key (leb (at + n) (length src)) (from_little (take n (drop at src))) at (at + n) e
  content_key (aBody body) e = bodied_key (varint_at at src) e

  content_right : content key at src wrong ≡ Some f → ⊥
  unfolding content
  content_right e = no_field e

pub field_right : (kind : Kind) (at : ℕ) (src : List ℕ) (f : FieldAt) → field_at kind at src ≡ Some f → follows kind f.key ≡ wrong → ⊥
unfolding field_at
field_right kind at src f e w = by (varint_at at src) e
  where
    by : (v : VarintAt) → keyed kind src v ≡ Some f → ⊥
    by (Some (key, start)) h =
        let k : follows kind key ≡ wrong = rw (content_key key start src f (follows kind key) h) at w in
        content_right key start src f (rw k at h)
    by None h = no_field 0 at src f h
