-- What can be finished is alive: no field has one byte, so that what is left of a message is never one byte, and a varint has at most ten.
use Prim.Native.Nat.{ℕ, zero, suc, ◌+◌, ◌*◌, ◌-◌, ◌%◌, ◌/◌, ◌≤◌, ◌<◌}
use mathlib.Core.Path.{◌≡◌, refl, sym, ap, ◌∙◌, subst}
use mathlib.Core.Logic.{◌⊎◌, inl, inr}
use mathlib.Core.Bool.{Bool, true, false, cond, not, ◌&&◌, ◌||◌, false≢true}
use mathlib.Core.List.{List}
use native.Mathlib.Nat.{mul-zero, mul-one, mul-suc, mul_assoc, mul_comm}
use native.Mathlib.Omega.{arith}
use borrow.Author.Tests.{ltb-false, leb-true, leb-false, le-leb, eqb-true, ne_eqb}
use lib.Dec.{ltb, leb, eqb}
use lib.ListN.{length, take, drop, length-take, length-drop}
use Rattle.wire.specs.Reading.{VarintRead, good, cut, over, read_of}
use Rattle.wire.proofs.Readback.{read}
use Rattle.wire.specs.Schema.{varint_type, fixed64_type, delimited_type, fixed32_type}
use Rattle.messages.specs.declared.key.Kind.{Kind}
use Rattle.messages.specs.declared.key.Kind.TheVariants.{Tile as tile}
use Rattle.messages.specs.declared.key.Body.{Body}
use Rattle.messages.specs.declared.key.Body.TheVariants.{Any as any, Varints as varints, Within as within}
use Rattle.messages.specs.declared.key.Follows.{Follows}
use Rattle.messages.specs.declared.key.Follows.TheVariants.{Wrong as wrong, AVarint as aVarint, Bytes as bytes, ABody as aBody}
use Rattle.messages.specs.declared.key.Holds.{Holds}
use Rattle.messages.specs.declared.key.Holds.TheVariants.{Number as a_number, Four as four, Eight as eight, Text as text, Numbers as numbers, Message as message, Unknown as unknown}
use Rattle.messages.specs.Keys.{knows, only, content, max_number, follows}
use Rattle.scan.specs.Grammar.{Then, Varint, Within, IsBody, Content, FieldsOf, Message, Level}
use Rattle.scan.specs.declared.Phase.{Phase}
use Rattle.scan.specs.declared.Phase.TheVariants.{Field as field, Key as key, Number as number, Lead as lead, Skip as skip, Packed as packed}
use Rattle.scan.specs.declared.Where.TheVariants.{Outside as none, One as one, Two as two}
use Rattle.scan.specs.declared.State.{State}
use Rattle.scan.specs.declared.State.TheVariants.{Lost as lost, At as at}
use Rattle.scan.specs.Automaton.{unit}
use Rattle.scan.specs.Rest.{Inner, Rest}
use Rattle.scan.specs.Alive.{least, loose, is_type, is_right, least_body, need, slack, is_body, may, fine, roomy, alive, SoundIn, Sound}

-- ---- a varint has a byte at least, and no more than it may have
pub record Front (more : ℕ) (bs : List ℕ) (K : ℕ → List ℕ → Type 0) : Type 0 where
  pub n : ℕ
  pub x : List ℕ
  pub c : ℕ
  pub holds : K n x
  pub count : length bs ≡ c + length x
  pub some_bytes : 1 ≤ c
  pub few : c ≤ suc more

pub front : (more : ℕ) (bs : List ℕ) (K : ℕ → List ℕ → Type 0) → Varint more bs K → Front more bs K
front more bs K t = by (read_of 2 more bs) refl t
  where
    by : (r : VarintRead) → read_of 2 more bs ≡ r → Then r bs K → Front more bs K
    by (good n k) e t =
        let i = read 2 (omega arith) more bs n k e in
        record { n = n; x = drop k bs; c = k; holds = t; count = omega (arith, i.there, length-drop k bs); some_bytes = i.some_bytes; few = i.few }
    by cut e t = absurd t
    by (over p) e t = absurd t

-- ---- what follows a key goes by its type
abbrev pub least_of : Follows → ℕ
least_of wrong = 0
least_of aVarint = 1
least_of (bytes n) = n
least_of (aBody body) = 1

abbrev pub loose_of : Follows → Bool
loose_of wrong = false
loose_of aVarint = true
loose_of (bytes n) = false
loose_of (aBody body) = true

pub record Typed (f : Follows) (type : ℕ) : Type 0 where
  pub right : is_type type ≡ true
  pub fewest : least_of f ≡ least type
  pub longer : loose_of f ≡ loose type

by_type : {f : Follows} (right type : ℕ) → Typed f right → type ≡ right → Typed f type
by_type {f} right type t e = subst (λ (x : ℕ). Typed f x) (sym e) t

never_wrong : {X : Type 0} → is_right wrong ≡ true → X
never_wrong r = absurd (false≢true r)

-- one type, and another where it is not that
typed_or : (right type : ℕ) (f g : Follows) → Typed f right → (is_right g ≡ true → Typed g type) → is_right (cond (eqb type right) f g) ≡ true → Typed (cond (eqb type right) f g) type
typed_or right type f g t h r = by (eqb type right) refl r
  where
    by : (b : Bool) → eqb type right ≡ b → is_right (cond b f g) ≡ true → Typed (cond b f g) type
    by true e r = by_type right type t (eqb-true type right e)
    by false e r = h r

varint_typed : Typed aVarint varint_type
varint_typed = record { right = refl; fewest = refl; longer = refl }

body_typed : (body : Body) → Typed (aBody body) delimited_type
body_typed body = record { right = refl; fewest = refl; longer = refl }

four_typed : Typed (bytes 4) fixed32_type
four_typed = record { right = refl; fewest = refl; longer = refl }

eight_typed : Typed (bytes 8) fixed64_type
eight_typed = record { right = refl; fewest = refl; longer = refl }

content_typed : (h : Holds) (type : ℕ) → is_right (content h type) ≡ true → Typed (content h type) type
content_typed a_number type r = typed_or varint_type type aVarint wrong varint_typed never_wrong r
content_typed four type r = typed_or fixed32_type type (bytes 4) wrong four_typed never_wrong r
content_typed eight type r = typed_or fixed64_type type (bytes 8) wrong eight_typed never_wrong r
content_typed text type r = typed_or delimited_type type (aBody any) wrong (body_typed any) never_wrong r
content_typed numbers type r = typed_or varint_type type aVarint (only delimited_type type (aBody varints)) varint_typed (typed_or delimited_type type (aBody varints) wrong (body_typed varints) never_wrong) r
content_typed (message kind) type r = typed_or delimited_type type (aBody (within kind)) wrong (body_typed (within kind)) never_wrong r
content_typed unknown type r =
    typed_or varint_type type aVarint _ varint_typed
    (typed_or fixed64_type type (bytes 8) _ eight_typed
    (typed_or delimited_type type (aBody any) _ (body_typed any)
    (typed_or fixed32_type type (bytes 4) wrong four_typed never_wrong))) r

pub follows_typed : (kind : Kind) (k : ℕ) → is_right (follows kind k) ≡ true → Typed (follows kind k) (k % 8)
unfolding follows
follows_typed kind k r = by (leb 1 (k / 8) && leb (k / 8) max_number) r
  where
    by : (b : Bool) → is_right (cond b (content (knows kind (k / 8)) (k % 8)) wrong) ≡ true → Typed (cond b (content (knows kind (k / 8)) (k % 8)) wrong) (k % 8)
    by true r = content_typed (knows kind (k / 8)) (k % 8) r
    by false r = never_wrong r

-- a key that is right is below 2^32
pub follows_small : (kind : Kind) (k : ℕ) → is_right (follows kind k) ≡ true → k < 4294967296
unfolding follows
follows_small kind k r = by (leb 1 (k / 8)) (leb (k / 8) max_number) refl r
  where
    by : (a b : Bool) → leb (k / 8) max_number ≡ b → is_right (cond (a && b) (content (knows kind (k / 8)) (k % 8)) wrong) ≡ true → k < 4294967296
    by true true e r = omega (arith, leb-true (k / 8) max_number e)
    by true false e r = never_wrong r
    by false b e r = never_wrong r

-- ---- no field has one byte
module _ (P : Kind → List ℕ → Type 0) where
  pub content_right : (f : Follows) (x : List ℕ) (K : List ℕ → Type 0) → Content P f x K → is_right f ≡ true
  content_right wrong x K t = absurd t
  content_right aVarint x K t = refl
  content_right (bytes n) x K t = refl
  content_right (aBody body) x K t = refl

  within_long : {n : ℕ} {x : List ℕ} {A B : List ℕ → Type 0} → (w : Within n x A B) → length x ≡ n + length (drop n x)
  within_long {n} {x} w = omega (arith, w.there, length-drop n x)

  -- what follows a key, where K is never of one byte
  pub content_long : (f : Follows) (x : List ℕ) (K : List ℕ → Type 0) → ((y : List ℕ) → K y → length y ≡ 1 → ⊥) → Content P f x K → (least_of f ≤ length x) × (length x ≡ suc (least_of f) → loose_of f ≡ true)
  content_long wrong x K h t = absurd t
  content_long aVarint x K h t =
      let o = front 9 x (λ n r. K r) t in
      (omega (arith, o.count, o.some_bytes), λ e. refl)
  content_long (bytes n) x K h t = (t.there, λ e. absurd (h (drop n x) t.rest (omega (arith, within_long t, e))))
  content_long (aBody body) x K h t =
      let o = front 9 x (λ n r. Within n r (IsBody P body) K) t in
      (omega (arith, o.count, o.some_bytes), λ e. refl)

  least_some : (type : ℕ) → 1 ≤ least type
  least_some type = by (eqb type fixed64_type) (eqb type fixed32_type)
    where
      by : (a b : Bool) → 1 ≤ cond a 8 (cond b 4 1)
      by true b = omega arith
      by false true = omega arith
      by false false = omega arith

  module _ (kind : Kind) where
    fields_two : (count : ℕ) (bs : List ℕ) → FieldsOf P kind count bs → length bs ≡ 1 → ⊥
    fields_two zero bs e l = omega (arith, ap length e, l)
    fields_two (suc count) bs t l =
        let o = front 9 bs (λ k r. Content P (follows kind k) r (FieldsOf P kind count)) t in
        let r = content_right (follows kind o.n) o.x (FieldsOf P kind count) o.holds in
        let d = follows_typed kind o.n r in
        let c = content_long (follows kind o.n) o.x (FieldsOf P kind count) (fields_two count) o.holds in
        omega (arith, l, o.count, o.some_bytes, c.0, d.fewest, least_some (o.n % 8))

    pub message_two : (bs : List ℕ) → Message P kind bs → length bs ≡ 1 → ⊥
    message_two bs m l = fields_two m.0 bs m.1 l

-- ---- numbers
pub unit_some : (i : ℕ) → 1 ≤ unit i
unit_some zero = omega arith
unit_some (suc i) = omega (arith, unit_some i)

pub unit_more : (i : ℕ) → 0 < i → 128 ≤ unit i
unit_more zero h = absurd (omega (arith, h))
unit_more (suc i) h = omega (arith, unit_some i)

pub unit_big : (i : ℕ) → 5 ≤ i → 34359738368 ≤ unit i
unit_big zero h = absurd (omega (arith, h))
unit_big (suc i) h = by (λ g. unit_big i g) (leb 5 i) refl
  where
    by : (5 ≤ i → 34359738368 ≤ unit i) → (t : Bool) → leb 5 i ≡ t → 34359738368 ≤ unit i * 128
    by f true e = omega (arith, f (leb-true 5 i e))
    by f false e = let z : 4 ≡ i = omega (arith, h, leb-false 5 i e) in subst (λ (x : ℕ). 34359738368 ≤ unit x * 128) z (omega arith)

-- a byte more than the first leaves the type as it is
pub type_stays : (i v n : ℕ) → 0 < i → (v + unit i * n) % 8 ≡ v % 8
type_stays zero v n h = absurd (omega (arith, h))
type_stays (suc i) v n h = omega (arith, mul_assoc (unit i) 128 n, mul_comm 128 n, sym (mul_assoc (unit i) n 128))

-- ---- what a phase wants of its message's room
pub record Wants (nests : Bool) (kind : Kind) (phase : Phase) (room : ℕ) : Type 0 where
  pub right : fine nests kind phase ≡ true
  pub enough : need phase ≤ room
  pub gap : room ≡ suc (need phase) → slack phase ≡ true

module _ (nests : Bool) (P : Kind → List ℕ → Type 0) (two_bytes : (k : Kind) (x : List ℕ) → P k x → length x ≡ 1 → ⊥) (nested : (k : Kind) (x : List ℕ) → P k x → nests ≡ true) (kind : Kind) where
  body_right : (body : Body) (x : List ℕ) → IsBody P body x → is_body nests body ≡ true
  body_right any x t = refl
  body_right varints x t = refl
  body_right (within k) x t = nested k x t

  content_may : (f : Follows) (x : List ℕ) (K : List ℕ → Type 0) → Content P f x K → may nests f ≡ true
  content_may wrong x K t = absurd t
  content_may aVarint x K t = refl
  content_may (bytes n) x K t = refl
  content_may (aBody body) x K t = let o = front 9 x (λ n r. Within n r (IsBody P body) K) t in body_right body (take o.n o.x) o.holds.inside

  key_wants : (i v : ℕ) (bs : List ℕ) → 0 < i → Inner P kind (key i v) bs → Wants nests kind (key i v) (length bs)
  key_wants i v bs h t = record { right = fine_key (ltb i 5) refl; enough = omega (arith, o.count, o.some_bytes, l.0, d.fewest, same); gap = λ e. gap e (ltb i 9) refl }
    where
      o : Front (9 - i) bs (λ n r. Content P (follows kind (v + unit i * n)) r (Message P kind))
      o = front (9 - i) bs (λ n r. Content P (follows kind (v + unit i * n)) r (Message P kind)) t

      k : ℕ
      k = v + unit i * o.n

      r : is_right (follows kind k) ≡ true
      r = content_right P (follows kind k) o.x (Message P kind) o.holds

      d : Typed (follows kind k) (k % 8)
      d = follows_typed kind k r

      l : (least_of (follows kind k) ≤ length o.x) × (length o.x ≡ suc (least_of (follows kind k)) → loose_of (follows kind k) ≡ true)
      l = content_long P (follows kind k) o.x (Message P kind) (message_two P kind) o.holds

      same : least (k % 8) ≡ least (v % 8)
      same = ap least (type_stays i v o.n h)

      none_more : 5 ≤ i → (n : ℕ) → o.n ≡ n → k ≡ v
      none_more g zero e = omega (arith, ap (λ (m : ℕ). unit i * m) e, mul-zero (unit i))
      none_more g (suc n) e = absurd (omega (arith, ap (λ (m : ℕ). unit i * m) e, mul-suc (unit i) n, unit_big i g, follows_small kind k r))

      fine_key : (b : Bool) → ltb i 5 ≡ b → cond b (is_type (v % 8)) (may nests (follows kind v)) ≡ true
      fine_key true e = sym (ap is_type (type_stays i v o.n h)) ∙ d.right
      fine_key false e = sym (ap (λ (m : ℕ). may nests (follows kind m)) (none_more (ltb-false i 5 e) o.n refl)) ∙ content_may (follows kind k) o.x (Message P kind) o.holds

      gap : length bs ≡ suc (suc (least (v % 8))) → (b : Bool) → ltb i 9 ≡ b → (b || loose (v % 8)) ≡ true
      gap e true g = refl
      gap e false g =
          let q : length o.x ≡ suc (least_of (follows kind k)) = omega (arith, e, o.count, o.some_bytes, o.few, ltb-false i 9 g, l.0, d.fewest, same) in
          sym (ap loose (type_stays i v o.n h)) ∙ sym d.longer ∙ l.1 q

  number_wants : (i : ℕ) (bs : List ℕ) → Inner P kind (number i) bs → Wants nests kind (number i) (length bs)
  number_wants i bs t = record { right = refl; enough = omega (arith, o.count, o.some_bytes); gap = λ e. gap e (ltb i 9) refl }
    where
      o : Front (9 - i) bs (λ n r. Message P kind r)
      o = front (9 - i) bs (λ n r. Message P kind r) t

      gap : length bs ≡ 2 → (b : Bool) → ltb i 9 ≡ b → b ≡ true
      gap e true g = refl
      gap e false g = absurd (message_two P kind o.x o.holds (omega (arith, e, o.count, o.some_bytes, o.few, ltb-false i 9 g)))

  -- a number v + unit × n, n not 0, is another by a whole unit
  pub apart : (u n : ℕ) → (n ≡ 0) ⊎ ((n ≡ 1) ⊎ (2 * u ≤ u * n))
  apart u zero = inl refl
  apart u (suc zero) = inr (inl refl)
  apart u (suc (suc n)) = inr (inr (omega (arith, mul-suc u (suc n), mul-suc u n)))

  pub record Body-long (body : Body) (i v n : ℕ) : Type 0 where
    pub enough : least_body body i v ≤ v + unit i * n
    pub gap : 0 < i → v + unit i * n ≡ suc (least_body body i v) → ⊥

  plain_long : (i v n : ℕ) → (v ≤ v + unit i * n) × (0 < i → v + unit i * n ≡ suc v → ⊥)
  plain_long i v n = (omega arith, λ h e. by h e (apart (unit i) n))
    where
      by : 0 < i → v + unit i * n ≡ suc v → ((n ≡ 0) ⊎ ((n ≡ 1) ⊎ (2 * unit i ≤ unit i * n))) → ⊥
      by h e (inl z) = omega (arith, e, ap (λ (m : ℕ). unit i * m) z, mul-zero (unit i))
      by h e (inr (inl z)) = omega (arith, e, ap (λ (m : ℕ). unit i * m) z, mul-one (unit i), unit_more i h)
      by h e (inr (inr z)) = omega (arith, e, z, unit_some i)

  body_long : (body : Body) (i v n : ℕ) (x : List ℕ) → v + unit i * n ≡ length x → IsBody P body x → Body-long body i v n
  body_long any i v n x l t = record { enough = (plain_long i v n).0; gap = (plain_long i v n).1 }
  body_long varints i v n x l t = record { enough = (plain_long i v n).0; gap = (plain_long i v n).1 }
  body_long (within k) i v n x l t = by (eqb v 1) refl
    where
      one_more : v ≡ 1 → ((n ≡ 0) ⊎ ((n ≡ 1) ⊎ (2 * unit i ≤ unit i * n))) → (v + unit i ≤ v + unit i * n) × (0 < i → v + unit i * n ≡ suc (v + unit i) → ⊥)
      one_more e (inl z) = absurd (two_bytes k x t (omega (arith, l, e, ap (λ (m : ℕ). unit i * m) z, mul-zero (unit i))))
      one_more e (inr (inl z)) =
          let q : unit i * n ≡ unit i = ap (λ (m : ℕ). unit i * m) z ∙ mul-one (unit i) in
          (omega (arith, q), λ h f. omega (arith, q, f))
      one_more e (inr (inr z)) = (omega (arith, z), λ h f. omega (arith, z, f, unit_more i h))

      by : (b : Bool) → eqb v 1 ≡ b → Body-long (within k) i v n
      by true e = let w = one_more (eqb-true v 1 e) (apart (unit i) n) in record { enough = rw e w.0; gap = rw e w.1 }
      by false e = record { enough = rw e (plain_long i v n).0; gap = rw e (plain_long i v n).1 }

  lead_wants : (body : Body) (i v : ℕ) (bs : List ℕ) → Inner P kind (lead body i v) bs → Wants nests kind (lead body i v) (length bs)
  lead_wants body i v bs t = record { right = body_right body (take L o.x) w.inside; enough = omega (arith, o.count, o.some_bytes, w.there, g.enough); gap = λ e. gap e (ltb i 9) refl }
    where
      o : Front (9 - i) bs (λ n r. Within (v + unit i * n) r (IsBody P body) (Message P kind))
      o = front (9 - i) bs (λ n r. Within (v + unit i * n) r (IsBody P body) (Message P kind)) t

      L : ℕ
      L = v + unit i * o.n

      w : Within L o.x (IsBody P body) (Message P kind)
      w = o.holds

      g : Body-long body i v o.n
      g = body_long body i v o.n (take L o.x) (omega (arith, w.there, length-take L o.x)) w.inside

      gap : length bs ≡ suc (suc (least_body body i v)) → (b : Bool) → ltb i 9 ≡ b → b ≡ true
      gap e true f = refl
      gap e false f =
          let y : length (drop L o.x) ≡ 1 → ⊥ = message_two P kind (drop L o.x) w.rest in
          absurd (by (length (drop L o.x)) refl y)
        where
          by : (m : ℕ) → length (drop L o.x) ≡ m → (length (drop L o.x) ≡ 1 → ⊥) → ⊥
          by zero q y = g.gap (omega (arith, ltb-false i 9 f)) (omega (arith, e, q, o.count, o.some_bytes, o.few, ltb-false i 9 f, length-drop L o.x, w.there))
          by (suc m) q y = y (omega (arith, e, q, o.count, o.some_bytes, o.few, ltb-false i 9 f, length-drop L o.x, w.there, g.enough))

  some_left : (n : ℕ) (bs : List ℕ) {A : List ℕ → Type 0} → Within (suc n) bs A (Message P kind) → length bs ≡ suc (suc n) → ⊥
  some_left n bs w e = message_two P kind (drop (suc n) bs) w.rest (omega (arith, w.there, e, length-drop (suc n) bs))

  pub wants : (phase : Phase) (bs : List ℕ) → SoundIn phase → Inner P kind phase bs → Wants nests kind phase (length bs)
  wants field bs s t = record { right = refl; enough = omega arith; gap = λ e. absurd (message_two P kind bs t e) }
  wants (key i v) bs s t = key_wants i v bs s.0 t
  wants (number i) bs s t = number_wants i bs t
  wants (lead body i v) bs s t = lead_wants body i v bs t
  wants (skip n) bs s t = record { right = refl; enough = t.there; gap = λ e. absurd (some_left n bs t e) }
  wants (packed n i) bs s t = record { right = refl; enough = t.there; gap = λ e. absurd (some_left n bs t e) }

-- ---- a message of some level never has one byte
pub level_two : (d : ℕ) (k : Kind) (x : List ℕ) → Level d k x → length x ≡ 1 → ⊥
level_two zero k x t l = t
level_two (suc d) k x t l = message_two (Level d) k x t l

roomy_yes : (n : ℕ) (s : Bool) (room : ℕ) → n ≤ room → (room ≡ suc n → s ≡ true) → roomy n s room ≡ true
unfolding roomy
roomy_yes n s room h g = rw (le-leb n room h) (by (eqb room (suc n)) refl s g)
  where
    by : (b : Bool) → eqb room (suc n) ≡ b → (s : Bool) → (room ≡ suc n → s ≡ true) → (s || not b) ≡ true
    by b e true g = refl
    by true e false g = absurd (false≢true (g (eqb-true room (suc n) e)))
    by false e false g = refl

both : {a b : Bool} → a ≡ true → b ≡ true → (a && b) ≡ true
both h g = rw (h, g) refl

not_one : (m : ℕ) → (m ≡ 1 → ⊥) → not (eqb m 1) ≡ true
not_one m h = rw (ne_eqb m 1 h) refl

front_length : {n : ℕ} {q : List ℕ} {A B : List ℕ → Type 0} → Within n q A B → length (take n q) ≡ n
front_length {n} {q} w = omega (arith, w.there, length-take n q)

-- ---- the state
pub finished_alive : (s : State) (q : List ℕ) → Sound s → Rest s q → alive s ≡ true
finished_alive lost q h r = absurd r
finished_alive (at none phase) q h r = (wants true (Level 2) (level_two 2) (λ k x t. refl) tile phase q h r).right
finished_alive (at (one k n) phase) q h r =
    let w = rw (front_length r) at (wants true (Level 1) (level_two 1) (λ l x t. refl) k phase (take n q) h r.inside) in
    both w.right (roomy_yes (need phase) (slack phase) n w.enough w.gap)
finished_alive (at (two k n l m) phase) q h r =
    let w = rw (front_length r) at (wants false (Level 0) (level_two 0) (λ j x t. absurd t) k phase (take n q) h r.inside) in
    both (both w.right (roomy_yes (need phase) (slack phase) n w.enough w.gap))
    (not_one m (λ e. level_two 2 l (take m (drop n q)) r.rest.inside (front_length r.rest ∙ e)))
