-- What is alive can be finished. The bytes are built: a varint is ended by one byte, or by two where one byte would be left over; messages are filled with
-- fields of the number 8, which no message knows.
use Prim.Native.Nat.{ℕ, zero, suc, ◌+◌, ◌*◌, ◌-◌, ◌%◌, ◌/◌, ◌≤◌, ◌<◌}
use mathlib.Core.Path.{◌≡◌, refl, sym, ap, ◌∙◌, subst}
use mathlib.Core.Bool.{Bool, true, false, cond, not, ◌&&◌, ◌||◌, false≢true}
use mathlib.Core.List.{List, [], ◌∷◌, ◌++◌}
use native.Mathlib.Nat.{mul-zero, mul-one}
use native.Mathlib.Omega.{arith}
use borrow.Author.Tests.{ltb-true, leb-true, le-leb, eqb-true, eqb-false, eq-eqb, ne_eqb}
use lib.Dec.{ltb, leb, eqb}
use lib.ListN.{length}
use Rattle.wire.specs.Schema.{varint_type, fixed64_type, delimited_type, fixed32_type}
use Rattle.messages.specs.declared.key.Kind.{Kind}
use Rattle.messages.specs.declared.key.Kind.TheVariants.{Tile as tile, Layer as layer, Feature as feature, Value as value}
use Rattle.messages.specs.declared.key.Body.{Body}
use Rattle.messages.specs.declared.key.Body.TheVariants.{Any as any, Varints as varints, Within as within}
use Rattle.messages.specs.declared.key.Follows.{Follows}
use Rattle.messages.specs.declared.key.Follows.TheVariants.{Wrong as wrong, AVarint as aVarint, Bytes as bytes, ABody as aBody}
use Rattle.messages.specs.declared.key.Holds.TheVariants.{Unknown as unknown}
use Rattle.messages.specs.Tiles.{Bytes}
use Rattle.messages.specs.Keys.{knows, content, max_number, follows}
use Rattle.scan.specs.Grammar.{Varint, Within, VarintsOf, Varints, IsBody, Content, Message, Level}
use Rattle.scan.specs.declared.Phase.{Phase}
use Rattle.scan.specs.declared.Phase.TheVariants.{Field as field, Key as key, Number as number, Lead as lead, Skip as skip, Packed as packed}
use Rattle.scan.specs.declared.Where.TheVariants.{Outside as none, One as one, Two as two}
use Rattle.scan.specs.declared.State.{State}
use Rattle.scan.specs.declared.State.TheVariants.{Lost as lost, At as at}
use Rattle.scan.specs.Automaton.{unit}
use Rattle.scan.specs.Rest.{Packed, Inner, Rest}
use Rattle.scan.specs.Alive.{least, loose, is_type, is_right, least_body, need, slack, is_body, may, fine, roomy, alive, SoundIn, Sound}
use Rattle.scan.proofs.Needs.{unit_some, unit_more, Wants, Typed, least_of, loose_of, follows_typed, type_stays}

-- ---- so many bytes of a kind
pub record Made (n : ℕ) (A : List ℕ → Type 0) : Type 0 where
  pub list : List ℕ
  pub bytes_all : Bytes list
  pub long : length list ≡ n
  pub is : A list

-- ---- a message of every length but 1
spare : (kind : Kind) → follows kind 64 ≡ aVarint
unfolding follows
spare tile = refl
spare layer = refl
spare feature = refl
spare value = refl

module _ (P : Kind → List ℕ → Type 0) (kind : Kind) where
  one_short : (x : List ℕ) → Message P kind x → Message P kind (64 ∷ 0 ∷ x)
  one_short x m = (suc m.0, rw (spare kind) m.1)

  one_long : (x : List ℕ) → Message P kind x → Message P kind (64 ∷ 128 ∷ 0 ∷ x)
  one_long x m = (suc m.0, rw (spare kind) m.1)

  pub message_of : (n : ℕ) → (n ≡ 1 → ⊥) → Made n (Message P kind)
  message_of zero h = record { list = []; bytes_all = tt; long = refl; is = (0, refl) }
  message_of (suc zero) h = absurd (h refl)
  message_of (suc (suc zero)) h = record { list = 64 ∷ 0 ∷ []; bytes_all = (omega arith, (omega arith, tt)); long = refl; is = one_short [] (0, refl) }
  message_of (suc (suc (suc zero))) h = record { list = 64 ∷ 128 ∷ 0 ∷ []; bytes_all = (omega arith, (omega arith, (omega arith, tt))); long = refl; is = one_long [] (0, refl) }
  message_of (suc (suc (suc (suc n)))) h =
      let m = message_of (suc (suc n)) (λ e. omega (arith, e)) in
      record { list = 64 ∷ 0 ∷ m.list; bytes_all = (omega arith, (omega arith, m.bytes_all)); long = omega (arith, m.long); is = one_short m.list m.is }

pub level_of : (d : ℕ) (k : Kind) (n : ℕ) → (n ≡ 1 → ⊥) → Made n (Level (suc d) k)
level_of d k n h = message_of (Level d) k n h

-- ---- any bytes, and a list of varints, of every length
zeros : ℕ → List ℕ
zeros zero = []
zeros (suc n) = 0 ∷ zeros n

zeros_long : (n : ℕ) → length (zeros n) ≡ n
unfolding zeros
zeros_long zero = refl
zeros_long (suc n) = ap suc (zeros_long n)

zeros_bytes : (n : ℕ) → Bytes (zeros n)
unfolding zeros
zeros_bytes zero = tt
zeros_bytes (suc n) = (omega arith, zeros_bytes n)

zeros_varints : (n : ℕ) → VarintsOf n (zeros n)
unfolding zeros
zeros_varints zero = refl
zeros_varints (suc n) = zeros_varints n

zeros_packed : (n i : ℕ) → Packed i (zeros (suc n))
unfolding zeros
zeros_packed n zero = (suc n, zeros_varints n)
zeros_packed n (suc i) = by (9 - suc i)
  where
    by : (more : ℕ) → Varint more (0 ∷ zeros n) (λ w r. Varints r)
    by zero = (n, zeros_varints n)
    by (suc more) = (n, zeros_varints n)

-- ---- one part behind another
pub joined : {A B : List ℕ → Type 0} (n : ℕ) (a b : List ℕ) → length a ≡ n → A a → B b → Within n (a ++ b) A B
joined zero [] b e x y = record { there = omega arith; inside = x; rest = y }
joined zero (c ∷ a) b e x y = absurd (omega (arith, e))
joined (suc n) [] b e x y = absurd (omega (arith, e))
joined {A = A} {B = B} (suc n) (c ∷ a) b e x y =
    let w = joined {A = λ m. A (c ∷ m)} {B = B} n a b (omega (arith, e)) x y in
    record { there = omega (arith, w.there); inside = w.inside; rest = w.rest }

length_both : (a b : List ℕ) → length (a ++ b) ≡ length a + length b
length_both [] b = omega arith
length_both (c ∷ a) b = omega (arith, length_both a b)

pub bytes_both : (a b : List ℕ) → Bytes a → Bytes b → Bytes (a ++ b)
bytes_both [] b h g = g
bytes_both (c ∷ a) b h g = (h.0, bytes_both a b h.1 g)

-- ---- a varint is ended with the digit 0 or 1, by one byte or by two
abbrev pub digit_of : Bool → ℕ
digit_of false = 0
digit_of true = 1

pub ending : Bool → Bool → List ℕ → List ℕ
ending false false x = 0 ∷ x
ending true false x = 1 ∷ x
ending false true x = 128 ∷ 0 ∷ x
ending true true x = 129 ∷ 0 ∷ x

abbrev pub end_long : Bool → ℕ
end_long false = 1
end_long true = 2

ending_long : (d long : Bool) (x : List ℕ) → length (ending d long x) ≡ end_long long + length x
unfolding ending
ending_long false false x = omega arith
ending_long true false x = omega arith
ending_long false true x = omega arith
ending_long true true x = omega arith

ending_bytes : (d long : Bool) (x : List ℕ) → Bytes x → Bytes (ending d long x)
unfolding ending
ending_bytes false false x h = (omega arith, h)
ending_bytes true false x h = (omega arith, h)
ending_bytes false true x h = (omega arith, (omega arith, h))
ending_bytes true true x h = (omega arith, (omega arith, h))

ends_it : (d long : Bool) (more : ℕ) (x : List ℕ) (K : ℕ → List ℕ → Type 0) → (long ≡ true → 0 < more) → K (digit_of d) x → Varint more (ending d long x) K
unfolding ending
ends_it false false zero x K h k = k
ends_it false false (suc more) x K h k = k
ends_it true false zero x K h k = k
ends_it true false (suc more) x K h k = k
ends_it false true zero x K h k = absurd (omega (arith, h refl))
ends_it false true (suc zero) x K h k = k
ends_it false true (suc (suc more)) x K h k = k
ends_it true true zero x K h k = absurd (omega (arith, h refl))
ends_it true true (suc zero) x K h k = k
ends_it true true (suc (suc more)) x K h k = k

made_behind : {A B : List ℕ → Type 0} (n m : ℕ) → Made n A → Made m B → Made (n + m) (λ x. Within n x A B)
made_behind n m a b = record { list = a.list ++ b.list; bytes_all = bytes_both a.list b.list a.bytes_all b.bytes_all; long = length_both a.list b.list ∙ omega (arith, a.long, b.long); is = joined n a.list b.list a.long a.is b.is }

made_as : {A : List ℕ → Type 0} (n m : ℕ) → n ≡ m → Made n A → Made m A
made_as {A} n m e a = subst (λ (k : ℕ). Made k A) e a

made_end : (d long : Bool) (more n : ℕ) (K : ℕ → List ℕ → Type 0) → (long ≡ true → 0 < more) → Made n (K (digit_of d)) → Made (end_long long + n) (λ x. Varint more x K)
made_end d long more n K h a = record { list = ending d long a.list; bytes_all = ending_bytes d long a.list a.bytes_all; long = ending_long d long a.list ∙ ap (λ (m : ℕ). end_long long + m) a.long; is = ends_it d long more a.list K h a.is }

zeros_any : (n : ℕ) → Made n (λ x. Unit {0})
zeros_any n = record { list = zeros n; bytes_all = zeros_bytes n; long = zeros_long n; is = tt }

zeros_list : (n : ℕ) → Made n Varints
zeros_list n = record { list = zeros n; bytes_all = zeros_bytes n; long = zeros_long n; is = (n, zeros_varints n) }

or_false_true : (a b : Bool) → b ≡ false → (a || b) ≡ true → a ≡ true
or_false_true true b e h = refl
or_false_true false b e h = sym e ∙ h

-- ---- a key of one to four bytes can become an unknown number, of the type that it has
knows_far : (kind : Kind) (n : ℕ) → 16 ≤ n → knows kind n ≡ unknown
knows_far tile n h = rw (other 3 (omega arith)) refl
  where
    other : (m : ℕ) → m < 16 → eqb n m ≡ false
    other m g = ne_eqb n m (λ e. omega (arith, e, g, h))
knows_far layer n h = rw (other 1 (omega arith), other 2 (omega arith), other 3 (omega arith), other 4 (omega arith), other 5 (omega arith), other 15 (omega arith)) refl
  where
    other : (m : ℕ) → m < 16 → eqb n m ≡ false
    other m g = ne_eqb n m (λ e. omega (arith, e, g, h))
knows_far feature n h = rw (other 1 (omega arith), other 2 (omega arith), other 3 (omega arith), other 4 (omega arith)) refl
  where
    other : (m : ℕ) → m < 16 → eqb n m ≡ false
    other m g = ne_eqb n m (λ e. omega (arith, e, g, h))
knows_far value n h = rw (other 1 (omega arith), other 2 (omega arith), other 3 (omega arith), other 4 (omega arith), other 5 (omega arith), other 6 (omega arith), other 7 (omega arith)) refl
  where
    other : (m : ℕ) → m < 16 → eqb n m ≡ false
    other m g = ne_eqb n m (λ e. omega (arith, e, g, h))

follows_far : (kind : Kind) (k : ℕ) → 128 ≤ k → k < 4294967296 → follows kind k ≡ content unknown (k % 8)
unfolding follows
follows_far kind k h g = rw (le-leb 1 (k / 8) (omega (arith, h)), le-leb (k / 8) max_number (omega (arith, g)), knows_far kind (k / 8) (omega (arith, h))) refl

unknown_may : (nests : Bool) (type : ℕ) → is_type type ≡ true → may nests (content unknown type) ≡ true
unknown_may nests type h = by (eqb type varint_type) (eqb type fixed64_type) (eqb type delimited_type) (eqb type fixed32_type) h
  where
    by : (a b c d : Bool) → cond b true (cond d true (cond a true c)) ≡ true → may nests (cond a aVarint (cond b (bytes 8) (cond c (aBody any) (cond d (bytes 4) wrong)))) ≡ true
    by true b c d h = refl
    by false true c d h = refl
    by false false true d h = refl
    by false false false true h = refl
    by false false false false h = h

unit_small : (i : ℕ) → i < 5 → unit i ≤ 268435456
unit_small zero h = omega arith
unit_small (suc zero) h = omega arith
unit_small (suc (suc zero)) h = omega arith
unit_small (suc (suc (suc zero))) h = omega arith
unit_small (suc (suc (suc (suc zero)))) h = omega arith
unit_small (suc (suc (suc (suc (suc i))))) h = absurd (omega (arith, h))

may_right : (nests : Bool) (f : Follows) → may nests f ≡ true → is_right f ≡ true
may_right nests wrong h = h
may_right nests aVarint h = refl
may_right nests (bytes n) h = refl
may_right nests (aBody body) h = refl

module _ (nests : Bool) (P : Kind → List ℕ → Type 0) (fill : nests ≡ true → (k : Kind) (n : ℕ) → (n ≡ 1 → ⊥) → Made n (P k)) (kind : Kind) where
  -- ---- a body, then the message's end
  body_of : (body : Body) (n : ℕ) → is_body nests body ≡ true → ((k : Kind) → body ≡ within k → n ≡ 1 → ⊥) → Made n (IsBody P body)
  body_of any n h g = zeros_any n
  body_of varints n h g = zeros_list n
  body_of (within k) n h g = fill h k n (g k refl)

  -- what follows a key, to the end of a message
  content_of : (f : Follows) (room : ℕ) → may nests f ≡ true → least_of f ≤ room → (room ≡ suc (least_of f) → loose_of f ≡ true) → Made room (λ x. Content P f x (Message P kind))
  content_of wrong room h l g = absurd (false≢true h)
  content_of aVarint room h l g = by (eqb room 2) refl
    where
      by : (b : Bool) → eqb room 2 ≡ b → Made room (λ x. Varint 9 x (λ n r. Message P kind r))
      by true e = made_as 2 room (sym (eqb-true room 2 e)) (made_end false true 9 0 (λ n r. Message P kind r) (λ z. omega arith) (message_of P kind 0 (λ z. omega (arith, z))))
      by false e = made_as (1 + (room - 1)) room (omega (arith, l)) (made_end false false 9 (room - 1) (λ n r. Message P kind r) (λ z. absurd (false≢true z)) (message_of P kind (room - 1) (λ z. eqb-false room 2 e (omega (arith, z)))))
  content_of (bytes n) room h l g =
      made_as (n + (room - n)) room (omega (arith, l)) (made_behind n (room - n) (zeros_any n) (message_of P kind (room - n) (λ z. false≢true (g (omega (arith, z, l))))))
  content_of (aBody body) room h l g = by (eqb room 2) refl
    where
      none_yet : Made 0 (IsBody P body)
      none_yet = body_of body 0 h (λ k e z. omega (arith, z))

      rest : (m : ℕ) → (m ≡ 1 → ⊥) → Made m (λ r. Within 0 r (IsBody P body) (Message P kind))
      rest m z = made_as (0 + m) m (omega arith) (made_behind 0 m none_yet (message_of P kind m z))

      by : (b : Bool) → eqb room 2 ≡ b → Made room (λ x. Varint 9 x (λ n r. Within n r (IsBody P body) (Message P kind)))
      by true e = made_as 2 room (sym (eqb-true room 2 e)) (made_end false true 9 0 (λ n r. Within n r (IsBody P body) (Message P kind)) (λ z. omega arith) (rest 0 (λ z. omega (arith, z))))
      by false e = made_as (1 + (room - 1)) room (omega (arith, l)) (made_end false false 9 (room - 1) (λ n r. Within n r (IsBody P body) (Message P kind)) (λ z. absurd (false≢true z)) (rest (room - 1) (λ z. eqb-false room 2 e (omega (arith, z)))))

  -- ---- the phases
  number_of : (i room : ℕ) → 1 ≤ room → (room ≡ 2 → ltb i 9 ≡ true) → Made room (Inner P kind (number i))
  number_of i room l g = by (eqb room 2) refl
    where
      by : (b : Bool) → eqb room 2 ≡ b → Made room (Inner P kind (number i))
      by true e = made_as 2 room (sym (eqb-true room 2 e)) (made_end false true (9 - i) 0 (λ n r. Message P kind r) (λ z. omega (arith, ltb-true i 9 (g (eqb-true room 2 e)))) (message_of P kind 0 (λ z. omega (arith, z))))
      by false e = made_as (1 + (room - 1)) room (omega (arith, l)) (made_end false false (9 - i) (room - 1) (λ n r. Message P kind r) (λ z. absurd (false≢true z)) (message_of P kind (room - 1) (λ z. eqb-false room 2 e (omega (arith, z)))))

  run_of : (n room : ℕ) (A : List ℕ → Type 0) → Made (suc n) A → suc n ≤ room → (room ≡ suc (suc n) → false ≡ true) → Made room (λ x. Within (suc n) x A (Message P kind))
  run_of n room A a l g =
      made_as (suc n + (room - suc n)) room (omega (arith, l)) (made_behind (suc n) (room - suc n) a (message_of P kind (room - suc n) (λ z. false≢true (g (omega (arith, z, l))))))

  module _ (body : Body) (i v room : ℕ) (right : is_body nests body ≡ true) where
    lead_with : (d : Bool) → v + unit i * digit_of d ≡ least_body body i v → ((k : Kind) → body ≡ within k → least_body body i v ≡ 1 → ⊥) → suc (least_body body i v) ≤ room → (room ≡ suc (suc (least_body body i v)) → ltb i 9 ≡ true) → Made room (Inner P kind (lead body i v))
    lead_with d e o l g = by (eqb room (suc (suc (least_body body i v)))) refl
      where
        L : ℕ
        L = v + unit i * digit_of d

        K : ℕ → List ℕ → Type 0
        K = λ n r. Within (v + unit i * n) r (IsBody P body) (Message P kind)

        inner : Made L (IsBody P body)
        inner = body_of body L right (λ k f z. o k f (omega (arith, z, e)))

        by : (b : Bool) → eqb room (suc (suc (least_body body i v))) ≡ b → Made room (Inner P kind (lead body i v))
        by true q =
            made_as (2 + (L + 0)) room (omega (arith, e, eqb-true room (suc (suc (least_body body i v))) q))
            (made_end d true (9 - i) (L + 0) K (λ z. omega (arith, ltb-true i 9 (g (eqb-true room (suc (suc (least_body body i v))) q)))) (made_behind L 0 inner (message_of P kind 0 (λ z. omega (arith, z)))))
        by false q =
            made_as (1 + (L + (room - 1 - L))) room (omega (arith, e, l))
            (made_end d false (9 - i) (L + (room - 1 - L)) K (λ z. absurd (false≢true z)) (made_behind L (room - 1 - L) inner (message_of P kind (room - 1 - L) (λ z. eqb-false room (suc (suc (least_body body i v))) q (omega (arith, z, e, l))))))

  lead_of : (body : Body) (i v room : ℕ) → is_body nests body ≡ true → suc (least_body body i v) ≤ room → (room ≡ suc (suc (least_body body i v)) → ltb i 9 ≡ true) → Made room (Inner P kind (lead body i v))
  lead_of any i v room r l g = lead_with any i v room r false (omega (arith, mul-zero (unit i))) (λ k f. absurd (not_within f)) l g
    where
      not_within : {k : Kind} → any ≡ within k → ⊥
      not_within f = let z : ◌≡◌ {A = ℕ} 0 1 = cc in omega arith
  lead_of varints i v room r l g = lead_with varints i v room r false (omega (arith, mul-zero (unit i))) (λ k f. absurd (not_within f)) l g
    where
      not_within : {k : Kind} → varints ≡ within k → ⊥
      not_within f = let z : ◌≡◌ {A = ℕ} 0 1 = cc in omega arith
  lead_of (within k) i v room r l g = by (eqb v 1) refl
    where
      by : (b : Bool) → eqb v 1 ≡ b → Made room (Inner P kind (lead (within k) i v))
      by true e = lead_with (within k) i v room r true (rw e (omega (arith, mul-one (unit i)))) (λ j f z. omega (arith, rw e at z, eqb-true v 1 e, unit_some i)) l g
      by false e = lead_with (within k) i v room r false (rw e (omega (arith, mul-zero (unit i)))) (λ j f z. eqb-false v 1 e (rw e at z)) l g

  key_of : (i v room : ℕ) → 0 < i → v < unit i → Wants nests kind (key i v) room → Made room (Inner P kind (key i v))
  key_of i v room p q w = by (ltb i 5) refl
    where
      K : ℕ → List ℕ → Type 0
      K = λ n r. Content P (follows kind (v + unit i * n)) r (Message P kind)

      with_digit : (d : Bool) → may nests (follows kind (v + unit i * digit_of d)) ≡ true → Made room (Inner P kind (key i v))
      with_digit d m = choose (eqb room (suc (suc (least (v % 8))))) refl (loose (v % 8)) refl
        where
          f : Follows
          f = follows kind (v + unit i * digit_of d)

          t : Typed f ((v + unit i * digit_of d) % 8)
          t = follows_typed kind (v + unit i * digit_of d) (may_right nests f m)

          same : least ((v + unit i * digit_of d) % 8) ≡ least (v % 8)
          same = ap least (type_stays i v (digit_of d) p)

          alike : loose ((v + unit i * digit_of d) % 8) ≡ loose (v % 8)
          alike = ap loose (type_stays i v (digit_of d) p)

          short : (room ≡ suc (suc (least (v % 8))) → loose (v % 8) ≡ true) → Made room (Inner P kind (key i v))
          short g =
              made_as (1 + (room - 1)) room (omega (arith, w.enough))
              (made_end d false (9 - i) (room - 1) K (λ z. absurd (false≢true z)) (content_of f (room - 1) m (omega (arith, w.enough, t.fewest, same)) (λ z. t.longer ∙ alike ∙ g (omega (arith, z, t.fewest, same, w.enough)))))

          choose : (a : Bool) → eqb room (suc (suc (least (v % 8)))) ≡ a → (b : Bool) → loose (v % 8) ≡ b → Made room (Inner P kind (key i v))
          choose true e true g = short (λ z. g)
          choose true e false g =
              let i9 : ltb i 9 ≡ true = or_false_true (ltb i 9) (loose (v % 8)) g (w.gap (eqb-true room (suc (suc (least (v % 8)))) e)) in
              made_as (2 + least (v % 8)) room (omega (arith, eqb-true room (suc (suc (least (v % 8)))) e))
              (made_end d true (9 - i) (least (v % 8)) K (λ z. omega (arith, ltb-true i 9 i9)) (content_of f (least (v % 8)) m (omega (arith, t.fewest, same)) (λ z. absurd (omega (arith, z, t.fewest, same)))))
          choose false e b g = short (λ z. absurd (eqb-false room (suc (suc (least (v % 8)))) e z))

      by : (b : Bool) → ltb i 5 ≡ b → Made room (Inner P kind (key i v))
      by true e =
          let k : v + unit i * 1 ≡ v + unit i = omega (arith, mul-one (unit i)) in
          let far : follows kind (v + unit i * 1) ≡ content unknown ((v + unit i * 1) % 8) = follows_far kind (v + unit i * 1) (omega (arith, k, unit_more i p)) (omega (arith, k, q, unit_small i (ltb-true i 5 e))) in
          let type : is_type ((v + unit i * 1) % 8) ≡ true = ap is_type (type_stays i v 1 p) ∙ (rw e at w.right) in
          with_digit true (ap (may nests) far ∙ unknown_may nests ((v + unit i * 1) % 8) type)
      by false e =
          let k : v + unit i * 0 ≡ v = omega (arith, mul-zero (unit i)) in
          with_digit false (ap (λ (m : ℕ). may nests (follows kind m)) k ∙ (rw e at w.right))

  pub filled : (phase : Phase) (room : ℕ) → SoundIn phase → Wants nests kind phase room → Made room (Inner P kind phase)
  filled field room s w = message_of P kind room (λ z. false≢true (w.gap z))
  filled (key i v) room s w = key_of i v room s.0 s.1 w
  filled (number i) room s w = number_of i room w.enough w.gap
  filled (lead body i v) room s w = lead_of body i v room w.right w.enough w.gap
  filled (skip n) room s w = run_of n room (λ m. Unit {0}) (zeros_any (suc n)) w.enough w.gap
  filled (packed n i) room s w = run_of n room (Packed i) (record { list = zeros (suc n); bytes_all = zeros_bytes (suc n); long = zeros_long (suc n); is = zeros_packed n i }) w.enough w.gap

-- ---- the tests taken apart
and_left : (a b : Bool) → (a && b) ≡ true → a ≡ true
and_left true b h = refl
and_left false b h = h

and_right : (a b : Bool) → (a && b) ≡ true → b ≡ true
and_right true b h = h
and_right false b h = absurd (false≢true h)

roomy_enough : (n : ℕ) (s : Bool) (room : ℕ) → roomy n s room ≡ true → n ≤ room
unfolding roomy
roomy_enough n s room h = leb-true n room (and_left (leb n room) (s || not (eqb room (suc n))) h)

roomy_gap : (n : ℕ) (s : Bool) (room : ℕ) → roomy n s room ≡ true → room ≡ suc n → s ≡ true
unfolding roomy
roomy_gap n s room h e = by s (and_right (leb n room) (s || not (eqb room (suc n))) h)
  where
    by : (s : Bool) → (s || not (eqb room (suc n))) ≡ true → s ≡ true
    by true g = refl
    by false g = sym (ap not (eq-eqb room (suc n) e)) ∙ g

not_eqb : (m : ℕ) → not (eqb m 1) ≡ true → m ≡ 1 → ⊥
not_eqb m h e = false≢true (sym (ap not (eq-eqb m 1 e)) ∙ h)

module _ (nests : Bool) (k : Kind) (phase : Phase) (room : ℕ) (h : (fine nests k phase && roomy (need phase) (slack phase) room) ≡ true) where
  room_wants : Wants nests k phase room
  room_wants =
      let r = and_right (fine nests k phase) (roomy (need phase) (slack phase) room) h in
      record { right = and_left (fine nests k phase) (roomy (need phase) (slack phase) room) h; enough = roomy_enough (need phase) (slack phase) room r; gap = roomy_gap (need phase) (slack phase) room r }

-- ---- the state
pub record Finish (s : State) : Type 0 where
  pub more : List ℕ
  pub more_bytes : Bytes more
  pub is : Rest s more

pub alive_finished : (s : State) → Sound s → alive s ≡ true → Finish s
alive_finished lost s h = absurd (false≢true h)
alive_finished (at none phase) s h =
    let m = filled true (Level 2) (λ e k n g. level_of 1 k n g) tile phase (need phase) s (record { right = h; enough = omega arith; gap = λ z. absurd (omega (arith, z)) }) in
    record { more = m.list; more_bytes = m.bytes_all; is = m.is }
alive_finished (at (one k n) phase) s h =
    let m = filled true (Level 1) (λ e l j g. level_of 0 l j g) k phase n s (room_wants true k phase n h) in
    record { more = m.list ++ []; more_bytes = bytes_both m.list [] m.bytes_all tt; is = joined n m.list [] m.long m.is (0, refl) }
alive_finished (at (two k n l j) phase) s h =
    let a = and_left (fine false k phase && roomy (need phase) (slack phase) n) (not (eqb j 1)) h in
    let b = and_right (fine false k phase && roomy (need phase) (slack phase) n) (not (eqb j 1)) h in
    let m = filled false (Level 0) (λ e. absurd (false≢true e)) k phase n s (room_wants false k phase n a) in
    let o = level_of 1 l j (not_eqb j b) in
    record { more = m.list ++ (o.list ++ []); more_bytes = bytes_both m.list (o.list ++ []) m.bytes_all (bytes_both o.list [] o.bytes_all tt); is = joined n m.list (o.list ++ []) m.long m.is (joined j o.list [] o.long o.is (0, refl)) }
