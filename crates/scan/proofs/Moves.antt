-- One message: a byte in front of what finishes a phase is a move.
use Prim.Native.Nat.{ℕ, zero, suc, ◌+◌, ◌*◌, ◌-◌}
use mathlib.Core.Path.{◌≡◌, refl, ap}
use mathlib.Core.Logic.{◌↔◌}
use mathlib.Core.List.{List, [], ◌∷◌}
use native.Mathlib.Omega.{arith}
use lib.ListN.{length}
use Rattle.wire.specs.Reading.{read_of}
use Rattle.messages.specs.declared.key.Kind.{Kind}
use Rattle.messages.specs.declared.key.Body.{Body}
use Rattle.messages.specs.declared.key.Body.TheVariants.{Any as any, Varints as varints, Within as within}
use Rattle.messages.specs.declared.key.Follows.{Follows}
use Rattle.messages.specs.declared.key.Follows.TheVariants.{Wrong as wrong, AVarint as aVarint, Bytes as bytes, ABody as aBody}
use Rattle.messages.specs.Keys.{follows}
use Rattle.scan.specs.Grammar.{Varint, Within, VarintsOf, Varints, IsBody, Content, FieldsOf, Message}
use Rattle.scan.specs.declared.Digit.{Digit}
use Rattle.scan.specs.declared.Digit.TheVariants.{Bad as bad, More as more, Ends as ends}
use Rattle.scan.specs.declared.Phase.{Phase}
use Rattle.scan.specs.declared.Phase.TheVariants.{Field as field, Key as key, Number as number, Lead as lead, Skip as skip, Packed as packed}
use Rattle.scan.specs.Automaton.{unit, digit, passing, packing, following, begun, in_key, in_number, in_lead, in_packed, move}
use Rattle.scan.specs.Rest.{Digits, Packed, Inner, After}
use Rattle.scan.proofs.Grammar.{then_map, then_out, within_in, content_map, content_out, Turned, digit_is, within_next, within_back}

-- ---- lists of varints and of fields that are not empty begin with one
pub unempty : (b : ℕ) (bs : List ℕ) → ◌≡◌ {A = List ℕ} (b ∷ bs) [] → ⊥
unempty b bs e = let z : suc (length bs) ≡ 0 = ap length e in omega (arith, z)

varints_open : (b : ℕ) (bs : List ℕ) → Varints (b ∷ bs) → Digits 0 0 (b ∷ bs) (λ n r. Varints r)
varints_open b bs (zero, e) = absurd (unempty b bs e)
varints_open b bs (suc c, t) = then_map (read_of 2 9 (b ∷ bs)) (b ∷ bs) (λ n r. VarintsOf c r) (λ n r. Varints r) (λ n x k. (c, k)) t

varints_shut : (bs : List ℕ) → Digits 0 0 bs (λ n r. Varints r) → Varints bs
varints_shut bs t = let o = then_out (read_of 2 9 bs) bs (λ c n r. VarintsOf c r) t in (suc o.0, o.1)

packed_open : (i b : ℕ) (bs : List ℕ) → Packed i (b ∷ bs) → Digits i 0 (b ∷ bs) (λ n r. Varints r)
packed_open zero b bs t = varints_open b bs t
packed_open (suc i) b bs t = t

packed_shut : (i : ℕ) (bs : List ℕ) → Digits i 0 bs (λ n r. Varints r) → Packed i bs
packed_shut zero bs t = varints_shut bs t
packed_shut (suc i) bs t = t

packed_none : (i : ℕ) → Packed (suc i) [] → ⊥
packed_none i t = by (9 - suc i) t
  where
    by : (m : ℕ) → Varint m [] (λ n r. Varints r) → ⊥
    by zero t = t
    by (suc m) t = t

whole_key : (n : ℕ) → 0 + unit 0 * n ≡ n
whole_key n = omega arith

module _ (P : Kind → List ℕ → Type 0) (kind : Kind) where
  -- a message behind a key
  abbrev pub KeyThen : ℕ → List ℕ → Type 0
  KeyThen k r = Content P (follows kind k) r (Message P kind)

  pub message_open : (b : ℕ) (bs : List ℕ) → Message P kind (b ∷ bs) → Digits 0 0 (b ∷ bs) KeyThen
  message_open b bs (zero, e) = absurd (unempty b bs e)
  message_open b bs (suc c, t) =
      then_map (read_of 2 9 (b ∷ bs)) (b ∷ bs) (λ k r. Content P (follows kind k) r (FieldsOf P kind c)) (λ n r. KeyThen (0 + unit 0 * n) r)
      (λ n x k. rw whole_key (content_map P (follows kind n) x (FieldsOf P kind c) (Message P kind) (λ y h. (c, h)) k)) t

  pub message_shut : (bs : List ℕ) → Digits 0 0 bs KeyThen → Message P kind bs
  message_shut bs t =
      let o = then_out (read_of 2 9 bs) bs (λ c n r. Content P (follows kind n) r (FieldsOf P kind c))
      (then_map (read_of 2 9 bs) bs (λ n r. KeyThen (0 + unit 0 * n) r) (λ n r. (c : ℕ) × Content P (follows kind n) r (FieldsOf P kind c)) (λ n x k. content_out P (follows kind n) x (FieldsOf P kind) (rw whole_key at k)) t) in
      (suc o.0, o.1)

  -- ---- where a field's part ends
  passing_is : (n : ℕ) (bs : List ℕ) → Within n bs (λ m. Unit {0}) (Message P kind) ↔ Inner P kind (passing n) bs
  passing_is zero bs = (λ w. w.rest, λ m. record { there = omega arith; inside = tt; rest = m })
  passing_is (suc n) bs = (λ w. w, λ w. w)

  packing_is : (n : ℕ) (bs : List ℕ) → Within n bs Varints (Message P kind) ↔ Inner P kind (packing n) bs
  packing_is zero bs = (λ w. w.rest, λ m. record { there = omega arith; inside = (0, refl); rest = m })
  packing_is (suc n) bs = (λ w. w, λ w. w)

  following_is : (f : Follows) (bs : List ℕ) → Content P f bs (Message P kind) ↔ After P kind (following f) bs
  following_is wrong bs = (λ t. t, λ t. t)
  following_is aVarint bs = (λ t. t, λ t. t)
  following_is (bytes n) bs = passing_is n bs
  following_is (aBody body) bs =
      let W : ℕ → List ℕ → Type 0 = λ n r. Within n r (IsBody P body) (Message P kind) in
      (then_map (read_of 2 9 bs) bs W (λ n r. W (0 + unit 0 * n) r) (λ n x w. rw whole_key w), then_map (read_of 2 9 bs) bs (λ n r. W (0 + unit 0 * n) r) W (λ n x w. rw whole_key at w))

  begun_is : (body : Body) (n : ℕ) (bs : List ℕ) → Within n bs (IsBody P body) (Message P kind) ↔ After P kind (begun body n) bs
  begun_is any n bs = passing_is n bs
  begun_is varints n bs = packing_is n bs
  begun_is (within k) n bs = (λ w. w, λ w. w)

  -- ---- a digit of each varint
  key_is_lem : (i : ℕ) (d : Digit) (bs : List ℕ) → Turned i d bs KeyThen ↔ After P kind (in_key kind i d) bs
  key_is_lem i bad bs = (λ t. t, λ t. t)
  key_is_lem i (more v) bs = (λ t. t, λ t. t)
  key_is_lem i (ends n) bs = following_is (follows kind n) bs

  number_is : (i : ℕ) (d : Digit) (bs : List ℕ) → Turned i d bs (λ n r. Message P kind r) ↔ After P kind (in_number i d) bs
  number_is i bad bs = (λ t. t, λ t. t)
  number_is i (more v) bs = (λ t. t, λ t. t)
  number_is i (ends n) bs = (λ t. t, λ t. t)

  lead_is : (body : Body) (i : ℕ) (d : Digit) (bs : List ℕ) → Turned i d bs (λ n r. Within n r (IsBody P body) (Message P kind)) ↔ After P kind (in_lead body i d) bs
  lead_is body i bad bs = (λ t. t, λ t. t)
  lead_is body i (more v) bs = (λ t. t, λ t. t)
  lead_is body i (ends n) bs = begun_is body n bs

  packed_is : (n i : ℕ) (d : Digit) (bs : List ℕ) → Within n bs (λ m. Turned i d m (λ w r. Varints r)) (Message P kind) ↔ After P kind (in_packed n i d) bs
  packed_is n i bad bs = (λ w. w.inside, λ t. absurd t)
  packed_is zero i (more v) bs = (λ w. packed_none i w.inside, λ t. absurd t)
  packed_is (suc n) i (more v) bs = (λ w. w, λ w. w)
  packed_is n i (ends v) bs = packing_is n bs

  -- ---- a byte in front of what finishes a phase
  pub moves : (phase : Phase) (b : ℕ) (bs : List ℕ) → Inner P kind phase (b ∷ bs) ↔ After P kind (move kind phase b) bs
  moves field b bs =
      let e = key_is_lem 0 (digit 0 0 b) bs in
      (λ t. e.0 (rw (digit_is 0 0 b bs KeyThen) at (message_open b bs t)), λ a. message_shut (b ∷ bs) (rw (digit_is 0 0 b bs KeyThen) (e.1 a)))
  moves (key i v) b bs = rw (digit_is i v b bs KeyThen) (key_is_lem i (digit i v b) bs)
  moves (number i) b bs = rw (digit_is i 0 b bs (λ n r. Message P kind r)) (number_is i (digit i 0 b) bs)
  moves (lead body i v) b bs = rw (digit_is i v b bs (λ n r. Within n r (IsBody P body) (Message P kind))) (lead_is body i (digit i v b) bs)
  moves (skip n) b bs =
      let e = passing_is n bs in
      (λ w. e.0 (within_next w), λ a. within_back (e.1 a))
  moves (packed n i) b bs =
      let e = packed_is n i (digit i 0 b) bs in (
        λ w. e.0 (within_in (λ m t. rw (digit_is i 0 b m (λ n r. Varints r)) at (packed_open i b m t)) (within_next w)),
        λ a. within_back (within_in (λ m t. packed_shut i (b ∷ m) (rw (digit_is i 0 b m (λ n r. Varints r)) t)) (e.1 a)),
      )
