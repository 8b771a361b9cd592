-- What our writers write is read as it was written. A message is a list of pieces, each a field with its number or its body; a piece knows its key, its value
-- and its content, wherever it stands. That a reader's field is a piece of the message says where the content is found, and is all that meaning needs.
--     little_back varint_here numbers_back       bytes of a number, a varint and packed varints where they stand
--     piece_read pieces_read                     one piece, and a message of pieces, each known to its kind
--     is_message_lem within_read                     such a message is good; a message in a body
use Prim.Native.Nat.{ℕ, zero, suc, ◌+◌, ◌/◌, ◌^◌, ◌≤◌, ◌<◌}
use mathlib.Core.Path.{◌≡◌, refl, sym, ap, subst, ◌∙◌}
use mathlib.Core.Bool.{Bool, true}
use mathlib.Core.List.{List, [], ◌∷◌, ◌++◌, map, append_assoc}
use mathlib.Core.Option.{some}
use native.Mathlib.Omega.{arith}
use borrow.Author.Tests.{le-leb}
use lib.ListN.{length, take, drop, length-append}
use lib.Seq.{take_at, drop_at}
use Rattle.wire.specs.declared.field.Field.{Field}
use Rattle.wire.specs.Varints.{varint}
use Rattle.wire.specs.Numbers.{little, fixed32, fixed64}
use Rattle.wire.specs.Schema.{key_of, head}
use Rattle.wire.specs.Fields.{varint_field, fixed32_field, fixed64_field, delimited, varints}
use Rattle.wire.proofs.Readback.{varint_back, read_used}
use Rattle.wire.proofs.Heads.{head_back}
use Rattle.wire.proofs.Schema.{head_one}
use Rattle.wire.proofs.Fields.{varint_field_lem, varint_field_long, delimited_parts}
use Rattle.messages.specs.declared.key.Kind.{Kind}
use Rattle.messages.specs.declared.key.Body.{Body}
use Rattle.messages.specs.declared.key.Body.TheVariants.{Any as any, Varints as varintsIn, Within as within}
use Rattle.messages.specs.declared.key.Follows.{Follows}
use Rattle.messages.specs.declared.key.Follows.TheVariants.{AVarint as aVarint, Bytes as bytes, ABody as aBody}
use Rattle.messages.specs.declared.field.FieldAt.{FieldAt}
use Rattle.messages.specs.Keys.{follows}
use Rattle.messages.specs.Fields.{varint_at, from_little, field_from, content, field_at}
use Rattle.messages.specs.Fields.{before, fields_from, number_before, numbers_from}
use Rattle.messages.specs.Tiles.{is_body, is_content, all_hold, is_message}
use Rattle.messages.specs.Meaning.{body_of, fields_of, packed_numbers}
use Rattle.messages.proofs.Fields.{field_ends, fields_step, fields_end, numbers_step, numbers_end}
use Rattle.std.specs.Prelude.{Some}

-- ---- numbers where they stand
pub little_back : (more n : ℕ) → n < 256 ^ more → from_little (little more n) ≡ n
little_back zero n h = omega arith
little_back (suc more) n h = let e = little_back more (n / 256) (omega arith) in omega (arith, e)

module _ (front rest : List ℕ) (at : ℕ) (e : length front ≡ at) where
  pub varint_here : (n : ℕ) → n < 18446744073709551616 → varint_at at (front ++ (varint n ++ rest)) ≡ Some (n, at + length (varint n))
  unfolding varint_at
  varint_here n h = rw (drop_at front (varint n ++ rest) at e, varint_back n rest h)

  pub head_here : (f : Field) → varint_at at (front ++ (head f ++ rest)) ≡ Some (key_of f, at + 1)
  unfolding varint_at
  head_here f = rw (drop_at front (head f ++ rest) at e, head_back f rest)

pub four_long : (n : ℕ) → length (fixed32 n) ≡ 4
unfolding fixed32
four_long n = refl

pub four_back : (n : ℕ) → n < 4294967296 → from_little (fixed32 n) ≡ n
unfolding fixed32
four_back n h = little_back 4 n h

pub eight_long : (n : ℕ) → length (fixed64 n) ≡ 8
unfolding fixed64
eight_long n = refl

pub eight_back : (n : ℕ) → n < 18446744073709551616 → from_little (fixed64 n) ≡ n
unfolding fixed64
eight_back n h = little_back 8 n h

-- every one of a list
abbrev pub All : {A : Type 0} → (A → Type 0) → List A → Type 0
All Q [] = Unit {0}
All Q (x ∷ xs) = Q x × All Q xs

module _ {A : Type 0} where
  pub all_append : (Q : A → Type 0) (xs ys : List A) → All Q xs → All Q ys → All Q (xs ++ ys)
  all_append Q [] ys a b = b
  all_append Q (x ∷ xs) ys a b = (a.0, all_append Q xs ys a.1 b)

  pub all_both : (Q R : A → Type 0) (xs : List A) → All Q xs → All R xs → All (λ (x : A). Q x × R x) xs
  all_both Q R [] a b = tt
  all_both Q R (x ∷ xs) a b = ((a.0, b.0), all_both Q R xs a.1 b.1)

  pub all_map : {B : Type 0} (Q : A → Type 0) (R : B → Type 0) (g : A → B) → ((x : A) → Q x → R (g x)) → (xs : List A) → All Q xs → All R (map g xs)
  all_map Q R g k [] a = tt
  all_map Q R g k (x ∷ xs) a = (k x a.0, all_map Q R g k xs a.1)

abbrev pub Below32 : ℕ → Type 0
Below32 n = n < 4294967296

abbrev pub Below64 : ℕ → Type 0
Below64 n = n < 18446744073709551616

-- ---- packed numbers
pub numbers_back : (ws : List ℕ) → All Below64 ws → (front : List ℕ) → numbers_from (length front) (front ++ varints ws) ≡ some ws
numbers_back [] g front = numbers_end (front ++ []) (length front) (omega (arith, length-append front []))
numbers_back (w ∷ ws) g front =
    let src = front ++ (varint w ++ varints ws) in
    let e : src ≡ (front ++ varint w) ++ varints ws = sym (append_assoc front (varint w) (varints ws)) in
    let r : numbers_from (length front + length (varint w)) src ≡ some ws =
    ap (λ (k : ℕ). numbers_from k src) (sym (length-append front (varint w))) ∙ ap (numbers_from (length (front ++ varint w))) e
    ∙ numbers_back ws g.1 (front ++ varint w) in
    let some_bytes = (read_used (varint w ++ varints ws) w (length (varint w)) (varint_back w (varints ws) g.0)).0 in
    numbers_step src (length front)
    (omega (arith, length-append front (varint w ++ varints ws), length-append (varint w) (varints ws), some_bytes))
    ∙ rw (varint_here front (varints ws) (length front) refl w g.0) (ap (number_before w) r)

-- ---- a field as our writers write it
pub data Piece : Type 0 where
  number : Field → ℕ → Piece
  four : Field → ℕ → Piece
  eight : Field → ℕ → Piece
  body : Field → List ℕ → Piece

abbrev pub key_is : Piece → ℕ
key_is (number f n) = key_of f
key_is (four f n) = key_of f
key_is (eight f n) = key_of f
key_is (body f b) = key_of f

abbrev pub value_is : Piece → ℕ
value_is (number f n) = n
value_is (four f n) = n
value_is (eight f n) = n
value_is (body f b) = 0

-- its content, and what stands before that
abbrev pub content_is : Piece → List ℕ
content_is (number f n) = varint n
content_is (four f n) = fixed32 n
content_is (eight f n) = fixed64 n
content_is (body f b) = b

abbrev pub lead : Piece → List ℕ
lead (number f n) = head f
lead (four f n) = head f
lead (eight f n) = head f
lead (body f b) = varint_field f (length b)

abbrev pub written : Piece → List ℕ
written p = lead p ++ content_is p

abbrev pub written_all : List Piece → List ℕ
written_all [] = []
written_all (p ∷ ps) = written p ++ written_all ps

pub written_append : (ps qs : List Piece) → written_all (ps ++ qs) ≡ written_all ps ++ written_all qs
written_append [] qs = refl
written_append (p ∷ ps) qs = ap (λ (l : List ℕ). written p ++ l) (written_append ps qs) ∙ sym (append_assoc (written p) (written_all ps) (written_all qs))

module _ (f : Field) where
  pub number_written : (n : ℕ) → varint_field f n ≡ written (number f n)
  number_written n = varint_field_lem f n

  pub four_written : (n : ℕ) → fixed32_field f n ≡ written (four f n)
  unfolding fixed32_field
  four_written n = refl

  pub eight_written : (n : ℕ) → fixed64_field f n ≡ written (eight f n)
  unfolding fixed64_field
  eight_written n = refl

  pub body_written : (b : List ℕ) → delimited f b ≡ written (body f b)
  body_written b = delimited_parts f b

-- each takes a byte at least, and no more than all of them
piece_some : (p : Piece) → 1 ≤ length (written p)
piece_some (number f n) = omega (arith, length-append (head f) (varint n), head_one f)
piece_some (four f n) = omega (arith, length-append (head f) (fixed32 n), head_one f)
piece_some (eight f n) = omega (arith, length-append (head f) (fixed64 n), head_one f)
piece_some (body f b) = omega (arith, length-append (varint_field f (length b)) b, varint_field_long f (length b))

module _ {A : Type 0} (g : A → Piece) where
  pub pieces_count : (xs : List A) → length xs ≤ length (written_all (map g xs))
  pieces_count [] = omega arith
  pieces_count (x ∷ xs) = omega (arith, length-append (written (g x)) (written_all (map g xs)), piece_some (g x), pieces_count xs)

  pub pieces_short : (most : ℕ) (xs : List A) → length (written_all (map g xs)) ≤ most → All (λ (x : A). length (content_is (g x)) ≤ most) xs
  pieces_short most [] h = tt
  pieces_short most (x ∷ xs) h =
      let l = length-append (written (g x)) (written_all (map g xs)) in
      (omega (arith, l, length-append (lead (g x)) (content_is (g x))), pieces_short most xs (omega (arith, l)))

-- a reader's field is this piece: where its content stands in the bytes
pub record Placed (src : List ℕ) (p : Piece) (f : FieldAt) : Type 0 where
  pub key_is_lem : f.key ≡ key_is p
  pub value_is_lem : f.value ≡ value_is p
  pub front : List ℕ
  pub back : List ℕ
  pub stands : src ≡ front ++ (content_is p ++ back)
  pub start_is : f.start ≡ length front
  pub end_is : f.end ≡ length front + length (content_is p)

-- its own fields but for the places
pub placed_is : {src : List ℕ} {p : Piece} {f : FieldAt} → Placed src p f → f ≡ field_from (key_is p) (value_is p) f.start f.end
placed_is {src} {p} {f} q = λ i. field_from (q.key_is_lem i) (q.value_is_lem i) f.start f.end

pub data AllPlaced (src : List ℕ) : List Piece → List FieldAt → Type 0 where
  none_placed : AllPlaced src [] []
  one_placed : (p : Piece) (f : FieldAt) (ps : List Piece) (fs : List FieldAt) → Placed src p f → AllPlaced src ps fs → AllPlaced src (p ∷ ps) (f ∷ fs)

-- ---- pieces that a message of a kind may have, P saying which bodies are messages
module _ (P : Kind → ℕ → List ℕ → Bool) (kind : Kind) where
  pub record GoodBody (key : ℕ) (b : List ℕ) : Type 0 where
    pub what : Body
    pub follows_is : follows kind key ≡ aBody what
    pub short : length b < 18446744073709551616
    pub holds : (front : List ℕ) → is_body P what (length front) (front ++ b) ≡ true

  abbrev pub Good : Piece → Type 0
  Good (number f n) = (follows kind (key_of f) ≡ aVarint) × (n < 18446744073709551616)
  Good (four f n) = (follows kind (key_of f) ≡ bytes 4) × (n < 4294967296)
  Good (eight f n) = (follows kind (key_of f) ≡ bytes 8) × (n < 18446744073709551616)
  Good (body f b) = GoodBody (key_of f) b

-- bodies: any bytes, varints, a message
module _ (P : Kind → ℕ → List ℕ → Bool) (kind : Kind) (f : Field) (b : List ℕ) (h : length b < 18446744073709551616) where
  pub any_body : follows kind (key_of f) ≡ aBody any → Good P kind (body f b)
  any_body e = record { what = any; follows_is = e; short = h; holds = λ front. refl }

  pub numbers_body : follows kind (key_of f) ≡ aBody varintsIn → (ws : List ℕ) → All Below64 ws → b ≡ varints ws → Good P kind (body f b)
  numbers_body e ws g q = record { what = varintsIn; follows_is = e; short = h; holds = λ front. rw (q, numbers_back ws g front) }

  pub message_body : (inner : Kind) → follows kind (key_of f) ≡ aBody (within inner) → ((front : List ℕ) → P inner (length front) (front ++ b) ≡ true)
      → Good P kind (body f b)
  message_body inner e k = record { what = within inner; follows_is = e; short = h; holds = k }

-- a piece as a reader's field, where it begins at this place
abbrev pub field_of : ℕ → Piece → FieldAt
field_of at p = field_from (key_is p) (value_is p) (at + length (lead p)) (at + length (lead p) + length (content_is p))

module _ (kind : Kind) (front rest : List ℕ) (f : Field) where
  -- the key of a field is read, and what follows it
  key_read : (src : List ℕ) → src ≡ front ++ (head f ++ rest) → (c : Follows) → follows kind (key_of f) ≡ c
      → field_at kind (length front) src ≡ content (key_of f) (length front + 1) src c
  unfolding field_at
  key_read src e c g =
      let h : varint_at (length front) src ≡ Some (key_of f, length front + 1) =
      ap (varint_at (length front)) e ∙ head_here front rest (length front) refl f in
      rw (h, g)

  behind_head : length (front ++ head f) ≡ length front + 1
  behind_head = length-append front (head f) ∙ omega (arith, head_one f)

  pub number_read : (n : ℕ) (after : List ℕ) → rest ≡ varint n ++ after → follows kind (key_of f) ≡ aVarint → n < 18446744073709551616
      → field_at kind (length front) (front ++ (head f ++ rest)) ≡ Some (field_of (length front) (number f n))
  unfolding content
  number_read n after r g h =
      let src = front ++ (head f ++ rest) in
      let e : src ≡ (front ++ head f) ++ (varint n ++ after) = sym (append_assoc front (head f) rest) ∙ ap (λ (l : List ℕ). (front ++ head f) ++ l) r in
      let v : varint_at (length front + 1) src ≡ Some (n, length front + 1 + length (varint n)) =
      ap (varint_at (length front + 1)) e ∙ varint_here (front ++ head f) after (length front + 1) behind_head n h in
      key_read src refl aVarint g ∙ rw (v, head_one f)

  pub body_read : (b after : List ℕ) → rest ≡ varint (length b) ++ (b ++ after) → (what : Body) → follows kind (key_of f) ≡ aBody what
      → length b < 18446744073709551616 → field_at kind (length front) (front ++ (head f ++ rest)) ≡ Some (field_of (length front) (body f b))
  unfolding content
  body_read b after r what g h =
      let src = front ++ (head f ++ rest) in
      let e : src ≡ (front ++ head f) ++ (varint (length b) ++ (b ++ after)) =
      sym (append_assoc front (head f) rest) ∙ ap (λ (l : List ℕ). (front ++ head f) ++ l) r in
      let v : varint_at (length front + 1) src ≡ Some (length b, length front + 1 + length (varint (length b))) =
      ap (varint_at (length front + 1)) e ∙ varint_here (front ++ head f) (b ++ after) (length front + 1) behind_head (length b) h in
      let s : length front + length (varint_field f (length b)) ≡ length front + 1 + length (varint (length b)) =
      omega (arith, varint_field_long f (length b)) in
      let l : length front + 1 + length (varint (length b)) + length b ≤ length src =
      omega (
        arith,
        ap length e,
        length-append (front ++ head f) (varint (length b) ++ (b ++ after)),
        behind_head,
        length-append (varint (length b)) (b ++ after),
        length-append b after,
      ) in
      key_read src refl (aBody what) g ∙ rw (v, le-leb (length front + 1 + length (varint (length b)) + length b) (length src) l, s)

  -- n bytes that stand for a number
  pub fixed_read : (n value : ℕ) (l after : List ℕ) → rest ≡ l ++ after → length l ≡ n → from_little l ≡ value → follows kind (key_of f) ≡ bytes n
      → field_at kind (length front) (front ++ (head f ++ rest)) ≡ Some (field_from (key_of f) value (length front + 1) (length front + 1 + n))
  unfolding content
  fixed_read n value l after r t v g =
      let src = front ++ (head f ++ rest) in
      let e : src ≡ (front ++ head f) ++ (l ++ after) = sym (append_assoc front (head f) rest) ∙ ap (λ (x : List ℕ). (front ++ head f) ++ x) r in
      let d : take n (drop (length front + 1) src) ≡ l =
      ap (λ (x : List ℕ). take n (drop (length front + 1) x)) e ∙ ap (take n) (drop_at (front ++ head f) (l ++ after) (length front + 1) behind_head)
      ∙ take_at l after n t in
      let k : length front + 1 + n ≤ length src =
      omega (arith, ap length e, length-append (front ++ head f) (l ++ after), behind_head, length-append l after) in
      key_read src refl (bytes n) g ∙ rw (le-leb (length front + 1 + n) (length src) k, d, v)

module _ (P : Kind → ℕ → List ℕ → Bool) (kind : Kind) where
  pub piece_read : (front rest : List ℕ) (p : Piece) → Good P kind p
      → field_at kind (length front) (front ++ (written p ++ rest)) ≡ Some (field_of (length front) p)
  piece_read front rest (number f n) g = rw append_assoc (number_read kind front (varint n ++ rest) f n rest refl g.0 g.1)
  piece_read front rest (four f n) g =
      rw (append_assoc, head_one f, four_long n)
      (fixed_read kind front (fixed32 n ++ rest) f 4 n (fixed32 n) rest refl (four_long n) (four_back n g.1) g.0)
  piece_read front rest (eight f n) g =
      rw (append_assoc, head_one f, eight_long n)
      (fixed_read kind front (fixed64 n ++ rest) f 8 n (fixed64 n) rest refl (eight_long n) (eight_back n g.1) g.0)
  piece_read front rest (body f b) g =
      let e : written (body f b) ++ rest ≡ head f ++ (varint (length b) ++ (b ++ rest)) =
      ap (λ (l : List ℕ). (l ++ b) ++ rest) (varint_field_lem f (length b))
      ∙ rw (append_assoc (head f) (varint (length b)) b, append_assoc (head f) (varint (length b) ++ b) rest, append_assoc (varint (length b)) b rest) in
      ap (λ (l : List ℕ). field_at kind (length front) (front ++ l)) e
      ∙ body_read kind front (varint (length b) ++ (b ++ rest)) f b rest refl g.what g.follows_is g.short

  -- ---- a message of pieces, from any place on to the end of the bytes
  piece_placed : (front rest : List ℕ) (p : Piece) → Placed (front ++ (written p ++ rest)) p (field_of (length front) p)
  piece_placed front rest p =
      record {
        key_is_lem = refl;
        value_is_lem = refl;
        front = front ++ lead p;
        back = rest;
        stands = ap (λ (l : List ℕ). front ++ l) (append_assoc (lead p) (content_is p) rest) ∙ sym (append_assoc front (lead p) (content_is p ++ rest));
        start_is = sym (length-append front (lead p));
        end_is = ap (λ (k : ℕ). k + length (content_is p)) (sym (length-append front (lead p)));
      }

  pub record Reads (front : List ℕ) (ps : List Piece) : Type 0 where
    pub fields : List FieldAt
    pub read : fields_from kind (length front) (front ++ written_all ps) ≡ some fields
    pub placed : AllPlaced (front ++ written_all ps) ps fields

  pub pieces_read : (ps : List Piece) → All (Good P kind) ps → (front : List ℕ) → Reads front ps
  pieces_read [] g front =
      record { fields = []; read = fields_end (front ++ []) kind (length front) (omega (arith, length-append front [])); placed = none_placed }
  pieces_read (p ∷ ps) g front =
      let R = pieces_read ps g.1 (front ++ written p) in
      let src = front ++ (written p ++ written_all ps) in
      let e : (front ++ written p) ++ written_all ps ≡ src = append_assoc front (written p) (written_all ps) in
      let f = field_of (length front) p in
      let n : length (front ++ written p) ≡ f.end = length-append front (written p) ∙ omega (arith, length-append (lead p) (content_is p)) in
      let r : fields_from kind f.end src ≡ some R.fields =
      ap (λ (k : ℕ). fields_from kind k src) (sym n) ∙ ap (fields_from kind (length (front ++ written p))) (sym e) ∙ R.read in
      let l = field_ends kind (piece_read front (written_all ps) p g.0) in
      record {
        fields = f ∷ R.fields;
        read = fields_step src kind (length front) (omega (arith, l.later, l.inside)) ∙ rw (piece_read front (written_all ps) p g.0) (ap (before f) r);
        placed = one_placed p f ps R.fields (piece_placed front (written_all ps) p) (subst (λ (s : List ℕ). AllPlaced s ps R.fields) e R.placed);
      }

-- ---- such a message is good
holding : (P : Kind → ℕ → List ℕ → Bool) (kind : Kind) (p : Piece) → Good P kind p → (front : List ℕ)
    → is_content P (follows kind (key_is p)) (length front) (front ++ content_is p) ≡ true
holding P kind (number f n) g front = rw g.0
holding P kind (four f n) g front = rw g.0
holding P kind (eight f n) g front = rw g.0
holding P kind (body f b) g front = rw g.follows_is (g.holds front)

-- a field's bytes up to its end are those before its content, and its content
pub up_to_end : {src : List ℕ} {p : Piece} {f : FieldAt} → (q : Placed src p f) → take f.end src ≡ q.front ++ content_is p
up_to_end {src} {p} {f} q =
    let e : src ≡ (q.front ++ content_is p) ++ q.back = q.stands ∙ sym (append_assoc q.front (content_is p) q.back) in
    ap (take f.end) e ∙ take_at (q.front ++ content_is p) q.back f.end (length-append q.front (content_is p) ∙ sym q.end_is)

module _ (P : Kind → ℕ → List ℕ → Bool) (kind : Kind) where
  all_hold_lem : (src : List ℕ) (ps : List Piece) (fs : List FieldAt) → AllPlaced src ps fs → All (Good P kind) ps → all_hold P kind src fs ≡ true
  all_hold_lem src _ _ none_placed g = refl
  all_hold_lem src _ _ (one_placed p f ps fs q more) g =
      let h : is_content P (follows kind f.key) f.start (take f.end src) ≡ true =
      rw (q.key_is_lem, q.start_is, up_to_end q) (holding P kind p g.0 q.front) in
      rw h (all_hold_lem src ps fs more g.1)

  pub is_message_lem : (ps : List Piece) → All (Good P kind) ps → (front : List ℕ) → is_message P kind (length front) (front ++ written_all ps) ≡ true
  is_message_lem ps g front = let R = pieces_read P kind ps g front in rw R.read (all_hold_lem (front ++ written_all ps) ps R.fields R.placed g)

-- ---- a body where it stands: its bytes, the fields of a message, packed numbers
placed_on : {l : List ℕ} (m : List ℕ) {ps : List Piece} {fs : List FieldAt} → AllPlaced l ps fs → AllPlaced (l ++ m) ps fs
placed_on m none_placed = none_placed
placed_on m (one_placed p f ps fs q more) =
    one_placed p f ps fs
    (record {
      key_is_lem = q.key_is_lem;
      value_is_lem = q.value_is_lem;
      front = q.front;
      back = q.back ++ m;
      stands = ap (λ (l : List ℕ). l ++ m) q.stands ∙ rw (append_assoc q.front (content_is p ++ q.back) m, append_assoc (content_is p) q.back m);
      start_is = q.start_is;
      end_is = q.end_is;
    })
    (placed_on m more)

module _ {src : List ℕ} {field : Field} {b : List ℕ} {f : FieldAt} (q : Placed src (body field b) f) where
  pub body_there : body_of src f ≡ b
  body_there = rw (up_to_end q) (drop_at q.front b f.start (sym q.start_is))

  pub numbers_there : (ws : List ℕ) → All Below64 ws → b ≡ varints ws → packed_numbers src f ≡ ws
  numbers_there ws g e = rw (up_to_end q, q.start_is, e, numbers_back ws g q.front)

pub record Inside (kind : Kind) (src : List ℕ) (f : FieldAt) (ps : List Piece) : Type 0 where
  pub fields : List FieldAt
  pub read : fields_of kind src f ≡ fields
  pub placed : AllPlaced src ps fields

pub within_read : (P : Kind → ℕ → List ℕ → Bool) (kind : Kind) (ps : List Piece) → All (Good P kind) ps
    → {src : List ℕ} {field : Field} {b : List ℕ} {f : FieldAt} → Placed src (body field b) f → b ≡ written_all ps → Inside kind src f ps
within_read P kind ps g {src} {field} {b} {f} q e =
    let R = pieces_read P kind ps g q.front in
    let t : src ≡ (q.front ++ written_all ps) ++ q.back =
    q.stands ∙ ap (λ (l : List ℕ). q.front ++ (l ++ q.back)) e ∙ sym (append_assoc q.front (written_all ps) q.back) in
    record {
      fields = R.fields;
      read = rw (up_to_end q, q.start_is, e, R.read);
      placed = subst (λ (l : List ℕ). AllPlaced l ps R.fields) (sym t) (placed_on q.back R.placed);
    }
