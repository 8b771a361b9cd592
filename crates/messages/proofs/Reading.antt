-- Reading a varint byte by byte where it stands: after some bytes with the highest bit, what is left is read behind them.
--     Long    how far the loop is that reads the number, with the number so far
--     Far     how far the loop is that passes over it
use Prim.Native.Nat.{ℕ, zero, suc, ◌+◌, ◌*◌, ◌-◌, ◌%◌, ◌≤◌, ◌<◌}
use mathlib.Core.Path.{◌≡◌, refl, sym, ap, ◌∙◌}
use mathlib.Core.List.{List, []}
use native.Mathlib.Nat.{mul-le-mul, mul-le-mul_left, mul-add, mul_assoc, add_assoc}
use native.Mathlib.Omega.{arith}
use borrow.Author.Tests.{lt-ltb, le-ltb}
use lib.ListN.{length, get_or, drop, drop_of_length-le}
use mir.Syntax.{w64}
use mir.Val.{Fits}
use Rattle.promise.proofs.Steps.{next}
use Rattle.wire.specs.Reading.{VarintRead, good, cut, over, behind, read_of, read_varint}
use Rattle.wire.proofs.Varints.{limit}
use Rattle.messages.specs.Fields.{placed, varint_at}
use Rattle.messages.specs.Asking.{next_of}
use Rattle.std.specs.Prelude.{Some, None}
use Rattle.messages.specs.Fields.{VarintAt}

-- ---- what stands at a place decides
none_left : (top more : ℕ) (src : List ℕ) (i : ℕ) → length src ≤ i → read_of top more (drop i src) ≡ cut
none_left top more src i h = rw (drop_of_length-le src h) (by more)
  where
    by : (m : ℕ) → read_of top m [] ≡ cut
    by zero = refl
    by (suc m) = refl

-- so many more may follow
module _ (src : List ℕ) (i more : ℕ) (h : i < length src) (m : ℕ) (e : more ≡ suc m) where
  ends_here : get_or src i 0 < 128 → read_of 2 more (drop i src) ≡ good (get_or src i 0) 1
  ends_here t = rw (e, next src i (i + 1) (omega arith) h, lt-ltb (get_or src i 0) 128 t)

  goes_on : 128 ≤ get_or src i 0 → read_of 2 more (drop i src) ≡ behind (get_or src i 0 % 128) (read_of 2 m (drop (i + 1) src))
  goes_on t = rw (e, next src i (i + 1) (omega arith) h, le-ltb (get_or src i 0) 128 t)

-- none may
module _ (src : List ℕ) (i more : ℕ) (h : i < length src) (e : more ≡ 0) where
  tenth_ends : get_or src i 0 < 2 → read_of 2 more (drop i src) ≡ good (get_or src i 0) 1
  tenth_ends t = rw (e, next src i (i + 1) (omega arith) h, lt-ltb (get_or src i 0) 2 t)

  tenth_over : 2 ≤ get_or src i 0 → read_of 2 more (drop i src) ≡ over 0
  tenth_over t = rw (e, next src i (i + 1) (omega arith) h, le-ltb (get_or src i 0) 2 t)

-- ---- the number so far, the value of a next bit and the place, and what is read from there on
abbrev taken : ℕ → ℕ → ℕ → VarintRead → VarintAt
taken n unit i (good m k) = Some (n + unit * m, i + k)
taken n unit i cut = None
taken n unit i (over p) = None

taken_behind : (n unit i low : ℕ) (r : VarintRead) → taken n unit i (behind low r) ≡ taken (n + unit * low) (unit * 128) (i + 1) r
taken_behind n unit i low (good m k) =
    let e : n + unit * (low + 128 * m) ≡ n + unit * low + unit * 128 * m = rw (mul-add unit low (128 * m), mul_assoc unit 128 m, add_assoc n (unit * low) (unit * (128 * m))) refl in
    let p : i + suc k ≡ i + 1 + k = omega arith in
    rw (e, p) refl
taken_behind n unit i low cut = refl
taken_behind n unit i low (over p) = refl

-- k bytes from the place on have the highest bit
pub record Long (src : List ℕ) (at n unit k : ℕ) : Type 0 where
  pub past : 1 ≤ k
  pub few : k ≤ 9
  pub power : unit ≡ limit k
  pub small : n < unit
  pub rest : varint_at at src ≡ taken n unit (at + k) (read_of 2 (9 - k) (drop (at + k) src))

limit_some : (k : ℕ) → 1 ≤ limit k
limit_some zero = omega arith
limit_some (suc k) = omega (arith, limit_some k)

limit_mono : (j k : ℕ) → j ≤ k → limit j ≤ limit k
limit_mono zero k h = limit_some k
limit_mono (suc j) zero h = absurd (omega arith)
limit_mono (suc j) (suc k) h = omega (arith, limit_mono j k (omega arith))

-- ---- the loop that reads the number
pub long_start : (src : List ℕ) (at : ℕ) → at < length src → 128 ≤ get_or src at 0 → (r : ℕ) → r ≡ get_or src at 0 → Long src at (r % 128) 128 1
unfolding varint_at read_varint
long_start src at h t r e =
    record {
      past = omega arith;
      few = omega arith;
      power = refl;
      small = omega arith;
      rest = ap (placed at) (goes_on src at 9 h 8 refl t) ∙ rw (← e) (from_first (read_of 2 8 (drop (at + 1) src)));
    }
  where
    from_first : (v : VarintRead) → placed at (behind (r % 128) v) ≡ taken (r % 128) 128 (at + 1) v
    from_first (good m k) = let p : at + suc k ≡ at + 1 + k = omega arith in rw p refl
    from_first cut = refl
    from_first (over p) = refl

module _ (src : List ℕ) (at n unit k : ℕ) (I : Long src at n unit k) where
  -- nine bytes of seven bits, eight of them where one may follow
  unit_nine : unit ≤ 9223372036854775808
  unit_nine = omega (arith, I.power, limit_mono k 9 I.few)

  unit_eight : k < 9 → unit ≤ 72057594037927936
  unit_eight h = omega (arith, I.power, limit_mono k 8 (omega arith))

  -- so that every sum on the way has 64 bits
  module _ (r b : ℕ) (h : k < 9) (t : b < 128) (e : r ≡ b) where
    product : unit * r ≤ 9151314442816847872
    product = let c : r ≤ 127 = omega arith in mul-le-mul (unit_eight h) c

    pub product_fits : Fits w64 (unit * r)
    product_fits = record { fits = omega (arith, product) }

    pub sum_fits : Fits w64 (n + unit * r)
    sum_fits = record { fits = omega (arith, product, I.small, unit_nine) }

  pub low_product_fits : (r : ℕ) → k < 9 → Fits w64 (unit * (r % 128))
  low_product_fits r h = product_fits (r % 128) (r % 128) h (omega arith) refl

  pub low_sum_fits : (r : ℕ) → k < 9 → Fits w64 (n + unit * (r % 128))
  low_sum_fits r h = sum_fits (r % 128) (r % 128) h (omega arith) refl

  pub unit_fits : k < 9 → Fits w64 (unit * 128)
  unit_fits h = record { fits = omega (arith, unit_eight h) }

  module _ (r b : ℕ) (t : b < 2) (e : r ≡ b) where
    last_product : unit * r ≤ 9223372036854775808
    last_product = let c : r ≤ 1 = omega arith in mul-le-mul unit_nine c

    pub last_product_fits : Fits w64 (unit * r)
    last_product_fits = record { fits = omega (arith, last_product) }

    pub last_sum_fits : Fits w64 (n + unit * r)
    last_sum_fits = record { fits = omega (arith, last_product, I.small, unit_nine) }

  pub long_cut : length src ≤ at + k → None ≡ varint_at at src
  long_cut h = sym (I.rest ∙ rw (none_left 2 (9 - k) src (at + k) h) refl)

  pub long_ends : k < 9 → at + k < length src → get_or src (at + k) 0 < 128 → (r : ℕ) → r ≡ get_or src (at + k) 0 → Some (n + unit * r, at + k + 1) ≡ varint_at at src
  long_ends f h t r e = sym (I.rest ∙ rw (ends_here src (at + k) (9 - k) h (8 - k) (omega arith) t, e) refl)

  pub long_tenth : 9 ≤ k → at + k < length src → get_or src (at + k) 0 < 2 → (r : ℕ) → r ≡ get_or src (at + k) 0 → Some (n + unit * r, at + k + 1) ≡ varint_at at src
  long_tenth f h t r e = sym (I.rest ∙ rw (tenth_ends src (at + k) (9 - k) h (omega arith) t, e) refl)

  pub long_over : 9 ≤ k → at + k < length src → 2 ≤ get_or src (at + k) 0 → None ≡ varint_at at src
  long_over f h t = sym (I.rest ∙ rw (tenth_over src (at + k) (9 - k) h (omega arith) t) refl)

  pub long_turn : k < 9 → at + k < length src → 128 ≤ get_or src (at + k) 0 → (r : ℕ) → r ≡ get_or src (at + k) 0 → Long src at (n + unit * (r % 128)) (unit * 128) (k + 1)
  long_turn f h t r e =
      let d : k + 1 ≡ suc k = omega arith in
      let j : at + (k + 1) ≡ at + k + 1 = omega arith in
      let c : r % 128 ≤ 127 = omega arith in
      let g : unit * (r % 128) ≤ unit * 127 = mul-le-mul_left unit c in
      let m : 9 - (k + 1) ≡ 8 - k = omega arith in
      record {
        past = omega arith;
        few = omega arith;
        power = rw d (omega (arith, I.power));
        small = omega (arith, I.small, g);
        rest =
            I.rest ∙ ap (taken n unit (at + k)) (goes_on src (at + k) (9 - k) h (8 - k) (omega arith) t) ∙ taken_behind n unit (at + k) (get_or src (at + k) 0 % 128) (read_of 2 (8 - k) (drop (at + k + 1) src))
            ∙ rw (← e, j, m) refl;
      }

-- ---- at its first byte
pub first_none : (src : List ℕ) (at : ℕ) → length src ≤ at → None ≡ varint_at at src
unfolding varint_at read_varint
first_none src at h = rw (none_left 2 9 src at h) refl

pub first_ends : (src : List ℕ) (at : ℕ) → at < length src → get_or src at 0 < 128 → (r : ℕ) → r ≡ get_or src at 0 → Some (r, at + 1) ≡ varint_at at src
unfolding varint_at read_varint
first_ends src at h t r e = rw (ends_here src at 9 h 8 refl t, e) refl

-- ---- the loop that passes over it: the same, with a number that is not kept, and five bytes at most
pub record Far (src : List ℕ) (at k : ℕ) : Type 0 where
  pub n : ℕ
  pub unit : ℕ
  pub long : Long src at n unit k

pub far_start : (src : List ℕ) (at : ℕ) → at < length src → 128 ≤ get_or src at 0 → Far src at 1
far_start src at h t = record { n = get_or src at 0 % 128; unit = 128; long = long_start src at h t (get_or src at 0) refl }

module _ (src : List ℕ) (at k : ℕ) (I : Far src at k) where
  pub far_cut : length src ≤ at + k → None ≡ next_of (varint_at at src)
  far_cut h = ap next_of (long_cut src at I.n I.unit k I.long h)

  pub far_ends : k < 5 → at + k < length src → get_or src (at + k) 0 < 128 → Some (at + k + 1) ≡ next_of (varint_at at src)
  far_ends f h t = ap next_of (long_ends src at I.n I.unit k I.long (omega arith) h t (get_or src (at + k) 0) refl)

  pub far_turn : k < 5 → at + k < length src → 128 ≤ get_or src (at + k) 0 → Far src at (k + 1)
  far_turn f h t =
      record { n = I.n + I.unit * (get_or src (at + k) 0 % 128); unit = I.unit * 128; long = long_turn src at I.n I.unit k I.long (omega arith) h t (get_or src (at + k) 0) refl }

module _ (src : List ℕ) (at : ℕ) (r : VarintAt) (g : r ≡ varint_at at src) where
  pub far_is : (n next : ℕ) → r ≡ Some (n, next) → Some next ≡ next_of (varint_at at src)
  far_is n next e = ap next_of (sym e ∙ g)

  pub far_not : r ≡ None → None ≡ next_of (varint_at at src)
  far_not e = ap next_of (sym e ∙ g)

-- ---- at its second byte
module _ (src : List ℕ) (at : ℕ) (h : at < length src) (t : 128 ≤ get_or src at 0) where
  pub second_none : length src ≤ at + 1 → None ≡ varint_at at src
  second_none g = long_cut src at (get_or src at 0 % 128) 128 1 (long_start src at h t (get_or src at 0) refl) g

  pub second_ends : at + 1 < length src → get_or src (at + 1) 0 < 128 → (r s : ℕ) → r ≡ get_or src at 0 → s ≡ get_or src (at + 1) 0 → Some (r % 128 + 128 * s, at + 2) ≡ varint_at at src
  second_ends g u r s d e =
      let p : at + 2 ≡ at + 1 + 1 = omega arith in
      rw p (long_ends src at (r % 128) 128 1 (long_start src at h t r d) (omega arith) g u s e)
