-- The field that is a value's kind, kept in one pass: the fields from the last to the first (`kind_before`), and from the first to the last with one kept
-- (`kept_over`).
use Prim.Native.Nat.{ℕ, zero, suc, ◌+◌, ◌-◌, ◌/◌, ◌%◌, ◌≤◌, ◌<◌}
use mathlib.Core.Path.{◌≡◌, refl, sym, ap, subst, ◌∙◌}
use mathlib.Core.Bool.{Bool, true, false, cond, not, ◌&&◌, ◌||◌}
use mathlib.Core.List.{List, [], ◌∷◌}
use mathlib.Core.Option.{Option, none, some}
use native.Mathlib.Omega.{arith}
use borrow.Author.Tests.{ltb-true, ltb-false, eqb-true, lt-ltb, le-ltb, eq-eqb, ne_eqb, not-true, not-false}
use lib.Dec.{ltb, eqb}
use lib.IntN.{pos, negsuc, neg_ℤ, ◌-ℤ◌}
use lib.ListN.{length}
use Rattle.std.specs.Prelude.{Some, None, Ok, Err}
use Rattle.promise.proofs.Joined.{never}
use Rattle.words.specs.Params.{unparam}
use Rattle.messages.specs.declared.key.Kind.TheVariants.{Value as value}
use Rattle.messages.specs.declared.field.FieldAt.{FieldAt}
use Rattle.messages.specs.Fields.{NextField, field_from, field_at, before, and_then, fields_from}
use Rattle.messages.specs.Meaning.{later, last_of, unless, kind_field}
use Rattle.messages.proofs.Fields.{field_ends, fields_step, fields_end}
use Rattle.reader.specs.declared.layers.Part.{Part}
use Rattle.reader.specs.declared.entries.ValueAt.{ValueAt}
use Rattle.reader.specs.Bits.{bits64}
use Rattle.reader.specs.Heads.{part_from, part_of, bits_of, text_in, value_head}
use Rattle.reader.specs.declared.cause.Cause.TheVariants.{Broken}
use Rattle.reader.specs.Steps.{ValueStep, is_kind, kind_with, OfKind, kept_head, value_in}

-- ---- zigzag undone
one_less : (k : ℕ) → neg_ℤ (pos k) -ℤ pos 1 ≡ negsuc k
one_less zero = refl
one_less (suc k) = let e : k + 0 ≡ k = omega arith in rw e refl

module _ (n : ℕ) where
  pub zigzag_even : n % 2 ≡ 0 → n / 2 ≡ bits64 (unparam n)
  unfolding unparam
  zigzag_even e = rw (eq-eqb (n % 2) 0 e) refl

  pub zigzag_odd : (n % 2 ≡ 0 → ⊥) → 18446744073709551615 - n / 2 ≡ bits64 (unparam n)
  unfolding unparam
  zigzag_odd e = rw (ne_eqb (n % 2) 0 e, one_less (n / 2)) (omega arith)

-- ---- what a value says by its kind
module _ (f : FieldAt) where
  pub bits_sint : (r : ℕ) → f.key ≡ 48 → r ≡ bits64 (unparam f.value) → r ≡ bits_of f
  bits_sint r k e = rw (eq-eqb f.key 48 k) e

  module _ (k : f.key ≡ 48 → ⊥) where
    pub bits_false : f.key ≡ 56 → f.value ≡ 0 → 0 ≡ bits_of f
    bits_false b e = rw (ne_eqb f.key 48 k, eq-eqb f.key 56 b, eq-eqb f.value 0 e) refl

    pub bits_true : f.key ≡ 56 → (f.value ≡ 0 → ⊥) → 1 ≡ bits_of f
    bits_true b e = rw (ne_eqb f.key 48 k, eq-eqb f.key 56 b, ne_eqb f.value 0 e) refl

    pub bits_other : (f.key ≡ 56 → ⊥) → f.value ≡ bits_of f
    bits_other b = rw (ne_eqb f.key 48 k, ne_eqb f.key 56 b) refl

  pub text_there : (r : Part) → f.key ≡ 10 → r ≡ part_of f → r ≡ text_in f
  text_there r k e = rw (eq-eqb f.key 10 k) e

  pub text_none : (f.key ≡ 10 → ⊥) → part_from 0 0 ≡ text_in f
  text_none k = rw (ne_eqb f.key 10 k) refl

  pub head_kept : (end : ℕ) (t : Part) (b : ℕ) → t ≡ text_in f → b ≡ bits_of f → record { kind = f.key / 8; text = t; bits = b; end = end } ≡ kept_head end f
  head_kept end t b e g = rw (e, g) refl

-- ---- one more field
module _ (kept f : FieldAt) (t : Bool) (e : t ≡ is_kind f.key) where
  pub no_kind : not t ≡ true → kept ≡ kind_with kept f
  unfolding kind_with
  no_kind n = let k : is_kind f.key ≡ false = sym e ∙ not-true t n in ap (λ (b : Bool). cond b (cond (eqb kept.key 0) f (cond (ltb kept.key f.key) kept f)) kept) (sym k)

  module _ (n : not t ≡ false) where
    of_kind : cond (eqb kept.key 0) f (cond (ltb kept.key f.key) kept f) ≡ kind_with kept f
    unfolding kind_with
    of_kind =
        let k : is_kind f.key ≡ true = sym e ∙ not-false t n in
        ap (λ (b : Bool). cond b (cond (eqb kept.key 0) f (cond (ltb kept.key f.key) kept f)) kept) (sym k)

    pub first_kind : kept.key ≡ 0 → f ≡ kind_with kept f
    first_kind z = ap (λ (b : Bool). cond b f (cond (ltb kept.key f.key) kept f)) (sym (eq-eqb kept.key 0 z)) ∙ of_kind

    module _ (z : kept.key ≡ 0 → ⊥) where
      by_order : (b : Bool) → ltb kept.key f.key ≡ b → cond b kept f ≡ kind_with kept f
      by_order b h = ap (λ (x : Bool). cond x kept f) (sym h) ∙ ap (λ (x : Bool). cond x f (cond (ltb kept.key f.key) kept f)) (sym (ne_eqb kept.key 0 z)) ∙ of_kind

      pub higher_kind : kept.key < f.key → kept ≡ kind_with kept f
      higher_kind h = by_order true (lt-ltb kept.key f.key h)

      pub lower_kind : f.key ≤ kept.key → f ≡ kind_with kept f
      lower_kind h = by_order false (le-ltb kept.key f.key h)

-- ---- the lowest of some keys that rise: of each the last field
abbrev Rising : ℕ → List ℕ → Type 0
Rising n [] = Unit {0}
Rising n (k ∷ ks) = (n < k) × Rising k ks

abbrev among : ℕ → List ℕ → Bool
among key [] = false
among key (k ∷ ks) = eqb key k || among key ks

abbrev lowest : List ℕ → List FieldAt → Option FieldAt
lowest [] fs = none
lowest (k ∷ ks) fs = unless (last_of k fs) (lowest ks fs)

-- the lowest of some fields with one before them
abbrev lower_of : Bool → FieldAt → Option FieldAt → Option FieldAt
lower_of b f none = cond b (some f) none
lower_of b f (some k) = cond (b && ltb f.key k.key) (some f) (some k)

clash : {A : Type 0} {f : FieldAt} → none ≡ some f → A
clash e = absurd (let z : ◌≡◌ {A = ℕ} 0 1 = cc in omega arith)

last_by : (key : ℕ) (g f : FieldAt) (b : Bool) → eqb g.key key ≡ b → (o : Option FieldAt) → (o ≡ some f → f.key ≡ key) → later (cond b (some g) none) o ≡ some f → f.key ≡ key
last_by key g f b t (some h) on m = on m
last_by key g f true t none on m = let s : g ≡ f = cc in subst (λ (x : FieldAt). x.key ≡ key) s (eqb-true g.key key t)
last_by key g f false t none on m = clash m

last_key : (key : ℕ) (fs : List FieldAt) {f : FieldAt} → last_of key fs ≡ some f → f.key ≡ key
last_key key [] e = clash e
last_key key (g ∷ fs) {f} e = last_by key g f (eqb g.key key) refl (last_of key fs) (λ k. last_key key fs k) e

-- keys that are among those are above what all of them are above
from_first : (key k : ℕ) (b a : Bool) → eqb key k ≡ b → (a ≡ true → k < key) → (b || a) ≡ true → k ≤ key
from_first key k true a t on e = omega (arith, eqb-true key k t)
from_first key k false a t on e = omega (arith, on e)

among_above : (n key : ℕ) (ks : List ℕ) → Rising n ks → among key ks ≡ true → n < key
among_above n key [] r e = never e
among_above n key (k ∷ ks) r e =
    let l = from_first key k (eqb key k) (among key ks) refl (λ a. among_above k key ks r.1 a) e in
    omega (arith, l, r.0)

lowest_by : (n k : ℕ) (f : FieldAt) → n < k → (o p : Option FieldAt) → (o ≡ some f → f.key ≡ k) → (p ≡ some f → k < f.key) → unless o p ≡ some f → n < f.key
lowest_by n k f l (some h) p on off e = omega (arith, on e)
lowest_by n k f l none p on off e = omega (arith, off e)

lowest_above : (n : ℕ) (ks : List ℕ) (fs : List FieldAt) (f : FieldAt) → Rising n ks → lowest ks fs ≡ some f → n < f.key
lowest_above n [] fs f r e = clash e
lowest_above n (k ∷ ks) fs f r e = lowest_by n k f r.0 (last_of k fs) (lowest ks fs) (λ o. last_key k fs o) (λ o. lowest_above k ks fs f r.1 o) e

-- ---- one field before the others
not_lower : (a : Bool) (m n : ℕ) → (a ≡ true → n ≤ m) → (a && ltb m n) ≡ false
not_lower true m n h = le-ltb m n (h refl)
not_lower false m n h = refl

lower_first : (f : FieldAt) (p : Option FieldAt) → ((h : FieldAt) → p ≡ some h → f.key < h.key) → some f ≡ lower_of true f p
lower_first f none h = refl
lower_first f (some k) h = rw (lt-ltb f.key k.key (h k refl)) refl

module _ (n k : ℕ) (ks : List ℕ) (r : Rising n (k ∷ ks)) (f : FieldAt) (fs : List FieldAt) where
  before_by : (b : Bool) → eqb f.key k ≡ b → (o : Option FieldAt) → last_of k fs ≡ o → lowest ks (f ∷ fs) ≡ lower_of (among f.key ks) f (lowest ks fs) →
      unless (later (cond b (some f) none) o) (lowest ks (f ∷ fs)) ≡ lower_of (b || among f.key ks) f (unless o (lowest ks fs))
  before_by b t (some h) e on =
      let l : (b || among f.key ks) ≡ true → h.key ≤ f.key
      = λ a. omega (arith, last_key k fs e, from_first f.key k b (among f.key ks) t (λ a. among_above k f.key ks r.1 a) a) in
      rw (not_lower (b || among f.key ks) f.key h.key l) refl
  before_by true t none e on = lower_first f (lowest ks fs) (λ h m. omega (arith, lowest_above k ks fs h r.1 m, eqb-true f.key k t))
  before_by false t none e on = on

lowest_before : (n : ℕ) (ks : List ℕ) → Rising n ks → (f : FieldAt) (fs : List FieldAt) → lowest ks (f ∷ fs) ≡ lower_of (among f.key ks) f (lowest ks fs)
lowest_before n [] r f fs = refl
lowest_before n (k ∷ ks) r f fs = before_by n k ks r f fs (eqb f.key k) refl (last_of k fs) refl (lowest_before k ks r.1 f fs)

-- ---- the kinds
abbrev kinds : List ℕ
kinds = 10 ∷ 21 ∷ 25 ∷ 32 ∷ 40 ∷ 48 ∷ 56 ∷ []

kinds_rise : Rising 0 kinds
kinds_rise = (omega arith, (omega arith, (omega arith, (omega arith, (omega arith, (omega arith, (omega arith, tt)))))))

joined : (a b c d e f g : Bool) → (a || b || c || d || e || f || g) ≡ (a || (b || (c || (d || (e || (f || (g || false)))))))
joined true b c d e f g = refl
joined false true c d e f g = refl
joined false false true d e f g = refl
joined false false false true e f g = refl
joined false false false false true f g = refl
joined false false false false false true g = refl
joined false false false false false false true = refl
joined false false false false false false false = refl

is_among : (key : ℕ) → is_kind key ≡ among key kinds
is_among key = joined (eqb key 10) (eqb key 21) (eqb key 25) (eqb key 32) (eqb key 40) (eqb key 48) (eqb key 56)

unless_none : (o : Option FieldAt) → unless o none ≡ o
unless_none none = refl
unless_none (some f) = refl

kind_lowest : (fs : List FieldAt) → kind_field fs ≡ lowest kinds fs
kind_lowest fs = rw (unless_none (last_of 56 fs)) refl

kind_before : (f : FieldAt) (fs : List FieldAt) → kind_field (f ∷ fs) ≡ lower_of (is_kind f.key) f (kind_field fs)
kind_before f fs =
    kind_lowest (f ∷ fs) ∙ lowest_before 0 kinds kinds_rise f fs ∙ ap (λ (b : Bool). lower_of b f (lowest kinds fs)) (sym (is_among f.key))
    ∙ ap (lower_of (is_kind f.key) f) (sym (kind_lowest fs))

kind_some : (fs : List FieldAt) (f : FieldAt) → kind_field fs ≡ some f → 0 < f.key
kind_some fs f e = lowest_above 0 kinds fs f kinds_rise (sym (kind_lowest fs) ∙ e)

is_some : (key : ℕ) → is_kind key ≡ true → 0 < key
is_some key e = among_above 0 key kinds kinds_rise (sym (is_among key) ∙ e)

below_by : (m key k : ℕ) (b a : Bool) → eqb key k ≡ b → k ≤ m → (a ≡ true → key ≤ m) → (b || a) ≡ true → key ≤ m
below_by m key k true a t l on e = omega (arith, eqb-true key k t)
below_by m key k false a t l on e = on e

abbrev Below : ℕ → List ℕ → Type 0
Below m [] = Unit {0}
Below m (k ∷ ks) = (k ≤ m) × Below m ks

among_below : (m key : ℕ) (ks : List ℕ) → Below m ks → among key ks ≡ true → key ≤ m
among_below m key [] l e = never e
among_below m key (k ∷ ks) l e = below_by m key k (eqb key k) (among key ks) refl l.0 (λ a. among_below m key ks l.1 a) e

is_low : (key : ℕ) → is_kind key ≡ true → key ≤ 56
is_low key e =
    among_below 56 key kinds (omega arith, (omega arith, (omega arith, (omega arith, (omega arith, (omega arith, (omega arith, tt))))))) (sym (is_among key) ∙ e)

-- ---- the one that is kept, after others
abbrev over : FieldAt → Option FieldAt → FieldAt
over h none = h
over h (some k) = cond (eqb h.key 0) k (cond (ltb h.key k.key) h k)

module _ (h g k : FieldAt) (some-g : eqb g.key 0 ≡ false) where
  over_two : (x y z : Bool) → eqb h.key 0 ≡ x → ltb h.key g.key ≡ y → ltb g.key k.key ≡ z →
      over (over h (some g)) (some k) ≡ over h (cond (ltb g.key k.key) (some g) (some k))
  over_two true y true a b c = rw (c, a, some-g, c) refl
  over_two true y false a b c = rw (c, a, some-g, c) refl
  over_two false true true a b c =
      let l : ltb h.key k.key ≡ true = lt-ltb h.key k.key (omega (arith, ltb-true h.key g.key b, ltb-true g.key k.key c)) in
      rw (c, a, b, a, l) refl
  over_two false true false a b c = rw (c, a, b, a) refl
  over_two false false true a b c = rw (c, a, b, some-g, c) refl
  over_two false false false a b c =
      let l : ltb h.key k.key ≡ false = le-ltb h.key k.key (omega (arith, ltb-false h.key g.key b, ltb-false g.key k.key c)) in
      rw (c, a, b, some-g, c, l) refl

over_with : (h g : FieldAt) (b : Bool) → is_kind g.key ≡ b → (o : Option FieldAt) → over (cond b (over h (some g)) h) o ≡ over h (lower_of b g o)
over_with h g true t none = refl
over_with h g true t (some k) =
    over_two h g k (ne_eqb g.key 0 (λ z. omega (arith, is_some g.key t, z))) (eqb h.key 0) (ltb h.key g.key) (ltb g.key k.key) refl refl refl
over_with h g false t none = refl
over_with h g false t (some k) = refl

kept_over : (h g : FieldAt) (fs : List FieldAt) → over h (kind_field (g ∷ fs)) ≡ over (kind_with h g) (kind_field fs)
unfolding kind_with
kept_over h g fs = ap (over h) (kind_before g fs) ∙ sym (over_with h g (is_kind g.key) refl (kind_field fs))

-- ---- the loop: what the value's fields say is what the kept one says with those behind
abbrev ended : ℕ → FieldAt → Option (List FieldAt) → ValueStep
ended end h none = Err Broken
ended end h (some fs) = Ok (Some (kept_head end (over h (kind_field fs))))

ended_with : (end : ℕ) (h g : FieldAt) (o : Option (List FieldAt)) → ended end h (before g o) ≡ ended end (kind_with h g) o
ended_with end h g none = refl
ended_with end h g (some fs) = ap (λ (x : FieldAt). Ok (Some (kept_head end x))) (kept_over h g fs)

pub record Keeping (f : FieldAt) (src : List ℕ) (at : ℕ) (kept : FieldAt) : Type 0 where
  pub of_kind : OfKind kept
  pub rest : value_in f (fields_from value f.start src) ≡ ended f.end kept (fields_from value at src)

head_over : (f : FieldAt) (o : Option FieldAt) → value_head f o ≡ kept_head f.end (over (field_from 0 0 0 0) o)
head_over f none = refl
head_over f (some k) = refl

ended_all : (f : FieldAt) (o : Option (List FieldAt)) → value_in f o ≡ ended f.end (field_from 0 0 0 0) o
unfolding value_in
ended_all f none = refl
ended_all f (some fs) = ap Ok (ap Some (head_over f (kind_field fs)))

pub keeping_first : (f : FieldAt) (src : List ℕ) → Keeping f src f.start (field_from 0 0 0 0)
keeping_first f src = record { of_kind = record { low = omega arith; ordered = omega arith }; rest = ended_all f (fields_from value f.start src) }

kind_of : (h g : FieldAt) → OfKind h → g.start ≤ g.end → OfKind (kind_with h g)
unfolding kind_with
kind_of h g k l = by (is_kind g.key) refl (eqb h.key 0) (ltb h.key g.key)
  where
    by : (b : Bool) → is_kind g.key ≡ b → (c d : Bool) → OfKind (cond b (cond c g (cond d h g)) h)
    by true t true d = record { low = is_low g.key t; ordered = l }
    by true t false true = k
    by true t false false = record { low = is_low g.key t; ordered = l }
    by false t c d = k

module _ (f : FieldAt) (src : List ℕ) (at : ℕ) (h : FieldAt) (I : Keeping f src at h) where
  pub keeping_done : length src ≤ at → (x : ValueAt) → x ≡ kept_head f.end h → Ok (Some x) ≡ value_in f (fields_from value f.start src)
  keeping_done l x e = ap Ok (ap Some e) ∙ sym (I.rest ∙ ap (ended f.end h) (fields_end src value at l))

  module _ (l : at < length src) (r : NextField) (e : r ≡ field_at value at src) where
    turn : (x : NextField) → r ≡ x → ended f.end h (fields_from value at src) ≡ ended f.end h (and_then x (λ g. fields_from value g.end src))
    turn x k = ap (ended f.end h) (fields_step src value at l ∙ ap (λ (y : NextField). and_then y (λ g. fields_from value g.end src)) (sym e ∙ k))

    pub keeping_broken : r ≡ None → Err Broken ≡ value_in f (fields_from value f.start src)
    keeping_broken k = sym (I.rest ∙ turn None k)

    module _ (g : FieldAt) (k : r ≡ Some g) where
      pub keeping_less : length src - g.end < length src - at
      keeping_less = omega (arith, (field_ends value (sym e ∙ k)).later)

      pub keeping_goes_on : (m : FieldAt) → m ≡ kind_with h g → Keeping f src g.end m
      keeping_goes_on m w =
          subst (Keeping f src g.end) (sym w)
          (record {
            of_kind = kind_of h g I.of_kind (field_ends value (sym e ∙ k)).ordered;
            rest = I.rest ∙ turn (Some g) k ∙ ended_with f.end h g (fields_from value g.end src);
          })
