-- The relation `Indexes`: no entries, one entry more, and an index of which the buckets are said otherwise.
use Prim.Native.Nat.{ℕ, zero, suc, ◌+◌, ◌%◌, ◌≤◌, ◌<◌, zero-le}
use mathlib.Core.Path.{◌≡◌, refl, sym, ap, ◌∙◌, subst}
use mathlib.Core.Bool.{Bool, true, false, cond}
use mathlib.Core.List.{List}
use native.Mathlib.Omega.{arith}
use native.Mathlib.Nat.{mod-lt}
use native.Mathlib.Numerals.{add-one}
use lib.ListN.{length, get_or, set, length-set, replicate, length-replicate}
use lib.Seq.{get_or-set_same, get_or-set_other}
use lib.Dec.{eqb, ltb}
use borrow.Author.Tests.{eqb-true, eqb-false, lt-ltb}
use Rattle.index.specs.Chains.{slots_in, slots, latest, Indexes, cleared, pushed, max_entry, built, buckets_of}
use Rattle.index.specs.Entries.{key_count, key_hash, KeyIndex, built_keys, value_count, value_hash, ValueIndex, built_values}

-- ---- `push`
pub in_heads : (l : List ℕ) (h n : ℕ) → n < slots l → h % slots l < length l
in_heads l h n a = omega (arith, mod-lt h {m = slots l} (omega arith))

pub pushed_is : (l : List ℕ) (n h : ℕ) → n < slots l → n < 4294967295 → set (set l (slots l + n) (get_or l (h % slots l) 0)) (h % slots l) (n + 1) ≡ pushed l n h
pushed_is l n h a b = rw (lt-ltb n (slots l) a, lt-ltb n 4294967295 b, add-one)

-- ---- buckets that are the same below n
pub latest_same : (bs cs : ℕ → ℕ) (b n : ℕ) → ((j : ℕ) → j < n → bs j ≡ cs j) → latest bs b n ≡ latest cs b n
latest_same bs cs b zero e = refl
latest_same bs cs b (suc n) e = rw (e n (omega arith), latest_same bs cs b n (λ (j : ℕ) (h : j < n). e j (omega arith)))

pub same_buckets : (l : List ℕ) (bs cs : ℕ → ℕ) (n : ℕ) → ((j : ℕ) → j < n → bs j ≡ cs j) → Indexes l bs n → Indexes l cs n
same_buckets l bs cs n e I =
    record {
      heads = λ (b : ℕ) (h : b < slots l). I.heads b h ∙ latest_same bs cs b n e;
      links = λ (j : ℕ) (h : j < n). I.links j h ∙ rw (e j h) (latest_same bs cs (cs j) j (λ (i : ℕ) (k : i < j). e i (omega arith)));
      rest = I.rest;
    }

-- ---- `build_keys`, `build_values`
length_cond : (t : Bool) (a b : List ℕ) (n : ℕ) → length a ≡ n → length b ≡ n → length (cond t a b) ≡ n
length_cond true a b n p q = p
length_cond false a b n p q = q

pub length_pushed : (l : List ℕ) (n h : ℕ) → length (pushed l n h) ≡ length l
length_pushed l n h =
    let two : length (set (set l (slots l + n) (get_or l (h % slots l) 0)) (h % slots l) (suc n)) ≡ length l = simp length-set in
    length_cond (ltb n (slots l)) _ l (length l) (length_cond (ltb n max_entry) _ l (length l) two refl) refl

pub length_built : (l : List ℕ) (hs : ℕ → ℕ) (n : ℕ) → length (built l hs n) ≡ length l
length_built l hs zero = refl
length_built l hs (suc n) = length_pushed (built l hs n) n (hs n) ∙ length_built l hs n

pub record Built (l₀ l : List ℕ) (hs : ℕ → ℕ) (n j : ℕ) : Type 0 where
  pub few : j ≤ n
  pub long : length l ≡ length l₀
  pub list : l ≡ built l₀ hs j

pub build_start : (l : List ℕ) (hs : ℕ → ℕ) (n : ℕ) → Built l l hs n 0
build_start l hs n = record { few = zero-le; long = refl; list = refl }

module _ (l₀ l : List ℕ) (hs : ℕ → ℕ) (n j : ℕ) (B : Built l₀ l hs n j) where
  pub build_turn : j < n → (h : ℕ) → h ≡ hs j → (l₂ : List ℕ) → l₂ ≡ pushed l j h → Built l₀ l₂ hs n (j + 1)
  build_turn k h e l₂ p =
      let q : l₂ ≡ built l₀ hs (suc j) = p ∙ rw (e, B.list) in
      record { few = omega arith; long = ap length q ∙ length_built l₀ hs (suc j); list = rw add-one q }

  pub build_done : n ≤ j → (l₁ : List ℕ) → l₀ ≡ cleared l₁ → l ≡ built (cleared l₁) hs n
  build_done h l₁ e = let k : j ≡ n = omega (arith, B.few) in rw (← e, ← k) B.list

-- ---- no entries; one entry more
zero_all : (n i : ℕ) → get_or (replicate {A = ℕ} n 0) i 0 ≡ 0
zero_all zero i = refl
zero_all (suc n) zero = refl
zero_all (suc n) (suc i) = zero_all n i

pub indexes_none : (l : List ℕ) (bs : ℕ → ℕ) → Indexes (cleared l) bs 0
indexes_none l bs =
    record {
      heads = λ (b : ℕ) (h : b < slots (cleared l)). zero_all (length l) b;
      links = λ (j : ℕ) (h : j < 0). absurd (omega arith);
      rest = λ (j : ℕ) (a : 0 ≤ j) (h : j < slots (cleared l)). zero_all (length l) (slots (cleared l) + j);
    }

-- the three rules, said of the number of slots
made : (m : List ℕ) (s : ℕ) (bs : ℕ → ℕ) (n : ℕ) → slots m ≡ s → ((b : ℕ) → b < s → get_or m b 0 ≡ latest bs b n) → ((j : ℕ) → j < n → get_or m (s + j) 0 ≡ latest bs (bs j) j) → ((j : ℕ) → n ≤ j → j < s → get_or m (s + j) 0 ≡ 0) → Indexes m bs n
made m s bs n e x y z =
    record {
      heads = λ (b : ℕ) (h : b < slots m). x b (omega arith);
      links = λ (j : ℕ) (h : j < n). rw e (y j h);
      rest = λ (j : ℕ) (a : n ≤ j) (h : j < slots m). rw e (z j a (omega arith));
    }

module _ (l : List ℕ) (bs : ℕ → ℕ) (n h : ℕ) (I : Indexes l bs n) (a : n < slots l) (e : bs n ≡ h % slots l) where
  in_b : h % slots l < slots l
  in_b = mod-lt h {m = slots l} (omega arith)

  one : List ℕ
  one = set l (slots l + n) (get_or l (h % slots l) 0)

  two : List ℕ
  two = set one (h % slots l) (suc n)

  long : length two ≡ length l
  unfolding one two
  long = simp length-set

  head_by : (b : ℕ) → b < slots l → (t : Bool) → eqb (bs n) b ≡ t → get_or two b 0 ≡ cond t (suc n) (latest bs b n)
  unfolding one two
  head_by b k true q =
      let z : b ≡ h % slots l = sym (eqb-true (bs n) b q) ∙ e in
      let w : h % slots l < length one = omega (arith, length-set l (slots l + n) (get_or l (h % slots l) 0), in_b) in
      ap (λ (x : ℕ). get_or two x 0) z ∙ get_or-set_same one (h % slots l) (suc n) 0 w
  head_by b k false q =
      get_or-set_other one (h % slots l) b (suc n) 0 (λ (z : b ≡ h % slots l). eqb-false (bs n) b q (e ∙ sym z))
      ∙ get_or-set_other l (slots l + n) b (get_or l (h % slots l) 0) 0 (λ (z : b ≡ slots l + n). omega arith)
      ∙ I.heads b k

  above : (j : ℕ) → get_or two (slots l + j) 0 ≡ get_or one (slots l + j) 0
  unfolding one two
  above j = get_or-set_other one (h % slots l) (slots l + j) (suc n) 0 (λ (z : slots l + j ≡ h % slots l). omega (arith, in_b))

  link_by : (j : ℕ) → j < suc n → (t : Bool) → eqb j n ≡ t → get_or one (slots l + j) 0 ≡ latest bs (bs j) j
  unfolding one
  link_by j k true q =
      let z : j ≡ n = eqb-true j n q in
      rw z (get_or-set_same l (slots l + n) (get_or l (h % slots l) 0) 0 (omega arith) ∙ I.heads (h % slots l) in_b ∙ rw e)
  link_by j k false q =
      let z = eqb-false j n q in
      get_or-set_other l (slots l + n) (slots l + j) (get_or l (h % slots l) 0) 0 (λ (w : slots l + j ≡ slots l + n). z (omega arith)) ∙ I.links j (omega (arith, z))

  beyond : (j : ℕ) → suc n ≤ j → j < slots l → get_or one (slots l + j) 0 ≡ 0
  unfolding one
  beyond j k s = get_or-set_other l (slots l + n) (slots l + j) (get_or l (h % slots l) 0) 0 (λ (w : slots l + j ≡ slots l + n). omega arith) ∙ I.rest j (omega arith) s

  pub indexes_push : n < max_entry → Indexes (pushed l n h) bs (suc n)
  unfolding one two
  indexes_push b =
      rw (lt-ltb n (slots l) a, lt-ltb n max_entry b)
      (made two (slots l) bs (suc n) (ap slots_in long)
      (λ (b : ℕ) (k : b < slots l). head_by b k (eqb (bs n) b) refl)
      (λ (j : ℕ) (k : j < suc n). above j ∙ link_by j k (eqb j n) refl)
      (λ (j : ℕ) (k : suc n ≤ j) (s : j < slots l). above j ∙ beyond j k s))

-- ---- the index of the entries below n, built anew
slots_built : (l : List ℕ) (hs : ℕ → ℕ) (n : ℕ) → slots (built l hs n) ≡ slots l
slots_built l hs n = ap slots_in (length_built l hs n)

pub indexes_built : (l : List ℕ) (hs : ℕ → ℕ) (n : ℕ) → n ≤ slots (cleared l) → n ≤ max_entry → Indexes (built (cleared l) hs n) (buckets_of hs (slots (cleared l))) n
indexes_built l hs zero a b = indexes_none l (buckets_of hs (slots (cleared l)))
indexes_built l hs (suc n) a b =
    let s = slots_built (cleared l) hs n in
    indexes_push (built (cleared l) hs n) (buckets_of hs (slots (cleared l))) n (hs n) (indexes_built l hs n (omega arith) (omega arith)) (omega arith) (rw s refl) (omega arith)

-- an index built anew is the index of the entries
pub built_is : (l : List ℕ) (hs : ℕ → ℕ) (n : ℕ) → n ≤ slots l → n ≤ max_entry → Indexes (built (cleared l) hs n) (buckets_of hs (slots (built (cleared l) hs n))) n
built_is l hs n a b =
    let c : slots (cleared l) ≡ slots l = ap slots_in (length-replicate {A = ℕ} (length l) 0) in
    subst (λ (s : ℕ). Indexes (built (cleared l) hs n) (buckets_of hs s) n) (sym (slots_built (cleared l) hs n)) (indexes_built l hs n (omega arith) b)

pub built_keys_lem : (l ks ts : List ℕ) → key_count ks ≤ slots l → key_count ks ≤ max_entry → KeyIndex (built_keys l ks ts) ks ts
built_keys_lem l ks ts a b = built_is l (key_hash ks ts) (key_count ks) a b

pub built_values_lem : (l vs ts : List ℕ) → value_count vs ≤ slots l → value_count vs ≤ max_entry → ValueIndex (built_values l vs ts) vs ts
built_values_lem l vs ts a b = built_is l (value_hash vs ts) (value_count vs) a b

pub slots_pushed : (l : List ℕ) (n h : ℕ) → slots (pushed l n h) ≡ slots l
slots_pushed l n h = ap slots_in (length_pushed l n h)

-- one entry more, said of the numbers of the entries before and after
pub pushed_is_index : (l : List ℕ) (hs ks : ℕ → ℕ) (n h : ℕ) → Indexes l (buckets_of hs (slots l)) n → n < slots l → n < max_entry → ((j : ℕ) → j < n → hs j ≡ ks j) → ks n ≡ h → Indexes (pushed l n h) (buckets_of ks (slots (pushed l n h))) (suc n)
pushed_is_index l hs ks n h I a b e g =
    let J = same_buckets l (buckets_of hs (slots l)) (buckets_of ks (slots l)) n (λ (j : ℕ) (k : j < n). ap (λ (x : ℕ). x % slots l) (e j k)) I in
    subst (λ (s : ℕ). Indexes (pushed l n h) (buckets_of ks s) (suc n)) (sym (slots_pushed l n h)) (indexes_push l (buckets_of ks (slots l)) n h J a (ap (λ (x : ℕ). x % slots l) g) b)
