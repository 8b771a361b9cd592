-- Varints to the end of some bytes, counted: so many are behind i, and those from i on are left. Each takes a byte at least.
use Prim.Native.Nat.{ℕ, zero, suc, ◌+◌, ◌-◌, ◌≤◌, ◌<◌}
use mathlib.Core.Path.{◌≡◌, refl, sym, ap, ◌∙◌}
use mathlib.Core.Bool.{Bool, true, false, cond}
use mathlib.Core.List.{List, [], ◌∷◌}
use mathlib.Core.Option.{Option, none, some}
use native.Mathlib.Omega.{arith}
use lib.Dec.{ltb}
use lib.ListN.{length}
use Rattle.std.specs.Prelude.{Some, None}
use Rattle.messages.specs.Fields.{VarintAt, varint_at, number_before, number_then, numbers_by, numbers_from}
use Rattle.messages.proofs.Fields.{varint_ends, numbers_step, numbers_end}
use Rattle.reader.specs.Packed.{Count, counted}

-- so many more
abbrev more : ℕ → Count → Count
more n (Some k) = Some (n + k)
more n None = None

more_before : (n m : ℕ) (o : Option (List ℕ)) → more n (counted (number_before m o)) ≡ more (n + 1) (counted o)
more_before n m none = refl
more_before n m (some ns) = let e : n + suc (length ns) ≡ n + 1 + length ns = omega arith in rw e refl

more_none : (o : Option (List ℕ)) → counted o ≡ more 0 (counted o)
more_none none = refl
more_none (some ns) = let e : length ns ≡ 0 + length ns = omega arith in ap Some e

pub record Counting (src : List ℕ) (at i n : ℕ) : Type 0 where
  pub few : n ≤ i
  pub rest : counted (numbers_from at src) ≡ more n (counted (numbers_from i src))

pub count_start : (src : List ℕ) (at : ℕ) → Counting src at at 0
count_start src at = record { few = omega arith; rest = more_none (numbers_from at src) }

module _ (src : List ℕ) (at i n : ℕ) (I : Counting src at i n) where
  pub count_end : length src ≤ i → Some n ≡ counted (numbers_from at src)
  count_end h = let e : n + 0 ≡ n = omega arith in sym (I.rest ∙ rw (numbers_end src i h, e) refl)

  module _ (r : VarintAt) (h : i < length src) (e : r ≡ varint_at i src) where
    pub count_faulty : r ≡ None → None ≡ counted (numbers_from at src)
    count_faulty f = let v : varint_at i src ≡ None = sym e ∙ f in sym (I.rest ∙ rw (numbers_step src i h, v) refl)

    module _ (m next : ℕ) (f : r ≡ Some (m, next)) where
      there : varint_at i src ≡ Some (m, next)
      there = sym e ∙ f

      pub count_turn : Counting src at next (n + 1)
      count_turn =
          record {
            few = omega (arith, I.few, (varint_ends there).later);
            rest = I.rest ∙ rw (numbers_step src i h, there) (more_before n m (numbers_from next src));
          }

      pub count_less : length src - next < length src - i
      count_less = omega (arith, (varint_ends there).later)

-- ---- no more numbers than bytes
few_before : (src : List ℕ) (at m next : ℕ) (o : Option (List ℕ)) (ns : List ℕ) → at < next → next ≤ length src
    → ((ms : List ℕ) → o ≡ some ms → next + length ms ≤ length src) → number_before m o ≡ some ns → at + length ns ≤ length src
few_before src at m next none ns a b h e = absurd (let z : ◌≡◌ {A = ℕ} 0 1 = cc in omega arith)
few_before src at m next (some ms) ns a b h e = let l : m ∷ ms ≡ ns = cc in omega (arith, h ms refl, ap length l)

few_then : (src : List ℕ) (at : ℕ) (go : ℕ → Option (List ℕ)) (r : VarintAt) (ns : List ℕ) → varint_at at src ≡ r
    → ((next : ℕ) → next ≤ length src → (ms : List ℕ) → go next ≡ some ms → next + length ms ≤ length src) → number_then r go ≡ some ns → at + length ns ≤ length src
few_then src at go (Some (m, next)) ns v h e =
    few_before src at m next (go next) ns (varint_ends v).later (varint_ends v).inside (h next (varint_ends v).inside) e
few_then src at go None ns v h e = absurd (let z : ◌≡◌ {A = ℕ} 0 1 = cc in omega arith)

few_test : (src : List ℕ) (at : ℕ) (b : Bool) (o : Option (List ℕ)) (ns : List ℕ) → at ≤ length src
    → (o ≡ some ns → at + length ns ≤ length src) → cond b o (some []) ≡ some ns → at + length ns ≤ length src
few_test src at true o ns h k e = k e
few_test src at false o ns h k e = let l : [] ≡ ns = cc in omega (arith, ap length l)

few_by : (src : List ℕ) (turns at : ℕ) (ns : List ℕ) → at ≤ length src → numbers_by turns at src ≡ some ns → at + length ns ≤ length src
unfolding numbers_by
few_by src zero at ns h e = let l : [] ≡ ns = cc in omega (arith, ap length l)
few_by src (suc turns) at ns h e =
    few_test src at (ltb at (length src)) (number_then (varint_at at src) (λ next. numbers_by turns next src)) ns h
    (few_then src at (λ next. numbers_by turns next src) (varint_at at src) ns refl (λ next k ms g. few_by src turns next ms k g)) e

pub numbers_few : (src : List ℕ) (at : ℕ) (ns : List ℕ) → at ≤ length src → numbers_from at src ≡ some ns → at + length ns ≤ length src
unfolding numbers_from
numbers_few src at ns h e = few_by src (length src) at ns h e
