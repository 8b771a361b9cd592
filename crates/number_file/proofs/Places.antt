-- How many numbers a file has, and where each of them stands.
use mathlib.Core.Path.{◌≡◌, refl, sym, ◌∙◌, ap}
use mathlib.Core.List.{List, [], ◌∷◌}
use Prim.Native.Nat.{ℕ, zero, suc, ◌+◌, ◌*◌, ◌-◌, ◌/◌, ◌%◌, ◌<◌, ◌≤◌, ◌^◌}
use native.Mathlib.Omega.{arith}
use mathlib.Core.Bool.{Bool, true, false, cond}
use borrow.Author.Tests.{leb-true}
use lib.Dec.{leb, eqb}
use lib.ListN.{length, get_or}
use Rattle.promise.specs.Answers.{Gives, kept}
use Rattle.promise.specs.Laid.{lay}
use Rattle.refusal.specs.declared.Refusal.TheVariants.{Job, Room}
use Rattle.refusal.specs.Said.{Said, accepted, refused}
use Rattle.refusal.proofs.Laws.{one_refusal, never_both}
use Rattle.std.specs.Prelude.{Result, Ok, Err}
use Rattle.refusal.specs.declared.Refusal.{Refusal}
use Rattle.number_file.specs.Numbers.{numbers_of, number_at, said_numbers, max_bytes, reading}

pub numbers_long : (l : List ℕ) → length (numbers_of l) ≡ length l / 4
numbers_long [] = refl
numbers_long (a ∷ []) = refl
numbers_long (a ∷ b ∷ []) = refl
numbers_long (a ∷ b ∷ c ∷ []) = refl
numbers_long (a ∷ b ∷ c ∷ d ∷ rest) = omega (arith, numbers_long rest)

pub numbers_at : (l : List ℕ) (i : ℕ) → 4 * i + 4 ≤ length l → get_or (numbers_of l) i 0 ≡ number_at l (4 * i)
numbers_at [] i h = absurd (omega arith)
numbers_at (a ∷ []) i h = absurd (omega arith)
numbers_at (a ∷ b ∷ []) i h = absurd (omega arith)
numbers_at (a ∷ b ∷ c ∷ []) i h = absurd (omega arith)
numbers_at (a ∷ b ∷ c ∷ d ∷ rest) zero h = refl
numbers_at (a ∷ b ∷ c ∷ d ∷ rest) (suc i) h =
    let e0 : 4 * suc i ≡ suc (suc (suc (suc (4 * i)))) = omega arith in
    let e1 : suc (suc (suc (suc (4 * i)))) + 1 ≡ suc (suc (suc (suc (4 * i + 1)))) = omega arith in
    let e2 : suc (suc (suc (suc (4 * i)))) + 2 ≡ suc (suc (suc (suc (4 * i + 2)))) = omega arith in
    let e3 : suc (suc (suc (suc (4 * i)))) + 3 ≡ suc (suc (suc (suc (4 * i + 3)))) = omega arith in
    rw (e0, e1, e2, e3) (numbers_at rest i (omega arith))

-- ---- one value for each answer
pub one_numbers : (r r' : Result ℕ Refusal) → said_numbers r ≡ said_numbers r' → r ≡ r'
one_numbers (Ok n) (Ok n') e = ap (λ (s : Said ℕ). Ok s.values) e
one_numbers (Ok n) (Err r) e = absurd (never_both r e)
one_numbers (Err r) (Ok n) e = absurd (never_both r (sym e))
one_numbers (Err r) (Err r') e = ap Err (one_refusal r r' e)

-- ---- an accepted reading has no more numbers than the list
pub read_within : (bytes out l : List ℕ) (k : ℕ) → Gives (reading bytes out) (accepted k) l → k ≤ length out
unfolding reading
read_within bytes out l k g = by (leb (length bytes) max_bytes) (eqb (length bytes % 4) 0) (leb (length bytes / 4) (length out)) refl g
  where
    by : (a b c : Bool) → leb (length bytes / 4) (length out) ≡ c
        → Gives (cond a (cond b (cond c (record { answer = accepted (length bytes / 4); memory = lay 0 (numbers_of bytes) out }) (kept (refused Room 0) out)) (kept (refused Job 0) out)) (kept (refused Job 0) out)) (accepted k) l
        → k ≤ length out
    by false b c e g = absurd (never_both Job g.answer)
    by true false c e g = absurd (never_both Job g.answer)
    by true true false e g = absurd (never_both Room g.answer)
    by true true true e g = let h : k ≡ length bytes / 4 = ap (λ (s : Said ℕ). s.values) g.answer in omega (arith, leb-true (length bytes / 4) (length out) e)
