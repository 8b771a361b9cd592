-- The quotient rounded down. A floor is used through two facts, and never by dividing: `floor_ge` (A ≤ floor) and `floor_lt` (floor < A).
--     floor_ge floor_lt floor_unique     a bound against the floor from one against the exact quotient; there is one floor only
--     Divided divided                    the machine's quotient, which rounds toward zero, and its remainder
--     down same floor_is                 the floor from these; the definition `floor` is the floor
--     quot_fits rem_fits floor_fits      quotient, remainder and floor of a number of a width are of that width
use mathlib.Core.Path.{◌≡◌, refl, ◌∙◌, ap}
use mathlib.Core.Bool.{Bool, true, false, cond}
use mathlib.Core.Logic.{⊎_elim}
use mathlib.Core.List.{List, [], ◌∷◌}
use Prim.Native.Nat.{ℕ, zero, suc, ◌/◌, ◌%◌, ◌^◌, ◌≤◌, zero-le}
use native.Mathlib.Omega.{arith}
use native.Mathlib.Nat.{div-add-mod', mod-lt, div-le_self}
use lib.IntN.{ℤ, pos, negsuc, neg_ℤ, ◌+ℤ◌, ◌-ℤ◌, ◌*ℤ◌}
use lib.Signed.{◌≤ℤ◌, ◌<ℤ◌, lt_z, quot_z, rem_z, mag, mag_rem}
use mir.Syntax.{Width}
use mir.Val.{SFits, hbits}
use mir.ValLaws.{sfits_le}
use Rattle.whole.proofs.Parts.{p, n, neg_p, neg_n, zarith, le_out, lt_out}
use Rattle.whole.proofs.Laws.{*-nonneg, diff, ≤-or-<, ≤-antisym}
use Rattle.whole.proofs.Machine.{lo, hi, fit, lt_yes, lt_no}
use Rattle.whole.proofs.Auto.{reads, ring!, ≤:, <:, ≡:, ≤!, <! }
use Rattle.whole.specs.Floor.{IsFloor, floor}

-- ---- the floor among whole numbers
module _ {m d q : ℤ} (A : ℤ) (hd : pos 0 <ℤ d) (f : IsFloor m d q) where
  -- A at or below the exact quotient is at most the floor
  pub floor_ge : (A *ℤ d) ≤ℤ m → A ≤ℤ q
  floor_ge h = ⊎_elim (λ g. g) (λ (g : q <ℤ A). absurd (
      let ρ : List ℤ = A ∷ m ∷ d ∷ q ∷ [] in
      let g' : (q +ℤ pos 1) ≤ℤ A = ≤! ρ (search reads depth 30) (omega (arith, <: ρ g (search reads depth 30))) in
      let d' : pos 0 ≤ℤ d = omega zarith in
      omega (arith, ≤: ρ h (search reads depth 30), <: ρ f.high (search reads depth 30), ≤: ρ (*-nonneg (diff g') d') (search reads depth 30)))) (≤-or-< A q)

  -- A above the exact quotient is above the floor
  pub floor_lt : m <ℤ (A *ℤ d) → q <ℤ A
  floor_lt h = ⊎_elim (λ (g : A ≤ℤ q). absurd (
      let ρ : List ℤ = A ∷ m ∷ d ∷ q ∷ [] in
      let d' : pos 0 ≤ℤ d = omega zarith in
      omega (arith, <: ρ h (search reads depth 30), ≤: ρ f.low (search reads depth 30), ≤: ρ (*-nonneg (diff g) d') (search reads depth 30)))) (λ g. g) (≤-or-< A q)

-- there is one floor only
pub floor_unique : {m d q r : ℤ} → pos 0 <ℤ d → IsFloor m d q → IsFloor m d r → q ≡ r
floor_unique {m} {d} {q} {r} hd f g = ≤-antisym (floor_ge q hd g f.low) (floor_ge r hd f g.low)

-- ---- the machine's quotient and remainder
neg_sum : (q d r : ℤ) → neg_ℤ q *ℤ d +ℤ neg_ℤ r ≡ neg_ℤ (q *ℤ d +ℤ r)
neg_sum q d r = ring! (q ∷ d ∷ r ∷ []) (search reads depth 30) tt

pub record Divided (m d q r : ℤ) : Type 0 where
  pub whole : q *ℤ d +ℤ r ≡ m
  pub above : neg_ℤ d <ℤ r
  pub below : r <ℤ d

pub divided : (m d : ℤ) → pos 0 <ℤ d → Divided m d (quot_z m d) (rem_z m d)
divided m (pos zero) h = absurd h.lt
divided m (negsuc b) h = absurd h.lt
divided (pos a) (pos (suc b)) h = record {
  whole = ap pos (div-add-mod' a (suc b));
  above = record { lt = tt };
  below = lt_out (pos (a % suc b)) (pos (suc b)) (omega (arith, mod-lt a {m = suc b} (omega arith)));
}
divided (negsuc a) (pos (suc b)) h =
    let R = suc a % suc b in
    record {
      whole = neg_sum (pos (suc a / suc b)) (pos (suc b)) (pos R) ∙ ap (λ (k : ℕ). neg_ℤ (pos k)) (div-add-mod' (suc a) (suc b));
      above = lt_out (negsuc b) (neg_ℤ (pos R)) (omega (arith, mod-lt (suc a) {m = suc b} (omega arith), neg_p (pos R), neg_n (pos R)));
      below = lt_out (neg_ℤ (pos R)) (pos (suc b)) (omega (arith, neg_p (pos R), neg_n (pos R)));
    }

-- a remainder below zero: one less than the machine's quotient
pub down : {m d q r : ℤ} → Divided m d q r → r <ℤ pos 0 → IsFloor m d (q -ℤ pos 1)
down {m} {d} {q} {r} e h =
    let ρ : List ℤ = m ∷ d ∷ q ∷ r ∷ [] in
    let e' = ≡: ρ e.whole (search reads depth 30) in
    record {
      low = ≤! ρ (search reads depth 30) (omega (arith, <: ρ e.above (search reads depth 30)));
      high = <! ρ (search reads depth 30) (omega (arith, <: ρ h (search reads depth 30)));
    }

-- and else the machine's quotient
pub same : {m d q r : ℤ} → Divided m d q r → pos 0 ≤ℤ r → IsFloor m d q
same {m} {d} {q} {r} e h =
    let ρ : List ℤ = m ∷ d ∷ q ∷ r ∷ [] in
    let e' = ≡: ρ e.whole (search reads depth 30) in
    record {
      low = ≤! ρ (search reads depth 30) (omega (arith, ≤: ρ h (search reads depth 30)));
      high = <! ρ (search reads depth 30) (omega (arith, <: ρ e.below (search reads depth 30)));
    }

-- the definition computes the floor
pub floor_is : (m d : ℤ) → pos 0 <ℤ d → IsFloor m d (floor m d)
floor_is m d h = go (lt_z (rem_z m d) (pos 0)) refl
  where
    go : (t : Bool) → lt_z (rem_z m d) (pos 0) ≡ t → IsFloor m d (cond t (quot_z m d -ℤ pos 1) (quot_z m d))
    go true e = down (divided m d h) (lt_yes e)
    go false e = same (divided m d h) (lt_no e)

-- ---- their widths
mag_neg : (k : ℕ) {a : ℕ} → k ≤ suc a → mag (neg_ℤ (pos k)) ≤ a
mag_neg zero h = zero-le
mag_neg (suc k) h = omega arith

mag_quot : (m d : ℤ) → pos 0 <ℤ d → mag (quot_z m d) ≤ mag m
mag_quot m (pos zero) h = absurd h.lt
mag_quot m (negsuc b) h = absurd h.lt
mag_quot (pos a) (pos (suc b)) h = div-le_self a (suc b)
mag_quot (negsuc a) (pos (suc b)) h = mag_neg (suc a / suc b) (div-le_self (suc a) (suc b))

pub quot_fits : {w : Width} {m d : ℤ} → pos 0 <ℤ d → SFits w m → SFits w (quot_z m d)
quot_fits {w} {m} {d} h f = sfits_le (mag_quot m d h) f

pub rem_fits : {w : Width} {m : ℤ} (d : ℤ) → SFits w m → SFits w (rem_z m d)
rem_fits {w} {m} d f = sfits_le (mag_rem m d) f

-- a bound on both sides of zero bounds the floor too
one-≤ : {d : ℤ} → pos 0 <ℤ d → pos 1 ≤ℤ d
one-≤ {d} h = omega zarith

pub floor_low : {m d q : ℤ} (A : ℤ) → pos 0 <ℤ d → IsFloor m d q → A ≤ℤ pos 0 → A ≤ℤ m → A ≤ℤ q
floor_low {m} {d} {q} A hd f a h =
    let ρ : List ℤ = A ∷ m ∷ d ∷ [] in
    floor_ge A hd f (≤! ρ (search reads depth 30) (omega (arith, ≤: ρ h (search reads depth 30), ≤: ρ (*-nonneg (diff a) (diff (one-≤ hd))) (search reads depth 30))))

pub floor_high : {m d q : ℤ} (B : ℤ) → pos 0 <ℤ d → IsFloor m d q → pos 0 ≤ℤ B → m <ℤ B → q <ℤ B
floor_high {m} {d} {q} B hd f b h =
    let ρ : List ℤ = B ∷ m ∷ d ∷ [] in
    floor_lt B hd f (<! ρ (search reads depth 30) (omega (arith, <: ρ h (search reads depth 30), ≤: ρ (*-nonneg b (diff (one-≤ hd))) (search reads depth 30))))

-- so the floor of a number of a width is one of that width
pub floor_fits : {w : Width} {m d q : ℤ} → pos 0 <ℤ d → IsFloor m d q → SFits w m → SFits w q
floor_fits {w} {m} {d} {q} hd f s =
    let H = 2 ^ hbits w in
    fit (floor_low (neg_ℤ (pos H)) hd f (le_out (neg_ℤ (pos H)) (pos 0) (omega (arith, neg_p (pos H), neg_n (pos H)))) (lo s))
    (floor_high (pos H) hd f (le_out (pos 0) (pos H) (omega arith)) (hi s))
