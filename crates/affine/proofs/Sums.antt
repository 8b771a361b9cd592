-- A sum of two fractions over one divisor, by their signs; and what is rounded with the other sign is the opposite.
use Rattle.std.proofs.Common.{◌≡◌, ℕ, zero, suc, ◌+◌, ◌-◌, ◌*◌, ◌^◌, ◌<◌, ◌≤◌, Bool, true, false, cond, not, ◌&&◌, ltb, sym, refl, ap, ◌∙◌, le-ltb, lt-ltb}
use lib.Ieee.{inf, Format, prec, emax, low, odd, units, round, neg, sum}
use lib.Ieee.Fits.{round_is}
use lib.Ieee.Order.{drop, kept}

module _ (f : Format) where
  -- ---- of one sign, and of two
  pub sum_like : (s : Bool) (a b c : ℕ) → sum f s a s b c ≡ round f s (a + b) c
  unfolding sum
  sum_like true a b c = refl
  sum_like false a b c = refl

  pub sum_below : (s : Bool) (a b c : ℕ) → a < b → sum f s a (not s) b c ≡ round f (not s) (b - a) c
  unfolding sum
  sum_below true a b c h = rw (lt-ltb a b h)
  sum_below false a b c h = rw (lt-ltb a b h)

  pub sum_above : (s : Bool) (a b c : ℕ) → b ≤ a → sum f s a (not s) b c ≡ round f (s && ltb b a) (a - b) c
  unfolding sum
  sum_above true a b c h = rw (le-ltb a b h)
  sum_above false a b c h = rw (le-ltb a b h)

  -- ---- the sign of what is rounded
  odd_turned : (d q k l : ℕ) → odd d true q k l ≡ neg (odd d false q k l)
  unfolding odd neg
  odd_turned d zero k l = refl
  odd_turned d (suc q) k l = refl

  units_turned : (q k : ℕ) → units f true q k ≡ neg (units f false q k)
  unfolding units neg
  units_turned q k = by (ltb (q * 2 ^ k) (2 ^ (low f + suc (emax f))))
    where
      by : (b : Bool) → cond b (odd (suc (prec f)) true q k (low f)) (inf true) ≡ neg (cond b (odd (suc (prec f)) false q k (low f)) (inf false))
      by true = odd_turned (suc (prec f)) q k (low f)
      by false = refl

  pub round_turned : (a c : ℕ) → round f true a c ≡ neg (round f false a c)
  round_turned a c =
      round_is f true a c ∙ units_turned (kept (prec f) (a * 2 ^ low f) c) (drop (prec f) (a * 2 ^ low f) c) ∙ ap neg (sym (round_is f false a c))
