-- Document 01, "Words", and MVT 4.3.2: "Parameter for n: 2n if n ≥ 0, else -2n - 1."
use Rattle.std.specs.Prelude.{ℕ, ◌/◌, ◌%◌, cond, ◌≡◌, refl, eqb, ℤ, pos, negsuc, neg_ℤ, nat_abs, ◌-ℤ◌, ◌*ℤ◌}
use Rattle.std.specs.Int.Signed.{non_neg}

-- neither case is below zero, so nat_abs only changes the type
unfoldable pub param : ℤ → ℕ
param n = nat_abs (cond (non_neg n) (pos 2 *ℤ n) (neg_ℤ (pos 2) *ℤ n -ℤ pos 1))

-- the number whose parameter w is: half of an even word; of an odd one minus the half, rounded down, and one less
unfoldable pub unparam : ℕ → ℤ
unparam w = cond (eqb (w % 2) 0) (pos (w / 2)) (neg_ℤ (pos (w / 2)) -ℤ pos 1)

-- ---- document 01's values
pub nought : param (pos 0) ≡ 0
unfolding param
nought = refl

pub minus_one : param (negsuc 0) ≡ 1
unfolding param
minus_one = refl

pub one : param (pos 1) ≡ 2
unfolding param
one = refl

pub greatest : param (pos 2147483647) ≡ 4294967294
unfolding param
greatest = refl

pub least : param (neg_ℤ (pos 2147483648)) ≡ 4294967295
unfolding param
least = refl
