-- `affine::magnitude_of` meets its contract: doubled exactly, cut, and halved upwards.
use Rattle.std.proofs.Common.{ℕ, ◌+◌, ◌/◌, ◌<◌, T, pos, sym, ap, ◌∙◌, subst, arith, w32}
use mir.Facts.{to_z_pos}
use lib.Ieee.{binary64, add}
use Rattle.affine.specs.Facts.{magnitude}
use Rattle.affine.proofs.Halving.{Doubled, doubled}
use Rattle.affine.proofs.magnitude_of.Goals as goal
use Rattle.affine.proofs.magnitude_of.Tie as tie
use Rattle.affine.proofs.magnitude_of.Reads as contract
use Rattle.affine.proofs.magnitude_of.Lts as places

-- the places on the way that the lemmas below speak of
abbrev Start : Type 0
Start = places.Start tie.the-claims contract.Pre contract.Post tie.handed_clauses

abbrev After-truncating_f64_to_u64-whole : Type 0
After-truncating_f64_to_u64-whole = places.After-truncating_f64_to_u64 tie.the-claims contract.Pre contract.Post tie.handed_clauses

-- what is known of the double: the format holds it, so twice it is exact
known : (c : Start) → Doubled (add binary64 c.args.x c.args.x) (magnitude c.args.x)
known c = doubled c.args.x (subst T (sym c.well_formed.0.1) tt) c.requires

pub truncating_f64_to_u64-whole-requires : goal.truncating_f64_to_u64-whole-requires
truncating_f64_to_u64-whole-requires c = record { lower_bound = (known c).above; upper_bound = (known c).below }

-- the whole part of twice the double
cut : (c : After-truncating_f64_to_u64-whole) → c.truncating_f64_to_u64-whole.result < 2147483647
cut c = subst (λ (n : ℕ). n < 2147483647) (sym c.truncating_f64_to_u64-whole.ensures) (known c.before).small

half_fits : (n : ℕ) → n < 2147483647 → (n + 1) / 2 < 2147483648
half_fits n h = omega arith

pub overflow_add-result : goal.overflow_add-result
overflow_add-result c = record { fits = omega (arith, cut c) }

pub overflow_cast-result : goal.overflow_cast-result
overflow_cast-result c = record { sfits = half_fits _ (cut c) }

pub returns : goal.returns
returns c = to_z_pos w32 (half_fits _ (cut c)) ∙ ap (λ (n : ℕ). pos ((n + 1) / 2)) c.truncating_f64_to_u64-whole.ensures ∙ (known c.before).whole
