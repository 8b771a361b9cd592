-- The tests are the definition's.
use native.Mathlib.Omega.{arith}
use borrow.Author.Rules.{rules}
use Rattle.promise.proofs.Cases.{tests}
use Rattle.replay.specs.Records.{past_of}
use Rattle.replay.proofs.past.Goals as goal

pub returns-then-end-at : goal.returns-then-end-at
unfolding past_of
returns-then-end-at c = record { is = search (rules, tests); on = λ h. omega arith; inside = omega arith }

pub overflow_cast-follow : goal.overflow_cast-follow
overflow_cast-follow c = omega (arith, c.shared_slice_known-1.given c.args.at)

pub returns-then-end-at-2 : goal.returns-then-end-at-2
unfolding past_of
returns-then-end-at-2 c = record { is = search (rules, tests); on = λ h. omega arith; inside = omega arith }

pub returns : goal.returns
unfolding past_of
returns c = record { is = search (rules, tests); on = λ h. omega arith; inside = omega arith }
