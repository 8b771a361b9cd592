-- Each figure is a sum of what `more_of` answers.
use Prim.Native.Nat.{ℕ, ◌+◌}
use native.Mathlib.Omega.{arith}
use mathlib.Core.Path.{◌≡◌}
use Rattle.std.specs.Prelude.{Option}
use Rattle.layer.specs.declared.Figures.{Figures}
use Rattle.layer.specs.Calls.{more_of, grown_by}
use Rattle.layer.proofs.putting.grown.Goals as goal

sums : (u : Figures) (kf vf : Option ℕ) (key text a b d e : ℕ) → a ≡ more_of kf 1 → b ≡ more_of vf 1 → d ≡ more_of kf key → e ≡ more_of vf text → record { keys = u.keys + a; values = u.values + b; texts = u.texts + d + e; features = u.features + 2 } ≡ grown_by u kf vf key text
sums u kf vf key text a b d e ha hb hd he = rw (ha, hb, hd, he)

pub overflow_add-result : goal.overflow_add-result
overflow_add-result c = record { fits = omega arith }

pub overflow_add-result-2 : goal.overflow_add-result-2
overflow_add-result-2 c = record { fits = omega arith }

pub overflow_add-result-3 : goal.overflow_add-result-3
overflow_add-result-3 c = record { fits = omega arith }

pub overflow_add-result-4 : goal.overflow_add-result-4
overflow_add-result-4 c = record { fits = omega arith }

pub overflow_add-result-5 : goal.overflow_add-result-5
overflow_add-result-5 c = record { fits = omega arith }

pub returns : goal.returns
returns c = let g = c.args in sums g.u g.kf g.vf g.key g.text _ _ _ _ c.more_of.ensures.same c.more_of-2.ensures.same c.more_of-3.ensures.same c.more_of-4.ensures.same
