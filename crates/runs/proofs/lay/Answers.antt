-- A turn lays the element after those that are laid.
use mathlib.Core.Path.{refl, sym, ◌∙◌}
use borrow.Author.Tests.{leb-true}
use Rattle.promise.proofs.Copying.{copy_start, copy_turn, copy_done}
use Rattle.runs.proofs.Laws.{laid_is}
use Rattle.runs.proofs.lay.Goals as goal

pub loop-i-init : goal.loop-i-init
loop-i-init g c = copy_start (leb-true _ _ (sym c.has_room.ensures ∙ c.if-not-has_room.false))

pub loop-i-preserved : goal.loop-i-preserved
loop-i-preserved g c = copy_turn c.loop-i.invariant _ _ c.index-run-i.result refl c.index-run-i.is c.loop-i-test.true

pub returns : goal.returns
returns g c = let I = c.loop-i.invariant in laid_is _ _ _ I.fits _ (copy_done I c.loop-i-test.false)
