-- One read more is laid behind what is filled.
use borrow.Author.Rules.{rules}
use mathlib.Core.Path.{subst}
use Rattle.std.specs.Io.KnownBytes.{Consumes}
use Rattle.std.proofs.KnownBytes.{Consumes-trans}
use Rattle.console.proofs.Filling.{filled}
use Rattle.console.proofs.fill.Goals as goal

pub loop-done-preserved : goal.loop-done-preserved
loop-done-preserved g c =
    let l = c.loop-done in (
      search rules,
      search rules,
      subst (Consumes _ _) (filled l.done c.in_ok-n.n l.bytes c.read.new.buf l.invariant.1 c.in_ok-n.ensures.bound.0)
          (Consumes-trans _ _ _ _ _ l.invariant.2 c.in_ok-n.ensures.bytes.0),
    )
