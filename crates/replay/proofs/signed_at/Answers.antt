-- The number at the place is the one that is read as signed.
use mathlib.Core.Path.{◌∙◌, ap}
use mir.Syntax.{w32}
use Rattle.whole.specs.Twos.{signed32}
use Rattle.whole.proofs.Machine.{Back, back}
use Rattle.replay.proofs.signed_at.Goals as goal

pub returns : goal.returns
returns c =
    let b : Back w32 c.signed32.result = back {w = w32} (record { sfits = c.signed32.type_inv }) in
    b ∙ c.signed32.ensures ∙ ap signed32 c.number.ensures
