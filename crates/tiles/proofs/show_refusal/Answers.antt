-- The refusal's number is the one outcome.
use mathlib.Core.Path.{ap, refl}
use mathlib.Core.List.{[], ◌∷◌}
use Prim.Native.Nat.{ℕ}
use Rattle.refusal.specs.Refusals.{number_of}
use Rattle.tiles.proofs.Telling.{as_shown}
use Rattle.tiles.proofs.show_refusal.Goals as goal

pub returns : goal.returns
returns c =
    as_shown (c.number.result ∷ []) (number_of c.args.r ∷ []) [] [] c.args.text.now _ _ (ap (λ (n : ℕ). n ∷ []) c.number.ensures) refl c.show_tile.ensures
