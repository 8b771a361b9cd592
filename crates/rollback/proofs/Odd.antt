-- Why `good` leaves abandoning out: the smallest odd layer. Its one key was there at opening and its text was not, which no run of calls makes. It breaks no rule of STATE; abandoning
-- is accepted and cuts the text off, and the next call is refused as STATE.
use mathlib.Core.Path.{◌≡◌, refl}
use mathlib.Core.Bool.{true, false}
use mathlib.Core.List.{[], ◌∷◌}
use Rattle.refusal.specs.declared.Refusal.TheVariants.{State}
use Rattle.layer.specs.declared.Figures.{Figures}
use Rattle.std.specs.Prelude.{Some}
use Rattle.layer.specs.declared.Layer.{Layer}
use Rattle.layer.specs.Held.{Seen, seen, mem, refuses, next}
use Rattle.layer.specs.State.{valid}
use Rattle.rollback.specs.Runs.{abandons, does, opens}

at_opening : Figures
at_opening = record { keys = 1; values = 0; texts = 0; features = 0 }

odd_layer : Layer
odd_layer = record { extent = 4096; strict = false; name = 0; used = record { keys = 1; values = 0; texts = 1; features = 6 }; feature = Some at_opening }

pub odd : Seen
odd = seen odd_layer (mem (0 ∷ 1 ∷ []) [] (97 ∷ []) (1 ∷ 0 ∷ 0 ∷ 0 ∷ 0 ∷ 0 ∷ []))

pub odd_valid : valid odd ≡ true
unfolding odd odd_layer at_opening valid
odd_valid = refl

pub odd_abandoned : valid (next (does abandons odd) odd) ≡ false
unfolding odd odd_layer at_opening valid
odd_abandoned = refl

pub odd_refused : does (opens 1 []) (next (does abandons odd) odd) ≡ refuses State
unfolding odd odd_layer at_opening valid
odd_refused = refl
