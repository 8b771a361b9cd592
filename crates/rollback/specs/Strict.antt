-- Request (xiv): "a strict layer without a refusal gives an ordinary layer's bytes." A layer beside the same one of another choice, call by call.
use Rattle.std.specs.Prelude.{ℕ, Bool, true, false, not, ◌&&◌, List, [], ◌∷◌, map, eqb}
use Rattle.refusal.specs.declared.Refusal.TheVariants.{Again}
use Rattle.refusal.specs.Refusals.{number_of}
use Rattle.refusal.specs.Said.{Said}
use Rattle.layer.specs.Answers.{Told}
use Rattle.layer.specs.Calls.{chosen}
use Rattle.layer.specs.Many.{Many}
use Rattle.tile.specs.Holding.{Given}
use Rattle.rollback.specs.Later.{Reply, changed, added, stands, counted, named, sizes, joined}

-- the layer with this choice, in the same lists
abbrev pub choice : Bool → Given → Given
choice b g = record { layer = chosen b g.layer; memory = g.memory }

-- an answer with this choice in the layers that it gives
abbrev pub said_with : {X : Type 0} → (X → X) → Said X → Said X
said_with put a = record { number = a.number; place = a.place; values = put a.values }

abbrev pub many_with : Bool → Many → Many
many_with b m = record { layer = chosen b m.layer; count = m.count }

abbrev pub told_with : {X : Type 0} → Bool → Told X → Told X
told_with b t = record { told = t.told; given = map (chosen b) t.given }

abbrev pub with_choice : Bool → Reply → Reply
with_choice b (changed a) = changed (said_with (chosen b) a)
with_choice b (added a x) = added (said_with (many_with b) a) x
with_choice b (stands t) = stands t
with_choice b (counted a) = counted (said_with (told_with b) a)
with_choice b (named a) = named (said_with (told_with b) a)
with_choice b (sizes a) = sizes a
with_choice b (joined w) = joined w

-- AGAIN is answered
abbrev pub is_again : ℕ → Bool
is_again n = eqb n (number_of Again)

abbrev pub says_again : Reply → Bool
says_again (changed a) = is_again a.number
says_again (added a x) = is_again a.number
says_again (stands t) = false
says_again (counted a) = false
says_again (named a) = false
says_again (sizes a) = false
says_again (joined w) = false

abbrev pub never_again : List Reply → Bool
never_again [] = true
never_again (r ∷ rs) = not (says_again r) && never_again rs
