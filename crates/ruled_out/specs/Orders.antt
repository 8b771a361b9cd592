-- Two checks exchanged, for the calls where no edit of the code says so without another shape of the proof: document 01, "Refusals by number": the first
-- check that fails is the answer, in the table's order.
use Rattle.std.specs.Prelude.{ℕ, ◌≡◌, cond, List, [], ◌∷◌, length, None}
use Rattle.std.proofs.Common.{ap, arith}
use Rattle.promise.specs.Answers.{Written, kept}
use Rattle.refusal.specs.declared.Refusal.TheVariants.{State, Turn, Empty}
use Rattle.encoder.specs.declared.GeomEncoder.{GeomEncoder}
use Rattle.encoder.specs.States.{valid as validState}
use Rattle.encoder.specs.Answers.{turned}
use Rattle.encoder.specs.Completing.{is_empty, completed}
use Rattle.layer.specs.declared.Figures.{Figures}
use Rattle.layer.specs.declared.Layer.{Layer}
use Rattle.layer.specs.Held.{Memory, Seen, seen, Change, holds, check, when_open, held_by}
use Rattle.layer.specs.State.{valid}
use Rattle.layer.specs.Answers.{tells_not}
use Rattle.layer.specs.Calls.{is_shut, with_used, marked, set_id, into_layer, abandoned, num_tags}
use Rattle.layer.specs.Many.{add_features}
use Rattle.ruled_out.specs.Inputs.{refusal_of, figures, layer_of, lent, state}

-- a layer with a figure that is more than its list, and no feature open
abbrev shut_broken : Seen
shut_broken = seen (layer_of (figures 9 1 3 11) None) lent

-- TURN before STATE
abbrev turn_first : Seen → (Figures → Change) → Change
turn_first v go = when_open v.layer.feature (λ o. check (valid v) State (go o))

pub id_turn_first : ((low high : ℕ) (v : Seen) → set_id low high v ≡ turn_first v (λ o. marked low high v o)) → ⊥
unfolding valid
id_turn_first h = let e : ◌≡◌ {A = ℕ} 4 12 = ap refusal_of (h 5 0 shut_broken) in omega arith

pub close_turn_first : ((v : Seen) → into_layer v ≡ turn_first v (λ o. holds (with_used v.layer v.layer.used None) v.held)) → ⊥
unfolding valid
close_turn_first h = let e : ◌≡◌ {A = ℕ} 4 12 = ap refusal_of (h shut_broken) in omega arith

pub abandon_turn_first : ((v : Seen) → abandoned v ≡ turn_first v (λ o. holds (with_used v.layer o None) (held_by o v.held))) → ⊥
unfolding valid
abandon_turn_first h = let e : ◌≡◌ {A = ℕ} 4 12 = ap refusal_of (h shut_broken) in omega arith

pub tags_turn_first : ((v : Seen) → num_tags v ≡ cond (is_shut v.layer.feature) (tells_not Turn 0 v.layer) (num_tags v)) → ⊥
unfolding valid
tags_turn_first h = let e : ◌≡◌ {A = ℕ} 4 12 = ap (λ a. a.number) (h shut_broken) in omega arith

-- STATE before JOB, of many features: one word that is no head, and a broken layer
pub many_state_first : ((heads words ws bytes : List ℕ) (s : Layer) (m : Memory)
    → (add_features heads words ws bytes s m).answer.number ≡ cond (valid (seen s m)) (add_features heads words ws bytes s m).answer.number 4) → ⊥
unfolding valid
many_state_first h = let e : ◌≡◌ {A = ℕ} 1 4 = h (1 ∷ []) [] [] [] (layer_of (figures 9 1 3 11) None) lent in omega arith

-- EMPTY before STATE: points that use more words than there are
pub empty_first : ((s : GeomEncoder) (out : List ℕ)
    → completed s out ≡ cond (is_empty s) (kept (turned Empty s) out) (completed s out)) → ⊥
unfolding completed validState
empty_first h = let e : ◌≡◌ {A = ℕ} 4 6 = ap (λ w. w.answer.number) (h (state 1 None None None 0 0 9) []) in omega arith
