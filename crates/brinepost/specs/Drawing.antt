-- The encoder's calls as C makes them: the state that C carries stands for an encoder's, and a bad flag is STATE.
use Rattle.std.specs.Prelude.{ℕ, cond, List, [], ◌∷◌, eqb, ℤ}
use Rattle.promise.specs.Answers.{Written, kept}
use Rattle.refusal.specs.declared.Refusal.{Refusal}
use Rattle.refusal.specs.declared.Refusal.TheVariants.{State}
use Rattle.refusal.specs.Refusals.{number_of}
use Rattle.refusal.specs.Said.{Said}
use Rattle.encoder.specs.declared.GeomEncoder.{GeomEncoder}
use Rattle.clip.specs.declared.Pt.{Pt}
use Rattle.clip.specs.Numbers.{edge_number}
use Rattle.encoder.specs.declared.Edges.{Edges}
use Rattle.encoder.specs.Answers.{Counted, none, passed}
use Rattle.encoder.specs.Adding.{added, point_at, edges}
use Rattle.encoder.specs.Completing.{completed}
use Rattle.brinepost.specs.declared.state.BpEncoder.{BpEncoder}
use Rattle.brinepost.specs.declared.calls.BpStarted.{BpStarted}
use Rattle.brinepost.specs.declared.calls.BpDrawn.{BpDrawn}
use Rattle.telling.specs.Telling.{told}
use Rattle.brinepost.specs.Carried.{are_flags, state_of, state_to, nothing}

-- the fresh state, or every number 0 where there is none
abbrev pub carried_first : List GeomEncoder → BpEncoder
carried_first [] = nothing
carried_first (s ∷ ss) = state_to s

unfoldable pub flat_started : Said (List GeomEncoder) → BpStarted
flat_started a = record { refusal = a.number; state = carried_first a.values }

-- the refusal's number, the words used (0 where refused), the next state, or the state exactly as C gave it, and the numbers of e, the edges of the segment
-- that the point ends (0 and 0 where refused)
unfoldable pub flat_drawn : BpEncoder → Edges → Said Counted → BpDrawn
flat_drawn given e a =
    record {
      refusal = a.number;
      words = a.values.count;
      state = cond (eqb a.number 0) (state_to a.values.state) given;
      edge0 = edge_number (passed a e).first;
      edge1 = edge_number (passed a e).second;
    }

abbrev pub flagged : BpEncoder → Refusal → BpDrawn
flagged given r = record { refusal = number_of r; words = 0; state = given; edge0 = 0; edge1 = 0 }

-- a flag that is neither 0 nor 1 is STATE
unfoldable pub unless_flagged : BpEncoder → List ℕ → Edges → Written (Said Counted) (List ℕ) → Written BpDrawn (List ℕ)
unless_flagged given out e w = cond (are_flags given) (told (flat_drawn given e) w) (kept (flagged given State) out)

-- a point of the grid, however it came there: given as two numbers, or surveyed (specs/Surveyed)
abbrev pub added_at : BpEncoder → Pt → List ℕ → Written BpDrawn (List ℕ)
added_at given p out = unless_flagged given out (edges (state_of given) p) (added (state_of given) p out)

abbrev pub added_from : BpEncoder → ℤ → ℤ → List ℕ → Written BpDrawn (List ℕ)
added_from given x y out = added_at given (point_at x y) out

-- completing ends no segment
abbrev pub completed_from : BpEncoder → List ℕ → Written BpDrawn (List ℕ)
completed_from given out = unless_flagged given out none (completed (state_of given) out)
