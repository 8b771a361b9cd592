-- Document 02, request (ix): "vertices now in the words". A used word is a command or a step; a vertex is a pair of steps. In mid-part the words alone do not
-- tell them apart, since a command says its count only when its part is completed; so each word's sort is kept beside it, laid and taken out as the words are.
-- `equation` of proofs/Pairs: taken plus boundary is vertices plus skipped plus taken out, after every run of accepted calls.
use Rattle.std.specs.Prelude.{ℕ, ◌+◌, ◌/◌, cond, List, [], ◌∷◌, ◌++◌, ltb, length, take}
use Rattle.clip.specs.declared.Pt.{Pt}
use Rattle.encoder.specs.declared.GeomEncoder.{GeomEncoder}
use Rattle.encoder.specs.Emitting.{Emission, emission}
use Rattle.encoder.specs.Adding.{boundary, emissions, counted}
use Rattle.encoder.specs.Completing.{closing}
use Rattle.encoder.specs.Calls.{Call, add, complete, call}

pub data Sort : Type 0 where
  a_command : Sort
  a_step : Sort

-- the words that an emission lays: the last two are its steps, one before them is a command
abbrev pub sorts_of : List ℕ → List Sort
sorts_of [] = []
sorts_of (w ∷ ws) = cond (ltb (length ws) 2) a_step a_command ∷ sorts_of ws

-- an emission lays its words behind those that it keeps
abbrev pub sorted : List Sort → Emission → List Sort
sorted l e = take e.at l ++ sorts_of e.run

abbrev pub sorted_all : List Sort → GeomEncoder → List Pt → List Sort
sorted_all l s [] = l
sorted_all l s (p ∷ ps) = sorted_all (sorted l (emission s p)) (emission s p).next ps

-- completing lays a command, or nothing, behind the used words
abbrev pub commands : List ℕ → List Sort
commands [] = []
commands (w ∷ ws) = a_command ∷ commands ws

abbrev pub sorted_by : Call → GeomEncoder → List Sort → List Sort
sorted_by (add p) s l = sorted_all l (counted 1 (length (boundary s p)) s) (emissions s p)
sorted_by complete s l = l ++ commands (closing s)

-- the sorts of the used words after calls in order, from a state and a list on
abbrev pub sorts : List Call → GeomEncoder → List ℕ → List Sort → List Sort
sorts [] s out l = l
sorts (c ∷ cs) s out l = sorts cs (call c s out).answer.values.state (call c s out).memory (sorted_by c s l)

-- ---- vertices: pairs of steps
abbrev pub steps_in : List Sort → ℕ
steps_in [] = 0
steps_in (a_command ∷ l) = steps_in l
steps_in (a_step ∷ l) = 1 + steps_in l

abbrev pub vertices_in : List Sort → ℕ
vertices_in l = steps_in l / 2
