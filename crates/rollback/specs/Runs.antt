-- Document 01, "Tags and rollback": "Later calls answer as if that feature had never been opened." The calls on a layer as data, and what a run of them
-- answers and leaves in memory.
use Rattle.std.specs.Prelude.{ℕ, ◌≡◌, Bool, true, false, ◌&&◌, List, [], ◌∷◌}
use Rattle.promise.specs.Answers.{Written}
use Rattle.refusal.specs.Said.{Said}
use Rattle.layer.specs.declared.Layer.{Layer}
use Rattle.layer.specs.Held.{Memory, Seen, seen, Change, written}
use Rattle.layer.specs.Calls.{Tag, is_value, into_feature, set_id, add_tag, into_layer, abandoned}

pub data Call : Type 0 where
  opens : ℕ → List ℕ → Call
  marks : ℕ → ℕ → Call
  tags : (t : Tag) → is_value t.value ≡ true → Call
  closes : Call
  abandons : Call

abbrev pub does : Call → Seen → Change
does (opens kind words) v = into_feature kind words v
does (marks low high) v = set_id low high v
does (tags t g) v = add_tag t v
does closes v = into_layer v
does abandons v = abandoned v

-- a call in memory: its answer and the memory after it are those that each function of crate `layer` promises
abbrev pub called : Call → Layer → Memory → Written (Said Layer) Memory
called c s m = written (does c (seen s m)) s m

-- the answers of a run of calls, one after the other
abbrev pub answers : List Call → Layer → Memory → List (Said Layer)
answers [] s m = []
answers (c ∷ cs) s m = (called c s m).answer ∷ answers cs (called c s m).answer.values (called c s m).memory

-- the layer and the memory after a run
abbrev pub layer_after : List Call → Layer → Memory → Layer
layer_after [] s m = s
layer_after (c ∷ cs) s m = layer_after cs (called c s m).answer.values (called c s m).memory

abbrev pub memory_after : List Call → Layer → Memory → Memory
memory_after [] s m = m
memory_after (c ∷ cs) s m = memory_after cs (called c s m).answer.values (called c s m).memory

-- no call of the run completes a feature
abbrev pub is_open_ended : Call → Bool
is_open_ended (opens kind words) = true
is_open_ended (marks low high) = true
is_open_ended (tags t g) = true
is_open_ended closes = false
is_open_ended abandons = true

abbrev pub open_ended : List Call → Bool
open_ended [] = true
open_ended (c ∷ cs) = is_open_ended c && open_ended cs
