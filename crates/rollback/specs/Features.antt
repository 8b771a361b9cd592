-- The calls of a whole feature, and a run of calls up to the first that is refused.
use Rattle.std.specs.Prelude.{ℕ, ◌%◌, ◌/◌, ◌≡◌, refl, Bool, true, false, cond, List, [], ◌∷◌, ◌++◌}
use Rattle.layer.specs.declared.whole_feature.Head.{Head}
use Rattle.layer.specs.Held.{Seen, Change, refuses, holds, next}
use Rattle.layer.specs.Calls.{Tag, is_value}
use Rattle.rollback.specs.Runs.{Call, opens, marks, tags, closes, does}

-- the call of a tag; there is none of one whose value is no value
abbrev pub tag_call : (t : Tag) (b : Bool) → is_value t.value ≡ b → List Call
tag_call t true g = tags t g ∷ []
tag_call t false g = []

abbrev pub tag_calls : List Tag → List Call
tag_calls [] = []
tag_calls (t ∷ ts) = tag_call t (is_value t.value) refl ++ tag_calls ts

-- the calls that set the id, if there is one
abbrev pub id_calls : Bool → ℕ → List Call
id_calls has id = cond has (marks (id % 4294967296) (id / 4294967296) ∷ []) []

-- opened, its id set, tagged and closed
abbrev pub feature_calls : Head → List ℕ → List Tag → List Call
feature_calls f words ts = opens f.kind words ∷ (id_calls f.has_id f.id ++ (tag_calls ts ++ (closes ∷ [])))

abbrev pub and_then : Change → Seen → (Seen → Change) → Change
and_then (refuses r) v go = refuses r
and_then (holds t h) v go = go (next (holds t h) v)

abbrev pub runs : List Call → Seen → Change
runs [] v = holds v.layer v.held
runs (c ∷ cs) v = and_then (does c v) v (λ w. runs cs w)
