-- What a call promises of the four lists lent to it, said once for every call.
use Rattle.std.specs.Prelude.{◌≡◌, Bool, cond, List, length, ℕ}
use Rattle.promise.specs.Answers.{Written, Gives}
use Rattle.promise.specs.Lent.{Lent}
use Rattle.refusal.specs.Said.{Said}
use Rattle.std.specs.Prelude.{Option}
use Rattle.layer.specs.Answers.{Changed}
use Rattle.layer.specs.Many.{Added}
use Rattle.table.specs.declared.Value.{Value}
use Rattle.index.specs.Chains.{serves}
use Rattle.layer.specs.declared.Figures.{Figures}
use Rattle.layer.specs.declared.Layer.{Layer}
use Rattle.layer.specs.Held.{Memory, mem, Seen, seen, Change, written}
use Rattle.layer.specs.Answers.{said_changed}
use Rattle.layer.specs.Calls.{Tag}
use Rattle.layer.specs.Steps.{Puts}
use Rattle.layer.specs.Lookup.{Index, idx}
use Rattle.layer.specs.Many.{Many, Lists, said_added, with_index}
use Rattle.layer.specs.WholeSteps.{Leaves, LeavesFeature, indexed_by}

-- the lists at entry, and at exit
abbrev pub entered : Lent → Lent → Lent → Lent → Memory
entered k v t f = mem k.entry.now v.entry.now t.entry.now f.entry.now

abbrev pub left : Lent → Lent → Lent → Lent → Memory
left k v t f = mem k.exit.now v.exit.now t.exit.now f.exit.now

-- the same of lists lent to a step, in what it requires
abbrev pub lists : List ℕ → List ℕ → List ℕ → List ℕ → Memory
lists k v t f = mem k v t f

-- what a call sees at entry
abbrev pub sees : Layer → Lent → Lent → Lent → Lent → Seen
sees s k v t f = seen s (entered k v t f)

-- the answer r and the four lists after the call are what `call` makes of the layer s
abbrev pub Does : (Seen → Change) → Layer → Changed → Lent → Lent → Lent → Lent → Type 0
Does call s r k v t f = Gives (written (call (sees s k v t f)) s (entered k v t f)) (said_changed r) (left k v t f)

-- the tag of these lent lists
abbrev pub given : Lent → Value → Lent → Tag
given key v text = record { key = key.entry.now; value = v; text = text.entry.now }

abbrev pub lent : List ℕ → Value → List ℕ → Tag
lent key v text = record { key = key; value = v; text = text }

-- an entry and its text are laid where they were not found, and nothing else
abbrev pub Lays : Option ℕ → List ℕ → List ℕ → ℕ → ℕ → Lent → Lent → Type 0
Lays f words text at start entries texts =
    Puts f words text at start entries.entry.now texts.entry.now entries.exit.now texts.exit.now

-- the two indexes lent beside the lists
abbrev pub entered_index : Lent → Lent → Index
entered_index k v = idx k.entry.now v.entry.now

abbrev pub left_index : Lent → Lent → Index
left_index k v = idx k.exit.now v.exit.now

-- a step leaves what is seen after it, with the indexes of that
abbrev pub Fills : (Seen → Seen) → Layer → Layer → Lent → Lent → Lent → Lent → Lent → Lent → Type 0
Fills step s r k v t f ki vi = Leaves (step (sees s k v t f)) r (entered k v t f) (left k v t f) (entered_index ki vi) (left_index ki vi)

-- a whole feature leaves what `call` makes of the layer s, with the indexes of that
abbrev pub DoesIndexed : (Seen → Change) → Layer → Changed → Lent → Lent → Lent → Lent → Lent → Lent → Type 0
DoesIndexed call s r k v t f ki vi = LeavesFeature (call (sees s k v t f)) s r (entered k v t f) (left k v t f) (entered_index ki vi) (left_index ki vi)

abbrev pub left_lists : Lent → Lent → Lent → Lent → Lent → Lent → Lists
left_lists k v t f ki vi = with_index (left k v t f) (left_index ki vi)

-- a call on many features: of their heads, their geometry words, their tag words and their texts, and of a layer with its lists and indexes
abbrev pub ManyCall : Type 0
ManyCall = List ℕ → List ℕ → List ℕ → List ℕ → Layer → Memory → Index → Written (Said Many) Lists

-- the answer r, the four lists and the two indexes after the call are what `call` makes of what it was given
abbrev pub Adds : ManyCall → Layer → Added → Lent → Lent → Lent → Lent → Lent → Lent → Lent → Lent → Lent → Lent → Type 0
Adds call s r heads words tags bytes k v t f ki vi =
    Gives
    (call heads.entry.now words.entry.now tags.entry.now bytes.entry.now s (entered k v t f) (entered_index ki vi))
    (said_added r)
    (left_lists k v t f ki vi)

-- an index is built where it serves, and stays as it is where it does not
abbrev pub Builds : (List ℕ → List ℕ → List ℕ → List ℕ) → ℕ → Lent → Lent → Lent → Type 0
Builds build room entries texts list =
    list.exit.now ≡
    cond (serves (length list.entry.now) room)
    (build list.entry.now entries.entry.now texts.entry.now)
    list.entry.now

-- so are both, of the used parts, unless they are built already
abbrev pub BuildsBoth : Figures → Bool → Figures → Lent → Lent → Lent → Lent → Lent → Type 0
BuildsBoth u built room ks vs ts ki vi =
    left_index ki vi ≡
    cond built (entered_index ki vi) (indexed_by u room ks.entry.now vs.entry.now ts.entry.now (entered_index ki vi))
