-- What a call from C promises of the lists lent to it, said once for every call.
use Rattle.std.specs.Prelude.{ℕ}
use Rattle.promise.specs.Answers.{Gives}
use Rattle.layer.specs.Held.{Seen, Change}
use Rattle.layer.specs.Whole.{add_feature}
use Rattle.promise.specs.Lent.{Lent}
use Rattle.layer.specs.Lending.{entered, left, entered_index, left_lists}
use Rattle.brinepost_tiles.specs.declared.carried.BpLayer.{BpLayer}
use Rattle.brinepost_tiles.specs.declared.answers.BpChanged.{BpChanged}
use Rattle.brinepost_tiles.specs.declared.answers.BpMany.{BpMany}
use Rattle.brinepost_tiles.specs.Calls.{called_from, head_at, features_from}

-- what C is told and the four lists after the call are what `call` makes of the layer that C's numbers stand for
abbrev pub Called : (Seen → Change) → BpLayer → BpChanged → Lent → Lent → Lent → Lent → Type 0
Called call given r k v t f = Gives (called_from given call (entered k v t f)) r (left k v t f)

-- and so for many features, of these heads, words, tags and bytes, with two indexes beside the lists
abbrev pub CalledMany : BpLayer → BpMany → Lent → Lent → Lent → Lent → Lent → Lent → Lent → Lent → Lent → Lent → Type 0
CalledMany given r h w g b k v t f ki vi =
    Gives
    (features_from given h.entry.now w.entry.now g.entry.now b.entry.now (entered k v t f) (entered_index ki vi))
    r
    (left_lists k v t f ki vi)

-- a whole feature of this kind, with this id where has is not 0
abbrev pub whole_feature : ℕ → ℕ → ℕ → Lent → Lent → Lent → Seen → Change
whole_feature kind has id words tags bytes = add_feature (head_at kind has id) words.entry.now tags.entry.now bytes.entry.now
