-- Document 01, "Refusals by number": the STATE of a layer, rule by rule, as one definition.
use Rattle.std.specs.Prelude.{ℕ, Bool, ◌&&◌, List, take, leb}
use Rattle.table.specs.Keys.{keys_in}
use Rattle.table.specs.Values.{values_in}
use Rattle.records.specs.Records.{follow, one_record}
use Rattle.layer.specs.declared.Figures.{Figures}
use Rattle.std.specs.Prelude.{Option, Some, None}
use Rattle.layer.specs.Held.{Seen, fits}

-- records follow each other exactly to the used end; with a feature open no opening figure exceeds the present one, and the last record starts
-- at the opening figure
abbrev pub records_ok : Option Figures → Figures → List ℕ → Bool
records_ok None used ws = follow ws
records_ok (Some o) used ws = fits o used && (follow (take o.features ws) && one_record ws o.features)

-- no used figure exceeds its list or cap; no text runs past the used text, the name's, a key's or a value's; each value is one of the seven kinds and
-- its content one of that kind's; and the records are as above
unfoldable pub valid : Seen → Bool
valid v =
    fits v.layer.used v.room
    && (leb v.layer.name v.layer.used.texts
    && (keys_in v.layer.used.texts v.held.keys
    && (values_in v.layer.used.texts v.held.values
    && records_ok v.layer.feature v.layer.used v.held.features)))
