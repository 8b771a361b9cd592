-- Document 01, "Adding a point", "Completing".
use Rattle.std.specs.Prelude.{ℕ, ◌+◌, Bool, cond, ◌&&◌, List, eqb, length, None}
use Rattle.promise.specs.Laid.{lay}
use Rattle.promise.specs.Answers.{Written, kept}
use Rattle.refusal.specs.declared.Refusal.TheVariants.{State, Empty}
use Rattle.refusal.specs.Said.{Said}
use Rattle.encoder.specs.Pushed.{count_word, close_word}
use Rattle.encoder.specs.declared.GeomEncoder.{GeomEncoder}
use Rattle.encoder.specs.States.{valid}
use Rattle.encoder.specs.Answers.{Counted, turned, fitting}
use Rattle.encoder.specs.Emitting.{place_of}

-- "points set the MoveTo's count .. Others with count > 1 set LineTo's count to count - 1": the word laid at the last command's place
abbrev pub counting : GeomEncoder → List ℕ
counting s = count_word s.kind s.count

-- "polygons then write ClosePath, 15"
abbrev pub closing : GeomEncoder → List ℕ
closing s = close_word s.kind s.count

-- "Count, raw end and the point before last are cleared; the last point stays." The counts of request (ix) stay too.
abbrev pub cleared : GeomEncoder → ℕ → ℕ → GeomEncoder
cleared s place used = record {
  tally = s.tally;
  kind = s.kind;
  bbox = s.bbox;
  xy_end = None;
  pt0 = None;
  pt1 = s.pt1;
  cmd_offset = place;
  count = 0;
  used = used;
}

-- points "reset nothing"
unfoldable pub finished : GeomEncoder → GeomEncoder
finished s = cond (eqb s.kind 1) s (cleared s (place_of (closing s) s) (s.used + length (closing s)))

abbrev pub closed : GeomEncoder → List ℕ → Written GeomEncoder (List ℕ)
closed s out = record { answer = finished s; memory = lay s.used (closing s) (lay s.cmd_offset (counting s) out) }

-- EMPTY: "a point geometry with count 0 is completed"
abbrev pub is_empty : GeomEncoder → Bool
is_empty s = eqb s.kind 1 && eqb s.count 0

-- ---- the call: STATE, EMPTY, ROOM
unfoldable pub completed : GeomEncoder → List ℕ → Written (Said Counted) (List ℕ)
completed s out = cond (valid s (length out)) (cond (is_empty s) (kept (turned Empty s) out) (fitting s out (closed s out))) (kept (turned State s) out)
