-- Document 01, "Adding a point", "Emitting": what one point gives, as the next state and a run of words laid at a place. Nothing here looks at the words
-- that stand in the list, and no room is asked for.
use Rattle.std.specs.Prelude.{ℕ, ◌+◌, ◌-◌, Bool, cond, List, [], ◌∷◌, ◌++◌, eqb, ◌-ℤ◌, length, Some}
use Rattle.clip.specs.declared.Pt.{Pt}
use Rattle.words.specs.Params.{param}
use Rattle.encoder.specs.Points.{clamped, is_last, out_before, last_of}
use Rattle.encoder.specs.Pushed.{command}
use Rattle.encoder.specs.Tallies.{skipped_one, out_one}
use Rattle.encoder.specs.declared.GeomEncoder.{GeomEncoder}

-- ---- taking out: "Polygons with count ≥ 2", the last point "strictly between the one before and the new one on one horizontal or vertical"
abbrev pub taken_out : GeomEncoder → Pt → Bool
taken_out s p = out_before s.kind s.count s.pt0 s.pt1 p

abbrev pub popped : GeomEncoder → GeomEncoder
popped s = record {
  tally = out_one s.tally;
  kind = s.kind;
  bbox = s.bbox;
  xy_end = s.xy_end;
  pt0 = s.pt0;
  pt1 = s.pt0;
  cmd_offset = s.cmd_offset;
  count = s.count - 1;
  used = s.used - 2;
}

-- ---- "Write the two steps from the last emitted point (0, 0 at the start); count rises"
pub record Emission : Type 0 where
  pub next : GeomEncoder
  pub at : ℕ
  pub run : List ℕ

abbrev pub steps : Pt → Pt → List ℕ
steps from to = param (to.x -ℤ from.x) ∷ param (to.y -ℤ from.y) ∷ []

-- where the last command stands, once cmd is pushed
abbrev pub place_of : List ℕ → GeomEncoder → ℕ
place_of [] s = s.cmd_offset
place_of (w ∷ ws) s = s.used

abbrev pub advanced : GeomEncoder → Pt → ℕ → ℕ → GeomEncoder
advanced s p place used = record {
  tally = s.tally;
  kind = s.kind;
  bbox = s.bbox;
  xy_end = s.xy_end;
  pt0 = s.pt1;
  pt1 = Some p;
  cmd_offset = place;
  count = s.count + 1;
  used = used;
}

abbrev pub pushed : List ℕ → GeomEncoder → Pt → Emission
pushed cmd s p =
    let run : List ℕ = cmd ++ steps (last_of s.pt1) p in
    record { next = advanced s p (place_of cmd s) (s.used + length run); at = s.used; run = run }

-- ---- "a count of 0 becomes 1, nothing else happens", but that it is counted
abbrev pub begun : ℕ → ℕ
begun count = cond (eqb count 0) 1 count

abbrev pub skipped : GeomEncoder → Emission
skipped s = record {
  next = record {
    tally = skipped_one s.tally;
    kind = s.kind;
    bbox = s.bbox;
    xy_end = s.xy_end;
    pt0 = s.pt0;
    pt1 = s.pt1;
    cmd_offset = s.cmd_offset;
    count = begun s.count;
    used = s.used;
  };
  at = s.used;
  run = [];
}

-- a point p of the box is emitted
abbrev pub emitted_at : GeomEncoder → Pt → Emission
emitted_at s p = cond (is_last s.pt1 p) (skipped s) (pushed (command s.kind s.count) (cond (taken_out s p) (popped s) s) p)

unfoldable pub emission : GeomEncoder → Pt → Emission
emission s p = emitted_at s (clamped s.bbox p)
