-- Document 01, "Sample jobs": those marked P, each with what it is to give, as one list; and the one statement that the definitions give it.
-- A job is also read back: the vertices of its words are the points that were kept, with their commands.
use Rattle.std.specs.Prelude.{◌≡◌, refl, List, [], ◌∷◌, map, ℕ, ℤ, pos, negsuc, take, replicate}
use Rattle.promise.specs.Answers.{Written}
use Rattle.refusal.specs.Said.{Said}
use Rattle.clip.specs.declared.Seg.{Seg}
use Rattle.clip.specs.declared.BBox.{BBox}
use Rattle.clip.specs.declared.ClippedSeg.{ClippedSeg}
use Rattle.clip.specs.declared.Edge.{Edge}
use Rattle.clip.specs.declared.Edge.TheVariants.{Stayed, XMin, XMax, YMin}
use Rattle.clip.specs.Domain.{is_coord, is_good}
use Rattle.clip.specs.Cutting.{clip, overlap, cuts, cross_at_x}
use Rattle.clip.specs.Answer.{clipped}
use Rattle.words.specs.Params.{param, unparam}
use Rattle.encoder.specs.States.{valid}
use Rattle.encoder.specs.Emitting.{emission}
use Rattle.encoder.specs.Adding.{boundary, added}
use Rattle.encoder.specs.Completing.{finished, completed}
use Rattle.encoder.specs.Jobs.{is_job, Outcome, on, off, encoded_job, finished_job}
use Rattle.decoder.specs.Vertices.{Trace, traced, faulty, numbers}
use Rattle.decoder.specs.ReadingWords.{drawn, commands, trace_from, trace}
use Rattle.wire.specs.Varints.{varint}
use Rattle.wire.specs.Schema.{head}
use Rattle.wire.specs.Fields.{varint_field, delimited}
use Rattle.layer.specs.Held.{mem, seen}
use Rattle.layer.specs.State.{valid as validLayer}
use Rattle.layer.specs.Calls.{new_layer}
use Rattle.tile.specs.Texts.{text_field}
use Rattle.tile.specs.Layers.{layer_bytes, layer_field, name_at}
use Rattle.tile.specs.declared.Tile.{Tile}
use Rattle.tile.specs.Tiles.{TileMemory, lists, valid_tile, fresh_tile}
use Rattle.tile.specs.Adding.{add_layer}

-- ---- what is asked: a job (kind, box, points, part ends), a clip (box, segment), or a tile (extent, the name of its one layer, which has no features)
pub data Asked : Type 0 where
  job : ℕ → BBox → List ℤ → List ℕ → Asked
  cut : BBox → Seg → Asked
  tile : ℕ → List ℕ → Asked

-- ---- what is given: the refusal's number, or zero; a job's words, and three numbers a vertex of their reading; a clip's segment; a tile's bytes
pub data Given : Type 0 where
  words : ℕ → List ℕ → List ℤ → Given
  segment : ℕ → List Seg → Given
  bytes : ℕ → List ℕ → Given

-- the vertices that words read to
abbrev pub read_back : Trace → List ℤ
read_back (traced vs c) = numbers vs
read_back (faulty f) = []

abbrev pub job_gives : Written (Said ℕ) (List ℕ) → Given
job_gives w = words w.answer.number (take w.answer.values w.memory) (read_back (trace (take w.answer.values w.memory)))

abbrev pub cut_gives : Said (List ClippedSeg) → Given
cut_gives a = segment a.number (map (λ (c : ClippedSeg). c.seg) a.values)

abbrev pub tile_gives : Written (Said Tile) TileMemory → Given
tile_gives w = bytes w.answer.number (take w.answer.values.used w.memory.bytes)

-- by the definitions; a job's words and a tile's bytes go into lists of zeros
abbrev pub gives : Asked → Given
gives (job kind box points ends) = job_gives (encoded_job kind box points ends (replicate 32 0))
gives (cut box s) = cut_gives (clipped s box)
gives (tile extent name) = tile_gives (add_layer (fresh_tile extent) (seen (new_layer name extent) (mem [] [] name [])) (lists (replicate 2 0) (replicate 32 0)))

-- ---- the samples
pub record Sample : Type 0 where
  pub asked : Asked
  pub expected : Given

abbrev pub box : ℕ → BBox
box n = record { x_min = pos 0; x_max = pos n; y_min = pos 0; y_max = pos n }

abbrev pub from : ℤ → ℤ → ℤ → ℤ → Seg
from x0 y0 x1 y1 = record { p0 = record { x = x0; y = y0 }; p1 = record { x = x1; y = y1 } }

abbrev pub samples : List Sample
samples =
    -- two points
    record {
      asked = job 1 (box 100) (pos 5 ∷ pos 7 ∷ pos 3 ∷ pos 2 ∷ []) (2 ∷ []);
      expected = words 0 (17 ∷ 10 ∷ 14 ∷ 3 ∷ 9 ∷ []) (pos 1 ∷ pos 5 ∷ pos 7 ∷ pos 1 ∷ pos 3 ∷ pos 2 ∷ []);
    } ∷
    -- a line
    record {
      asked = job 2 (box 10) (pos 2 ∷ pos 2 ∷ pos 2 ∷ pos 10 ∷ pos 10 ∷ pos 10 ∷ []) (3 ∷ []);
      expected = words 0 (9 ∷ 4 ∷ 4 ∷ 18 ∷ 0 ∷ 16 ∷ 16 ∷ 0 ∷ []) (pos 1 ∷ pos 2 ∷ pos 2 ∷ pos 2 ∷ pos 2 ∷ pos 10 ∷ pos 2 ∷ pos 10 ∷ pos 10 ∷ []);
    } ∷
    -- the same, then a second part
    record {
      asked = job 2 (box 10) (pos 2 ∷ pos 2 ∷ pos 2 ∷ pos 10 ∷ pos 10 ∷ pos 10 ∷ pos 1 ∷ pos 1 ∷ pos 3 ∷ pos 5 ∷ []) (3 ∷ 5 ∷ []);
      expected =
          words 0 (9 ∷ 4 ∷ 4 ∷ 18 ∷ 0 ∷ 16 ∷ 16 ∷ 0 ∷ 9 ∷ 17 ∷ 17 ∷ 10 ∷ 4 ∷ 8 ∷ [])
          (pos 1 ∷ pos 2 ∷ pos 2 ∷ pos 2 ∷ pos 2 ∷ pos 10 ∷ pos 2 ∷ pos 10 ∷ pos 10 ∷ pos 1 ∷ pos 1 ∷ pos 1 ∷ pos 2 ∷ pos 3 ∷ pos 5 ∷ []);
    } ∷
    -- a polygon
    record {
      asked = job 3 (box 100) (pos 3 ∷ pos 6 ∷ pos 8 ∷ pos 12 ∷ pos 20 ∷ pos 34 ∷ []) (3 ∷ []);
      expected =
          words 0 (9 ∷ 6 ∷ 12 ∷ 18 ∷ 10 ∷ 12 ∷ 24 ∷ 44 ∷ 15 ∷ [])
          (pos 1 ∷ pos 3 ∷ pos 6 ∷ pos 2 ∷ pos 8 ∷ pos 12 ∷ pos 2 ∷ pos 20 ∷ pos 34 ∷ pos 7 ∷ pos 20 ∷ pos 34 ∷ []);
    } ∷
    -- a point taken out
    record {
      asked = job 3 (box 10) (pos 0 ∷ pos 0 ∷ pos 4 ∷ pos 0 ∷ pos 9 ∷ pos 0 ∷ pos 9 ∷ pos 9 ∷ []) (4 ∷ []);
      expected =
          words 0 (9 ∷ 0 ∷ 0 ∷ 18 ∷ 18 ∷ 0 ∷ 0 ∷ 18 ∷ 15 ∷ [])
          (pos 1 ∷ pos 0 ∷ pos 0 ∷ pos 2 ∷ pos 9 ∷ pos 0 ∷ pos 2 ∷ pos 9 ∷ pos 9 ∷ pos 7 ∷ pos 9 ∷ pos 9 ∷ []);
    } ∷
    -- a part that starts on the last point
    record {
      asked = job 3 (box 10) (pos 0 ∷ pos 0 ∷ pos 4 ∷ pos 0 ∷ pos 4 ∷ pos 4 ∷ pos 4 ∷ pos 4 ∷ pos 8 ∷ pos 4 ∷ pos 8 ∷ pos 8 ∷ []) (3 ∷ 6 ∷ []);
      expected =
          words 0 (9 ∷ 0 ∷ 0 ∷ 18 ∷ 8 ∷ 0 ∷ 0 ∷ 8 ∷ 15 ∷ 18 ∷ 8 ∷ 0 ∷ 0 ∷ 8 ∷ 15 ∷ [])
          (pos 1 ∷ pos 0 ∷ pos 0 ∷ pos 2 ∷ pos 4 ∷ pos 0 ∷ pos 2 ∷ pos 4 ∷ pos 4 ∷ pos 7 ∷ pos 4 ∷ pos 4
          ∷ pos 2 ∷ pos 8 ∷ pos 4 ∷ pos 2 ∷ pos 8 ∷ pos 8 ∷ pos 7 ∷ pos 8 ∷ pos 8 ∷ []);
    } ∷
    -- a line that crosses the box
    record {
      asked = job 2 (box 10) (negsuc 4 ∷ pos 3 ∷ pos 15 ∷ pos 8 ∷ []) (2 ∷ []);
      expected =
          words 0 (9 ∷ 0 ∷ 6 ∷ 26 ∷ 0 ∷ 2 ∷ 20 ∷ 6 ∷ 0 ∷ 2 ∷ [])
          (pos 1 ∷ pos 0 ∷ pos 3 ∷ pos 2 ∷ pos 0 ∷ pos 4 ∷ pos 2 ∷ pos 10 ∷ pos 7 ∷ pos 2 ∷ pos 10 ∷ pos 8 ∷ []);
    } ∷
    -- a clip: cut at both sides
    record {
      asked = cut (box 10) (from (negsuc 9) (pos 0) (pos 990) (pos 51));
      expected = segment 0 (from (pos 0) (pos 1) (pos 10) (pos 2) ∷ []);
    } ∷
    -- a clip: misses the box
    record {
      asked = cut (box 10) (from (negsuc 0) (pos 0) (pos 1) (negsuc 0));
      expected = segment 0 (from (pos 0) (pos 0) (pos 0) (pos 0) ∷ []);
    } ∷
    -- a clip: a miss
    record {
      asked = cut (box 10) (from (pos 0) (negsuc 0) (negsuc 0) (pos 1));
      expected = segment 0 (from (pos 0) (pos 0) (negsuc 0) (pos 1) ∷ []);
    } ∷
    -- a tile of extent 4096 with layer "a", which has no features: 1A 08 0A 01 61 28 80 20 78 02
    record {
      asked = tile 4096 (97 ∷ []);
      expected = bytes 0 (26 ∷ 8 ∷ 10 ∷ 1 ∷ 97 ∷ 40 ∷ 128 ∷ 32 ∷ 120 ∷ 2 ∷ []);
    } ∷
    []

-- ---- each sample is given as it is expected
pub samples_hold : map (λ (s : Sample). gives s.asked) samples ≡ map (λ (s : Sample). s.expected) samples
unfolding encoded_job is_job valid is_coord is_good emission boundary added finished completed clip overlap cuts cross_at_x clipped
    param unparam drawn commands trace_from add_layer valid_tile validLayer layer_field layer_bytes name_at text_field delimited varint_field head varint
samples_hold = refl

-- ---- the edges that the three P clips name, of the first end and of the second (document 02, request (v))
abbrev pub edges_of : List ClippedSeg → List Edge
edges_of [] = []
edges_of (c ∷ cs) = c.first ∷ c.second ∷ edges_of cs

-- cut at both sides
pub both_sides : edges_of (clipped (from (negsuc 9) (pos 0) (pos 990) (pos 51)) (box 10)).values ≡ XMin ∷ XMax ∷ []
unfolding clipped is_good is_coord clip overlap cuts cross_at_x
both_sides = refl

-- misses the box: both ends come to the corner, each by another edge
pub to_the_corner : edges_of (clipped (from (negsuc 0) (pos 0) (pos 1) (negsuc 0)) (box 10)).values ≡ XMin ∷ YMin ∷ []
unfolding clipped is_good is_coord clip overlap cuts cross_at_x
to_the_corner = refl

-- a miss: x_min holds the moved end too, and is not named
pub one_of_two_edges : edges_of (clipped (from (pos 0) (negsuc 0) (negsuc 0) (pos 1)) (box 10)).values ≡ YMin ∷ Stayed ∷ []
unfolding clipped is_good is_coord clip overlap cuts cross_at_x
one_of_two_edges = refl

-- ---- what became of the points of the P jobs, behind the last call: taken, boundary, skipped, taken out (document 02, request (ix))
abbrev pub counts_of : Outcome → List ℕ
counts_of (on n s) = s.tally.taken ∷ s.tally.boundary ∷ s.tally.skipped ∷ s.tally.taken_out ∷ []
counts_of (off a) = []

abbrev pub counts_given : Asked → List ℕ
counts_given (job kind box points ends) = counts_of (finished_job kind box points ends (replicate 32 0)).answer
counts_given (cut box s) = []
counts_given (tile extent name) = []

pub counts_hold : map (λ (s : Sample). counts_given s.asked) samples ≡
    (2 ∷ 0 ∷ 0 ∷ 0 ∷ []) ∷ (3 ∷ 0 ∷ 0 ∷ 0 ∷ []) ∷ (5 ∷ 0 ∷ 0 ∷ 0 ∷ []) ∷ (3 ∷ 0 ∷ 0 ∷ 0 ∷ []) ∷
    (4 ∷ 0 ∷ 0 ∷ 1 ∷ []) ∷  -- a point taken out
    (6 ∷ 0 ∷ 1 ∷ 0 ∷ []) ∷  -- the second part starts on the last point, which is skipped
    (2 ∷ 2 ∷ 0 ∷ 0 ∷ []) ∷  -- a line that crosses the box
    [] ∷ [] ∷ [] ∷ [] ∷ []
unfolding finished_job is_job valid is_coord is_good emission boundary added finished completed clip overlap cuts cross_at_x param
counts_hold = refl
