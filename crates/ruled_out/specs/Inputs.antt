-- What the laws of this crate are proved at: small boxes, points, states, layers and tiles; and how two unlike answers are told apart, by one number of each.
use Rattle.std.specs.Prelude.{ℕ, suc, Bool, false, cond, List, [], ◌∷◌, eqb, ℤ, pos, nat_abs, get_or, Option, Some, None}
use Rattle.refusal.specs.Refusals.{number_of}
use Rattle.clip.specs.declared.Pt.{Pt}
use Rattle.clip.specs.declared.Seg.{Seg}
use Rattle.clip.specs.declared.BBox.{BBox}
use Rattle.clip.specs.declared.ClippedSeg.{ClippedSeg}
use Rattle.clip.specs.Numbers.{box_at}
use Rattle.encoder.specs.declared.tally.Tally.{Tally}
use Rattle.encoder.specs.declared.GeomEncoder.{GeomEncoder}
use Rattle.encoder.specs.Tallies.{untouched}
use Rattle.table.specs.declared.Text.{Text}
use Rattle.layer.specs.declared.Figures.{Figures}
use Rattle.layer.specs.declared.Layer.{Layer}
use Rattle.layer.specs.Held.{Memory, mem, Seen, seen, Change, refuses, holds}
use Rattle.wire.specs.Reading.{VarintRead, good, cut, over}
use Rattle.decoder.specs.Vertices.{Trace, traced, faulty, numbers}

-- ---- one number of an answer
-- a test, a whole number without its sign, an element of a list
abbrev pub bit : Bool → ℕ
bit b = cond b 1 0

abbrev pub size : ℤ → ℕ
size z = nat_abs z

abbrev pub item : ℕ → List ℕ → ℕ
item i l = get_or l i 0

abbrev pub size_of : ℕ → List ℤ → ℕ
size_of i l = nat_abs (get_or l i (pos 0))

-- the four numbers of a segment, and of each segment that a clip answers
abbrev pub corners_of : Seg → List ℕ
corners_of s = size s.p0.x ∷ size s.p0.y ∷ size s.p1.x ∷ size s.p1.y ∷ []

abbrev pub first_corners : List ClippedSeg → List ℕ
first_corners [] = []
first_corners (c ∷ cs) = corners_of c.seg

-- the y of the first of some points
abbrev pub first_y : List Pt → ℕ
first_y [] = 0
first_y (p ∷ ps) = size p.y

-- the words used in the first of some states
abbrev pub first_used : List GeomEncoder → ℕ
first_used [] = 0
first_used (s ∷ ss) = s.used

-- whether a point is there
abbrev pub is_there : Option Pt → ℕ
is_there None = 0
is_there (Some p) = 1

-- how many elements at the front of two lists are the same: of one list written over two unlike ones, those that were written
abbrev pub alike : List ℕ → List ℕ → ℕ
alike [] m = 0
alike (a ∷ l) [] = 0
alike (a ∷ l) (b ∷ m) = cond (eqb a b) (suc (alike l m)) 0

-- of a reading: three numbers a vertex, where the cursor is at the end, the fault's number and place
abbrev pub vertices : Trace → List ℤ
vertices (traced vs c) = numbers vs
vertices (faulty f) = []

abbrev pub cursor_x : Trace → ℕ
cursor_x (traced vs c) = size c.x
cursor_x (faulty f) = 0

abbrev pub fault_of : Trace → ℕ
fault_of (traced vs c) = 0
fault_of (faulty f) = number_of f.refusal

abbrev pub place_of : Trace → ℕ
place_of (traced vs c) = 0
place_of (faulty f) = f.place

-- how many bytes a varint took, none where there is no good one
abbrev pub read_bytes : VarintRead → ℕ
read_bytes (good n count) = count
read_bytes cut = 0
read_bytes (over place) = 0

-- 1 + the index that was found, or 0
abbrev pub found_index : Option ℕ → ℕ
found_index (Some j) = suc j
found_index None = 0

-- what a call makes of a layer: the refusal's number; else the figures, the used parts, and 1 + the features' figure at opening, or 0 where none is open
abbrev pub figures : ℕ → ℕ → ℕ → ℕ → Figures
figures keys values texts features = record { keys = keys; values = values; texts = texts; features = features }

abbrev pub refusal_of : Change → ℕ
refusal_of (refuses r) = number_of r
refusal_of (holds t h) = 0

abbrev pub used_after : Change → Figures
used_after (refuses r) = figures 0 0 0 0
used_after (holds t h) = t.used

abbrev pub held_after : Change → Memory
held_after (refuses r) = mem [] [] [] []
held_after (holds t h) = h

abbrev pub open_since : Option Figures → ℕ
open_since None = 0
open_since (Some o) = suc o.features

abbrev pub open_after : Change → ℕ
open_after (refuses r) = 0
open_after (holds t h) = open_since t.feature

-- of the first of some layers the extent, of the first of some texts its start and its length
abbrev pub first_extent : List Layer → ℕ
first_extent [] = 0
first_extent (s ∷ ss) = s.extent

abbrev pub first_start : List Text → ℕ
first_start [] = 0
first_start (t ∷ ts) = t.start

abbrev pub first_length : List Text → ℕ
first_length [] = 0
first_length (t ∷ ts) = t.len

-- ---- boxes
abbrev pub ten : BBox
ten = box_at (pos 0) (pos 10) (pos 0) (pos 10)

abbrev pub hundred : BBox
hundred = box_at (pos 0) (pos 100) (pos 0) (pos 100)

-- no box: it has no width
abbrev pub flat : BBox
flat = box_at (pos 0) (pos 0) (pos 0) (pos 10)

-- ---- states of the encoder in the box 0..100: the raw end, the last point but one, the last point; the last command's place, the count, the words used
abbrev pub state : ℕ → Option Pt → Option Pt → Option Pt → ℕ → ℕ → ℕ → GeomEncoder
state kind raw before last place count used =
    record { tally = untouched; kind = kind; bbox = hundred; xy_end = raw; pt0 = before; pt1 = last; cmd_offset = place; count = count; used = used }

abbrev pub point : ℤ → ℤ → Option Pt
point x y = Some (record { x = x; y = y })

-- one point, (5,7), of a geometry of that kind, and its second, (3,2)
abbrev pub after_one : ℕ → GeomEncoder
after_one kind = state kind (point (pos 5) (pos 7)) None (point (pos 5) (pos 7)) 0 1 3

abbrev pub after_two : ℕ → GeomEncoder
after_two kind = state kind (point (pos 3) (pos 2)) (point (pos 5) (pos 7)) (point (pos 3) (pos 2)) 3 2 6

-- a state with these counts: points taken, boundary points, points skipped, points taken out
abbrev pub tally_of : ℕ → ℕ → ℕ → ℕ → Tally
tally_of taken boundary skipped out = record { taken = taken; boundary = boundary; skipped = skipped; taken_out = out }

abbrev pub tallied : Tally → GeomEncoder → GeomEncoder
tallied t s =
    record {
      tally = t;
      kind = s.kind;
      bbox = s.bbox;
      xy_end = s.xy_end;
      pt0 = s.pt0;
      pt1 = s.pt1;
      cmd_offset = s.cmd_offset;
      count = s.count;
      used = s.used;
    }

-- ---- a layer "a" of extent 4096 with one point, (2,2), of id 7 and with the tag "k" = "v", in lists that have room for more
abbrev pub lent : Memory
lent =
    mem (1 ∷ 1 ∷ 0 ∷ 0 ∷ []) (1 ∷ 2 ∷ 1 ∷ 0 ∷ 0 ∷ 0 ∷ []) (97 ∷ 107 ∷ 118 ∷ 0 ∷ 0 ∷ 0 ∷ [])
    (1 ∷ 1 ∷ 7 ∷ 0 ∷ 2 ∷ 3 ∷ 9 ∷ 4 ∷ 4 ∷ 0 ∷ 0 ∷ 0 ∷ 0 ∷ 0 ∷ 0 ∷ 0 ∷ 0 ∷ 0 ∷ [])

abbrev pub layer_of : Figures → Option Figures → Layer
layer_of used feature = record { extent = 4096; strict = false; name = 1; used = used; feature = feature }

-- the figures when its feature was opened, and now
abbrev pub before : Figures
before = figures 0 0 1 0

abbrev pub now : Figures
now = figures 1 1 3 11

-- with the feature complete, with it open, and with a figure that is more than its list
abbrev pub whole : Seen
whole = seen (layer_of now None) lent

abbrev pub begun : Seen
begun = seen (layer_of now (Some before)) lent

abbrev pub broken : Seen
broken = seen (layer_of (figures 9 1 3 11) (Some before)) lent
