-- Document 02, request (ix): "Each is defined from the calls made since the state was fresh". The four counts by the calls alone, for a kind and a box: no
-- state and no words are looked at. `tally_is` of proofs/Tallied: these are the counts of the state, after every run of accepted calls.
use Rattle.std.specs.Prelude.{ℕ, ◌+◌, Bool, true, false, cond, not, ◌&&◌, ◌||◌, List, [], ◌∷◌, ◌++◌, eqb, length, Option, Some, None}
use Rattle.clip.specs.declared.Pt.{Pt}
use Rattle.clip.specs.declared.BBox.{BBox}
use Rattle.encoder.specs.declared.tally.Tally.{Tally}
use Rattle.encoder.specs.Points.{clamped, is_last, last_between}
use Rattle.encoder.specs.Adding.{cut_from}
use Rattle.encoder.specs.Calls.{Call, add, complete}

-- ---- "raw points taken"
abbrev pub taken_in : List Call → ℕ
taken_in [] = 0
taken_in (add p ∷ cs) = 1 + taken_in cs
taken_in (complete ∷ cs) = taken_in cs

-- ---- "boundary points emitted": the ends that the clip moved, of the segment from the raw point before p in its part; whatever becomes of them
abbrev pub brought_by : ℕ → BBox → Option Pt → Pt → List Pt
brought_by kind b before p = cond (eqb kind 1) [] (cut_from b before p)

abbrev pub boundary_in : ℕ → BBox → Option Pt → List Call → ℕ
boundary_in kind b before [] = 0
boundary_in kind b before (add p ∷ cs) = length (brought_by kind b before p) + boundary_in kind b (Some p) cs
boundary_in kind b before (complete ∷ cs) = boundary_in kind b None cs

-- ---- what is emitted: boundary points and points, each clamped to the box, and where parts end
pub data Emitted : Type 0 where
  point : Pt → Emitted
  part_end : Emitted

abbrev pub in_box : BBox → List Pt → List Emitted
in_box b [] = []
in_box b (p ∷ ps) = point (clamped b p) ∷ in_box b ps

abbrev pub emitted_in : ℕ → BBox → Option Pt → List Call → List Emitted
emitted_in kind b before [] = []
emitted_in kind b before (add p ∷ cs) = in_box b (brought_by kind b before p ++ (p ∷ [])) ++ emitted_in kind b (Some p) cs
emitted_in kind b before (complete ∷ cs) = part_end ∷ emitted_in kind b None cs

abbrev pub one : Bool → ℕ
one true = 1
one false = 0

-- ---- "points skipped as equal to the last one": the last one outlives a part, and there is none at the start
abbrev pub skipped_in : Option Pt → List Emitted → ℕ
skipped_in last [] = 0
skipped_in last (point q ∷ es) = one (is_last last q) + skipped_in (Some q) es
skipped_in last (part_end ∷ es) = skipped_in last es

-- ---- "points taken out as lying between neighbours": of one part, where the new point is not the last one again
abbrev pub is_out : Option Pt → Option Pt → Pt → Bool
is_out before last q = not (is_last last q) && last_between before last q

-- the point before the last, once q is emitted: as it was where q is skipped or the last one is taken out, else the last one
abbrev pub before_next : Option Pt → Option Pt → Pt → Option Pt
before_next before last q = cond (is_last last q || is_out before last q) before last

abbrev pub out_in : Option Pt → Option Pt → List Emitted → ℕ
out_in before last [] = 0
out_in before last (point q ∷ es) = one (is_out before last q) + out_in (before_next before last q) (Some q) es
out_in before last (part_end ∷ es) = out_in None None es

-- ---- the four of them; only polygons take out
unfoldable pub tally_of : ℕ → BBox → List Call → Tally
tally_of kind b cs =
    record {
      taken = taken_in cs;
      boundary = boundary_in kind b None cs;
      skipped = skipped_in None (emitted_in kind b None cs);
      taken_out = cond (eqb kind 3) (out_in None None (emitted_in kind b None cs)) 0;
    }
