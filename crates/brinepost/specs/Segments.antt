-- A clip's answer as seven numbers: the refusal's number, the ends of the clipped segment, and what became of each end. A refused clip has no segment, and
-- says 0 for each.
use Rattle.std.specs.Prelude.{ℕ, List, [], ◌∷◌, pos}
use Rattle.refusal.specs.Said.{Said}
use Rattle.clip.specs.declared.ClippedSeg.{ClippedSeg}
use Rattle.clip.specs.Numbers.{edge_number}
use Rattle.brinepost.specs.declared.segment.BpClipped.{BpClipped}

abbrev pub ends : ℕ → List ClippedSeg → BpClipped
ends n [] = record { refusal = n; x0 = pos 0; y0 = pos 0; x1 = pos 0; y1 = pos 0; edge0 = 0; edge1 = 0 }
ends n (c ∷ cs) =
    record {
      refusal = n;
      x0 = c.seg.p0.x;
      y0 = c.seg.p0.y;
      x1 = c.seg.p1.x;
      y1 = c.seg.p1.y;
      edge0 = edge_number c.first;
      edge1 = edge_number c.second;
    }

unfoldable pub flat_clip : Said (List ClippedSeg) → BpClipped
flat_clip a = ends a.number a.values
