-- The answer of a clip, for all numbers, in document 01's numbers and values: BOX, then COORD, else the clipped segment.
use Rattle.std.specs.Prelude.{Bool, cond, ◌&&◌, List, [], ◌∷◌}
use Rattle.refusal.specs.declared.Refusal.TheVariants.{Box, Coord}
use Rattle.refusal.specs.Said.{Said, accepted, refused}
use Rattle.clip.specs.declared.Seg.{Seg}
use Rattle.clip.specs.declared.BBox.{BBox}
use Rattle.clip.specs.declared.ClippedSeg.{ClippedSeg}
use Rattle.std.specs.Prelude.{Result, Ok, Err}
use Rattle.refusal.specs.declared.Refusal.{Refusal}
use Rattle.clip.specs.Domain.{is_coord, is_good}
use Rattle.clip.specs.Cutting.{clip}

-- what each case of the answer says. The values are the clipped segments: one, or none where the call is refused, since a clip has no state and no count
-- to give back
abbrev pub said_clipped : Result ClippedSeg Refusal → Said (List ClippedSeg)
said_clipped (Ok c) = accepted (c ∷ [])
said_clipped (Err r) = refused r []

-- both ends lie within the limit
abbrev pub are_coords : Seg → Bool
are_coords s = is_coord s.p0 && is_coord s.p1

-- what a call says
unfoldable pub clipped : Seg → BBox → Said (List ClippedSeg)
clipped s b = cond (is_good b) (cond (are_coords s) (accepted (clip b s ∷ [])) (refused Coord [])) (refused Box [])
