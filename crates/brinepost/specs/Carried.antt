-- An encoder's state as C carries it, and the state that it stands for. A point that may be missing is a flag, x and y: 0 for a missing one, 1 for a point.
use Rattle.std.specs.Prelude.{Bool, cond, ◌&&◌, leb, eqb, pos, Option, Some, None}
use Rattle.clip.specs.declared.Pt.{Pt}
use Rattle.encoder.specs.declared.GeomEncoder.{GeomEncoder}
use Rattle.brinepost.specs.declared.state.BpPoint.{BpPoint}
use Rattle.brinepost.specs.declared.state.BpEncoder.{BpEncoder}

-- the point that C's three numbers stand for, where the flag is 0 or 1; what lies behind a 0 means nothing
unfoldable pub point_of : BpPoint → Option Pt
point_of p = cond (eqb p.is_set 0) None (Some (record { x = p.x; y = p.y }))

unfoldable pub point_to : Option Pt → BpPoint
point_to None = record { is_set = 0; x = pos 0; y = pos 0 }
point_to (Some p) = record { is_set = 1; x = p.x; y = p.y }

-- each flag is 0 or 1
unfoldable pub are_flags : BpEncoder → Bool
are_flags s = leb s.xy_end.is_set 1 && leb s.pt0.is_set 1 && leb s.pt1.is_set 1

unfoldable pub state_of : BpEncoder → GeomEncoder
state_of s =
    record {
      tally = record { taken = s.taken; boundary = s.boundary; skipped = s.skipped; taken_out = s.taken_out };
      kind = s.kind;
      bbox = record { x_min = s.x_min; x_max = s.x_max; y_min = s.y_min; y_max = s.y_max };
      xy_end = point_of s.xy_end;
      pt0 = point_of s.pt0;
      pt1 = point_of s.pt1;
      cmd_offset = s.cmd_offset;
      count = s.count;
      used = s.used;
    }

unfoldable pub state_to : GeomEncoder → BpEncoder
state_to s =
    record {
      kind = s.kind;
      count = s.count;
      used = s.used;
      cmd_offset = s.cmd_offset;
      x_min = s.bbox.x_min;
      x_max = s.bbox.x_max;
      y_min = s.bbox.y_min;
      y_max = s.bbox.y_max;
      xy_end = point_to s.xy_end;
      pt0 = point_to s.pt0;
      pt1 = point_to s.pt1;
      taken = s.tally.taken;
      boundary = s.tally.boundary;
      skipped = s.tally.skipped;
      taken_out = s.tally.taken_out;
    }

-- every number 0: where there is no state to give
unfoldable pub nothing : BpEncoder
nothing =
    record {
      kind = 0;
      count = 0;
      used = 0;
      cmd_offset = 0;
      x_min = pos 0;
      x_max = pos 0;
      y_min = pos 0;
      y_max = pos 0;
      xy_end = point_to None;
      pt0 = point_to None;
      pt1 = point_to None;
      taken = 0;
      boundary = 0;
      skipped = 0;
      taken_out = 0;
    }
