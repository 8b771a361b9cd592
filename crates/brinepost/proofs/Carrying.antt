-- A state as C carries it, put together from its parts.
use mathlib.Core.Path.{◌≡◌}
use Rattle.clip.specs.declared.Pt.{Pt}
use Rattle.std.specs.Prelude.{Option, Some}
use Rattle.encoder.specs.declared.GeomEncoder.{GeomEncoder}
use Rattle.brinepost.specs.declared.state.BpPoint.{BpPoint}
use Rattle.brinepost.specs.declared.state.BpEncoder.{BpEncoder}
use Rattle.brinepost.specs.Carried.{point_of, point_to, state_of, state_to}

pub to_point : (m : Option Pt) (p : Pt) → m ≡ Some p → ◌≡◌ {A = BpPoint} (record { is_set = 1; x = p.x; y = p.y }) (point_to m)
unfolding point_to
to_point m p e = rw e

module _ (s : BpEncoder) (a b c : Option Pt) where
  pub state_read : a ≡ point_of s.xy_end → b ≡ point_of s.pt0 → c ≡ point_of s.pt1 →
      ◌≡◌ {A = GeomEncoder}
      (record { tally = record { taken = s.taken; boundary = s.boundary; skipped = s.skipped; taken_out = s.taken_out }; kind = s.kind; bbox = record { x_min = s.x_min; x_max = s.x_max; y_min = s.y_min; y_max = s.y_max }; xy_end = a; pt0 = b; pt1 = c; cmd_offset = s.cmd_offset; count = s.count; used = s.used })
      (state_of s)
  unfolding state_of
  state_read e f g = rw (e, f, g)

module _ (s : GeomEncoder) (a b c : BpPoint) where
  pub state_made : a ≡ point_to s.xy_end → b ≡ point_to s.pt0 → c ≡ point_to s.pt1 →
      ◌≡◌ {A = BpEncoder}
      (record { kind = s.kind; count = s.count; used = s.used; cmd_offset = s.cmd_offset; x_min = s.bbox.x_min; x_max = s.bbox.x_max; y_min = s.bbox.y_min; y_max = s.bbox.y_max; xy_end = a; pt0 = b; pt1 = c; taken = s.tally.taken; boundary = s.tally.boundary; skipped = s.tally.skipped; taken_out = s.tally.taken_out })
      (state_to s)
  unfolding state_to
  state_made e f g = rw (e, f, g)
