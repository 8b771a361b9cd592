-- The encoder's state: a fresh one, and document 01's "Encoder STATE".
use Rattle.std.specs.Prelude.{ℕ, ◌+◌, ◌/◌, ◌≤◌, ◌<◌, ◌≡◌, Bool, true, false, ◌&&◌, ltb, Option, Some, None}
use Rattle.clip.specs.declared.BBox.{BBox}
use Rattle.clip.specs.Domain.{is_good}
use Rattle.words.specs.Geometries.{is_kind, room}
use Rattle.encoder.specs.Points.{in_limit, in_limits}
use Rattle.encoder.specs.Figures.{figures_fit}
use Rattle.encoder.specs.Tallies.{untouched, balanced}
use Rattle.encoder.specs.declared.GeomEncoder.{GeomEncoder}
use Rattle.clip.specs.declared.Pt.{Pt}

abbrev pub fresh : ℕ → BBox → GeomEncoder
fresh kind bbox = record {
  tally = untouched;
  kind = kind;
  bbox = bbox;
  xy_end = None;
  pt0 = None;
  pt1 = None;
  cmd_offset = 0;
  count = 0;
  used = 0;
}

-- STATE is refused exactly where this is false: "used words exceed the room; count exceeds used / 2 + 1 (rounded down); count is not zero and the last
-- command's place is not below used;
-- or its kind is not 1, 2 or 3, or its box or a stored point would be refused as BOX or COORD"; and document 02 (ix): more points are lost than were given
unfoldable pub valid : GeomEncoder → ℕ → Bool
valid s length =
    figures_fit s.used s.count s.cmd_offset length && is_kind s.kind && is_good s.bbox && in_limits s.xy_end s.pt0 s.pt1 &&
    balanced s.tally

-- the rules of STATE, each by itself
pub record Valid (s : GeomEncoder) (n : ℕ) : Type 0 where
  pub fits : s.used ≤ room n
  pub counted : s.count ≤ s.used / 2 + 1
  pub placed : (s.count ≡ 0 → ⊥) → s.cmd_offset < s.used
  pub kind : is_kind s.kind ≡ true
  pub good : is_good s.bbox ≡ true
  pub end : in_limit s.xy_end ≡ true
  pub at0 : in_limit s.pt0 ≡ true
  pub at1 : in_limit s.pt1 ≡ true
  pub balanced : s.tally.skipped + s.tally.taken_out ≤ s.tally.taken + s.tally.boundary

-- and the rule that is missing among them: what accepted calls keep of a fresh state
abbrev pub is_there : Option Pt → Bool
is_there None = false
is_there (Some p) = true

pub record Sound (s : GeomEncoder) (n : ℕ) : Type 0 where
  pub valid : Valid s n
  pub points : is_there s.pt1 ≡ true → s.cmd_offset < s.used

-- the same rule as a test: where there is a last point, the last command's place is below the used words
abbrev pub is_placed : Option Pt → ℕ → ℕ → Bool
is_placed None place used = true
is_placed (Some p) place used = ltb place used
