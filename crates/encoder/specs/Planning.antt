-- Planning: the emissions of a call are reckoned before the room is asked for; what a state must be for the next one to be reckoned.
use Rattle.std.specs.Prelude.{ℕ, ◌+◌, ◌/◌, ◌≤◌, ◌≡◌, true, [], Option, Some, None}
use Rattle.clip.specs.Domain.{is_good}
use Rattle.words.specs.Geometries.{max_words}
use Rattle.encoder.specs.Points.{in_limit}
use Rattle.encoder.specs.declared.GeomEncoder.{GeomEncoder}
use Rattle.encoder.specs.Emitting.{Emission, emission}
use Rattle.encoder.specs.Tallies.{max_tally}
use Rattle.clip.specs.declared.Pt.{Pt}

-- a point that may be there, emitted
abbrev pub emission_if : GeomEncoder → Option Pt → Emission
emission_if s None = record { next = s; at = s.used; run = [] }
emission_if s (Some p) = emission s p

-- the words used before the third of a call's emissions are at most these
abbrev pub plan_limit : ℕ
plan_limit = max_words + 6

-- so few points are lost that those of n emissions more can be counted
pub record Few (n : ℕ) (s : GeomEncoder) : Type 0 where
  pub skips : s.tally.skipped + n ≤ max_tally + 3
  pub outs : s.tally.taken_out + n ≤ max_tally + 3

-- a state that one more emission can be planned from, at most n words used
pub record Ready (n : ℕ) (s : GeomEncoder) : Type 0 where
  pub few : s.used ≤ n
  pub counted : s.count ≤ s.used / 2 + 1
  pub good : is_good s.bbox ≡ true
  pub at0 : in_limit s.pt0 ≡ true
  pub at1 : in_limit s.pt1 ≡ true
