-- Document 02, request (ix): the four counts that a state carries, their rule of STATE and their ROOM, and what a point and an emission add to them.
use Rattle.std.specs.Prelude.{ℕ, ◌+◌, Bool, ◌&&◌, leb}
use Rattle.encoder.specs.declared.tally.Tally.{Tally}

-- "7 ROOM also when a count would pass 4,294,967,295"
abbrev pub max_tally : ℕ
max_tally = 4294967295

abbrev pub are_counts : ℕ → ℕ → ℕ → ℕ → Bool
are_counts taken boundary skipped out = leb taken max_tally && leb boundary max_tally && leb skipped max_tally && leb out max_tally

abbrev pub counts_fit : Tally → Bool
counts_fit t = are_counts t.taken t.boundary t.skipped t.taken_out

-- "A state whose skipped and taken-out counts together exceed its taken and boundary counts together is STATE": where this is false
abbrev pub balanced : Tally → Bool
balanced t = leb (t.skipped + t.taken_out) (t.taken + t.boundary)

-- ---- a fresh state's
abbrev pub untouched : Tally
untouched = record { taken = 0; boundary = 0; skipped = 0; taken_out = 0 }

-- ---- n raw points are taken, with m boundary points
abbrev pub took_points : ℕ → ℕ → Tally → Tally
took_points n m t = record { taken = t.taken + n; boundary = t.boundary + m; skipped = t.skipped; taken_out = t.taken_out }

-- ---- an emission is skipped; one takes the last point out
abbrev pub skipped_one : Tally → Tally
skipped_one t = record { taken = t.taken; boundary = t.boundary; skipped = t.skipped + 1; taken_out = t.taken_out }

abbrev pub out_one : Tally → Tally
out_one t = record { taken = t.taken; boundary = t.boundary; skipped = t.skipped; taken_out = t.taken_out + 1 }
