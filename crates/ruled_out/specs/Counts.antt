-- Crate `encoder`, document 02, request (ix): wrong counts of what became of the points, and wrong rules of STATE and ROOM about them.
use Rattle.std.specs.Prelude.{ℕ, ◌+◌, ◌%◌, ◌≡◌, cond, ◌&&◌, List, [], ◌∷◌, leb, ltb, eqb, pos, negsuc, length, replicate, None}
use Rattle.std.proofs.Common.{ap, arith}
use Rattle.words.specs.Params.{param}
use Rattle.clip.specs.declared.Pt.{Pt}
use Rattle.clip.specs.Domain.{is_coord, is_good}
use Rattle.clip.specs.Cutting.{cross_at_x, cuts, overlap, clip}
use Rattle.encoder.specs.declared.tally.Tally.{Tally}
use Rattle.encoder.specs.declared.GeomEncoder.{GeomEncoder}
use Rattle.encoder.specs.Points.{is_last, clamped}
use Rattle.encoder.specs.Tallies.{max_tally, counts_fit, balanced, untouched}
use Rattle.encoder.specs.States.{valid}
use Rattle.encoder.specs.Emitting.{popped, emitted_at, emission}
use Rattle.encoder.specs.Adding.{boundary, drawn, point_at, added}
use Rattle.encoder.specs.Completing.{finished}
use Rattle.ruled_out.specs.Inputs.{bit, state, point, after_one, after_two, tally_of, tallied}

-- ---- GeomEncoder::add_point: what an emission counts
-- a part that begins on the last point: its first point is passed over and not counted as skipped
pub begun_uncounted : ((s : GeomEncoder) (p : Pt)
    → (emitted_at s p).next.tally ≡ cond (is_last s.pt1 p && eqb s.count 0) s.tally (emitted_at s p).next.tally) → ⊥
begun_uncounted h =
    let e : ◌≡◌ {A = ℕ} 1 0 = ap (λ (t : Tally). t.skipped) (h (state 2 None None (point (pos 5) (pos 7)) 0 0 3) (point_at (pos 5) (pos 7))) in
    omega arith

-- a point taken out is not counted
pub taken_out_uncounted : ((s : GeomEncoder) → (popped s).tally ≡ s.tally) → ⊥
taken_out_uncounted h = let e : ◌≡◌ {A = ℕ} 1 0 = ap (λ (t : Tally). t.taken_out) (h (after_two 3)) in omega arith

-- it is counted as skipped
pub taken_out_as_skipped : ((s : GeomEncoder)
    → (popped s).tally ≡ tally_of s.tally.taken s.tally.boundary (s.tally.skipped + 1) s.tally.taken_out) → ⊥
taken_out_as_skipped h = let e : ◌≡◌ {A = ℕ} 0 1 = ap (λ (t : Tally). t.skipped) (h (after_two 3)) in omega arith

-- ---- GeomEncoder::add_point: what a point counts
-- a line at (-1,0), whose last point is (0,0): to (0,0) its first end is cut to (0,0), so that the boundary point and the point are skipped
abbrev at_the_edge : GeomEncoder
at_the_edge = state 2 (point (negsuc 0) (pos 0)) None (point (pos 0) (pos 0)) 0 1 3

-- those of some points that are written: each but where it is the last one again
abbrev written : GeomEncoder → List Pt → ℕ
written s [] = 0
written s (p ∷ ps) = cond (is_last s.pt1 (clamped s.bbox p)) 0 1 + written (emission s p).next ps

-- a boundary point is counted only where it is written
pub skipped_boundary_uncounted : ((s : GeomEncoder) (p : Pt) (out : List ℕ)
    → (drawn s p out).answer.tally.boundary ≡ s.tally.boundary + written s (boundary s p)) → ⊥
unfolding boundary emission clip overlap cuts cross_at_x
skipped_boundary_uncounted h = let e : ◌≡◌ {A = ℕ} 1 0 = h at_the_edge (point_at (pos 0) (pos 0)) [] in omega arith

-- a boundary point is counted as a point taken
pub boundary_as_taken : ((s : GeomEncoder) (p : Pt) (out : List ℕ)
    → (drawn s p out).answer.tally.taken ≡ s.tally.taken + (1 + length (boundary s p))) → ⊥
unfolding boundary emission clip overlap cuts cross_at_x
boundary_as_taken h = let e : ◌≡◌ {A = ℕ} 1 2 = h at_the_edge (point_at (pos 0) (pos 0)) [] in omega arith

-- one call counts at most one point as skipped
pub skipped_once : ((s : GeomEncoder) (p : Pt) (out : List ℕ) → (drawn s p out).answer.tally.skipped
    ≡ cond (eqb (drawn s p out).answer.tally.skipped s.tally.skipped) s.tally.skipped (s.tally.skipped + 1)) → ⊥
unfolding boundary emission clip overlap cuts cross_at_x
skipped_once h = let e : ◌≡◌ {A = ℕ} 2 1 = h at_the_edge (point_at (pos 0) (pos 0)) [] in omega arith

-- a refused point is counted
pub refused_counted : ((s : GeomEncoder) (p : Pt) (out : List ℕ) → (added s p out).answer.values.state.tally.taken ≡ s.tally.taken + 1) → ⊥
unfolding added valid is_good is_coord boundary emission param
refused_counted h = let e : ◌≡◌ {A = ℕ} 0 1 = h (after_one 1) (point_at (pos 1073741824) (pos 7)) (replicate 8 0) in omega arith

-- ---- GeomEncoder::complete_geom
-- completing clears the counts, as it clears the count of the part
pub counts_cleared : ((s : GeomEncoder) → (finished s).tally ≡ cond (eqb s.kind 1) s.tally untouched) → ⊥
unfolding finished
counts_cleared h = let e : ◌≡◌ {A = ℕ} 2 0 = ap (λ (t : Tally). t.taken) (h (tallied (tally_of 2 0 0 0) (after_two 2))) in omega arith

-- ---- is_valid: the rule of the counts
-- as many lost as were given is STATE
pub equal_refused : ((t : Tally) → balanced t ≡ ltb (t.skipped + t.taken_out) (t.taken + t.boundary)) → ⊥
equal_refused h = let e : ◌≡◌ {A = ℕ} 1 0 = ap bit (h (tally_of 3 2 4 1)) in omega arith

-- one more may be lost
pub one_more_lost : ((t : Tally) → balanced t ≡ leb (t.skipped + t.taken_out) (t.taken + t.boundary + 1)) → ⊥
one_more_lost h = let e : ◌≡◌ {A = ℕ} 0 1 = ap bit (h (tally_of 3 2 5 1)) in omega arith

-- the sums wrap at 32 bits
pub sums_wrap : ((t : Tally) → balanced t ≡ leb ((t.skipped + t.taken_out) % 4294967296) ((t.taken + t.boundary) % 4294967296)) → ⊥
sums_wrap h = let e : ◌≡◌ {A = ℕ} 0 1 = ap bit (h (tally_of 0 4294967295 4294967295 1)) in omega arith

-- the rule is not asked
pub balance_unasked : ((s : GeomEncoder) (n : ℕ) → valid s n ≡ valid (tallied untouched s) n) → ⊥
unfolding valid is_good is_coord
balance_unasked h = let e : ◌≡◌ {A = ℕ} 0 1 = ap bit (h (tallied (tally_of 0 0 1 0) (after_one 2)) 8) in omega arith

-- ---- GeomEncoder::add_point: ROOM of the counts
-- one early: a count of 4,294,967,295 has no room
pub room_one_early : ((t : Tally)
    → counts_fit t ≡ (ltb t.taken max_tally && ltb t.boundary max_tally && ltb t.skipped max_tally && ltb t.taken_out max_tally)) → ⊥
room_one_early h = let e : ◌≡◌ {A = ℕ} 1 0 = ap bit (h (tally_of 0 4294967295 0 0)) in omega arith

-- one late
pub room_one_late : ((t : Tally)
    → counts_fit t ≡ (leb t.taken (max_tally + 1) && leb t.boundary (max_tally + 1)
    && leb t.skipped (max_tally + 1) && leb t.taken_out (max_tally + 1))) → ⊥
room_one_late h = let e : ◌≡◌ {A = ℕ} 0 1 = ap bit (h (tally_of 0 4294967296 0 0)) in omega arith

-- a point that could bring too many boundary points is ROOM, whatever it brings
pub room_of_what_could_come : ((s : GeomEncoder) (p : Pt) (out : List ℕ)
    → (added s p out).answer.number ≡ cond (leb (s.tally.boundary + 2) max_tally) (added s p out).answer.number 7) → ⊥
unfolding added valid is_good is_coord boundary emission param
room_of_what_could_come h =
    let e : ◌≡◌ {A = ℕ} 0 7 = h (tallied (tally_of 1 4294967295 0 0) (after_one 1)) (point_at (pos 3) (pos 2)) (replicate 8 0) in omega arith

-- the counts are not asked
pub counts_unasked : ((s : GeomEncoder) (p : Pt) (out : List ℕ) → (added s p out).answer.number ≡ (added (tallied untouched s) p out).answer.number) → ⊥
unfolding added valid is_good is_coord boundary emission param
counts_unasked h =
    let e : ◌≡◌ {A = ℕ} 7 0 = h (tallied (tally_of 4294967295 0 0 0) (after_one 1)) (point_at (pos 3) (pos 2)) (replicate 8 0) in omega arith
