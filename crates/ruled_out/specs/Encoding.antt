-- Crate `encoder`: wrong states, emissions and completions.
use Rattle.std.specs.Prelude.{ℕ, ◌+◌, ◌/◌, ◌≡◌, false, cond, ◌&&◌, ◌||◌, List, [], ◌∷◌, leb, ltb, eqb, ℤ, pos, negsuc, ◌-ℤ◌, length, replicate, Option, None}
use Rattle.std.proofs.Common.{ap, arith}
use Rattle.promise.specs.Answers.{Written, kept}
use Rattle.refusal.specs.declared.Refusal.TheVariants.{Kind, Box, State, Coord, Room}
use Rattle.refusal.specs.Said.{Said, accepted, refused}
use Rattle.words.specs.Commands.{command_word}
use Rattle.words.specs.Geometries.{is_kind, room}
use Rattle.words.specs.Params.{param}
use Rattle.clip.specs.declared.Pt.{Pt}
use Rattle.clip.specs.declared.BBox.{BBox}
use Rattle.clip.specs.Domain.{is_coord, is_good}
use Rattle.clip.specs.Cutting.{cross_at_x, cuts, overlap, clip}
use Rattle.clip.specs.Numbers.{edge_number}
use Rattle.encoder.specs.Points.{in_limit, in_limits}
use Rattle.encoder.specs.Pushed.{move_to, line_to, close_path, command}
use Rattle.encoder.specs.Figures.{figures_fit}
use Rattle.encoder.specs.declared.GeomEncoder.{GeomEncoder}
use Rattle.encoder.specs.declared.Edges.{Edges}
use Rattle.encoder.specs.Tallies.{untouched, balanced}
use Rattle.encoder.specs.States.{fresh, valid}
use Rattle.encoder.specs.Answers.{Counted, done, turned, none, passed, fitting, roomy, started}
use Rattle.encoder.specs.Emitting.{Emission, taken_out, popped, steps, place_of, pushed, emitted_at, emission}
use Rattle.encoder.specs.Adding.{boundary, edges_from, edges, drawn, point_at, added}
use Rattle.encoder.specs.Completing.{counting, closing, cleared, finished, closed, completed}
use Rattle.ruled_out.specs.Inputs.{bit, item, first_used, is_there, ten, hundred, flat, state, point, after_one, after_two}

-- ---- GeomEncoder::new
-- a word is used at the start
pub fresh_used : ((kind : ℕ) (b : BBox) → started kind b ≡ cond (is_kind kind) (cond (is_good b)
    (accepted (record {
      tally = untouched;
      kind = kind;
      bbox = b;
      xy_end = None;
      pt0 = None;
      pt1 = None;
      cmd_offset = 0;
      count = 0;
      used = 1;
    } ∷ []))
    (refused Box [])) (refused Kind [])) → ⊥
unfolding is_good
fresh_used h = let e : ◌≡◌ {A = ℕ} 0 1 = ap (λ (a : Said (List GeomEncoder)). first_used a.values) (h 1 ten) in omega arith

-- BOX is asked before KIND
pub box_before_kind : ((kind : ℕ) (b : BBox)
    → started kind b ≡ cond (is_good b) (cond (is_kind kind) (accepted (fresh kind b ∷ [])) (refused Kind [])) (refused Box [])) → ⊥
unfolding is_good
box_before_kind h = let e : ◌≡◌ {A = ℕ} 2 3 = ap (λ (a : Said (List GeomEncoder)). a.number) (h 0 flat) in omega arith

-- a bad kind is BOX
pub kind_as_box : ((kind : ℕ) (b : BBox)
    → started kind b ≡ cond (is_kind kind) (cond (is_good b) (accepted (fresh kind b ∷ [])) (refused Box [])) (refused Box [])) → ⊥
unfolding is_good
kind_as_box h = let e : ◌≡◌ {A = ℕ} 2 3 = ap (λ (a : Said (List GeomEncoder)). a.number) (h 0 ten) in omega arith

-- ---- is_valid
-- the rule of the count left out
pub count_rule_left_out : ((used count place n : ℕ) → figures_fit used count place n ≡ (leb used (room n) && (eqb count 0 || ltb place used))) → ⊥
count_rule_left_out h = let e : ◌≡◌ {A = ℕ} 0 1 = ap bit (h 3 3 0 8) in omega arith

-- the rule of the last command's place left out
pub place_rule_left_out : ((used count place n : ℕ) → figures_fit used count place n ≡ (leb used (room n) && leb count (used / 2 + 1))) → ⊥
place_rule_left_out h = let e : ◌≡◌ {A = ℕ} 0 1 = ap bit (h 3 1 3 8) in omega arith

-- the stored points are not asked
pub stored_points_unasked : ((s : GeomEncoder) (n : ℕ)
    → valid s n ≡ (figures_fit s.used s.count s.cmd_offset n && is_kind s.kind && is_good s.bbox && balanced s.tally)) → ⊥
unfolding valid is_good is_coord
stored_points_unasked h = let e : ◌≡◌ {A = ℕ} 0 1 = ap bit (h (state 2 None None (point (pos 1073741824) (pos 0)) 0 1 3) 8) in omega arith

-- a missing point is refused
pub missing_refused : in_limit None ≡ false → ⊥
missing_refused h = let e : ◌≡◌ {A = ℕ} 1 0 = ap bit h in omega arith

-- the third stored point is not asked
pub third_not_asked : ((l m n : Option Pt) → in_limits l m n ≡ (in_limit l && in_limit m)) → ⊥
unfolding is_coord
third_not_asked h = let e : ◌≡◌ {A = ℕ} 0 1 = ap bit (h None None (point (pos 1073741824) (pos 0))) in omega arith

-- ---- GeomEncoder::add_point: what one point gives
-- the steps along x are all 0
pub nought_steps : ((p q : Pt) → steps p q ≡ param (p.x -ℤ p.x) ∷ param (q.y -ℤ p.y) ∷ []) → ⊥
unfolding param
nought_steps h = let e : ◌≡◌ {A = ℕ} 10 0 = ap (item 0) (h (point_at (pos 0) (pos 0)) (point_at (pos 5) (pos 7))) in omega arith

-- a point outside the box is not clamped
pub not_clamped : ((s : GeomEncoder) (p : Pt) → emission s p ≡ emitted_at s p) → ⊥
unfolding emission param
not_clamped h = let e : ◌≡◌ {A = ℕ} 0 9 = ap (λ (m : Emission). item 1 m.run) (h (fresh 1 hundred) (point_at (negsuc 4) (pos 3))) in omega arith

-- a point equal to the last one is written again
pub repeated_point_written : ((s : GeomEncoder) (p : Pt) → emitted_at s p ≡ pushed (command s.kind s.count) (cond (taken_out s p) (popped s) s) p) → ⊥
unfolding param
repeated_point_written h = let e : ◌≡◌ {A = ℕ} 0 3 = ap (λ (m : Emission). length m.run) (h (after_one 2) (point_at (pos 5) (pos 7))) in omega arith

-- no boundary points
pub boundary_left_out : ((s : GeomEncoder) (p : Pt) → boundary s p ≡ []) → ⊥
unfolding boundary clip overlap cuts cross_at_x
boundary_left_out h =
    let e : ◌≡◌ {A = ℕ} 1 0 = ap length (h (state 2 (point (negsuc 4) (pos 3)) None (point (pos 0) (pos 3)) 0 1 3) (point_at (pos 15) (pos 8))) in omega arith

-- ---- GeomEncoder::add_point: the edges (document 02, request (v)), of the segment from (-5,3) to (5,8), whose first end is cut
abbrev left_of : ℕ → GeomEncoder
left_of kind = state kind (point (negsuc 4) (pos 3)) None (point (pos 0) (pos 3)) 0 1 3

-- no edges
pub edges_left_out : ((s : GeomEncoder) (p : Pt) → edges s p ≡ none) → ⊥
unfolding edges clip overlap cuts cross_at_x
edges_left_out h = let e : ◌≡◌ {A = ℕ} 1 0 = ap (λ (n : Edges). edge_number n.first) (h (left_of 2) (point_at (pos 5) (pos 8))) in omega arith

-- the edges of the two ends exchanged
pub edges_exchanged : ((s : GeomEncoder) (p : Pt) → edges s p ≡ record { first = (edges s p).second; second = (edges s p).first }) → ⊥
unfolding edges clip overlap cuts cross_at_x
edges_exchanged h = let e : ◌≡◌ {A = ℕ} 1 0 = ap (λ (n : Edges). edge_number n.first) (h (left_of 2) (point_at (pos 5) (pos 8))) in omega arith

-- a geometry of points names edges too
pub edges_of_points : ((s : GeomEncoder) (p : Pt) → edges s p ≡ edges_from s.bbox s.xy_end p) → ⊥
unfolding edges clip overlap cuts cross_at_x
edges_of_points h = let e : ◌≡◌ {A = ℕ} 0 1 = ap (λ (n : Edges). edge_number n.first) (h (left_of 1) (point_at (pos 5) (pos 8))) in omega arith

-- a refused call names edges
pub refused_names_edges : ((a : Said Counted) (n : Edges) → passed a n ≡ n) → ⊥
unfolding edges clip overlap cuts cross_at_x
refused_names_edges h =
    let e : ◌≡◌ {A = ℕ} 0 1 = ap (λ (n : Edges). edge_number n.first) (h (turned Room (left_of 2)) (edges (left_of 2) (point_at (pos 5) (pos 8)))) in omega arith

-- ---- GeomEncoder::add_point: the call
-- the state without its last point
abbrev forgetting : GeomEncoder → GeomEncoder
forgetting s =
    record {
      tally = s.tally;
      kind = s.kind;
      bbox = s.bbox;
      xy_end = s.xy_end;
      pt0 = s.pt0;
      pt1 = None;
      cmd_offset = s.cmd_offset;
      count = s.count;
      used = s.used;
    }

-- each step is taken from (0, 0)
pub steps_from_the_origin : ((s : GeomEncoder) (p : Pt) (out : List ℕ) → (added s p out).memory ≡ (added (forgetting s) p out).memory) → ⊥
unfolding added valid is_good is_coord boundary emission param
steps_from_the_origin h = let e : ◌≡◌ {A = ℕ} 3 6 = ap (item 3) (h (after_one 1) (point_at (pos 3) (pos 2)) (replicate 8 0)) in omega arith

-- x and y exchanged
pub x_and_y_exchanged : ((s : GeomEncoder) (x y : ℤ) (out : List ℕ) → added s (point_at x y) out ≡ added s (point_at y x) out) → ⊥
unfolding added valid is_good is_coord boundary emission param
x_and_y_exchanged h = let e : ◌≡◌ {A = ℕ} 10 14 = ap (λ w. item 1 w.memory) (h (fresh 1 hundred) (pos 5) (pos 7) (replicate 8 0)) in omega arith

-- STATE is not asked
pub state_unasked : ((s : GeomEncoder) (p : Pt) (out : List ℕ)
    → added s p out ≡ cond (is_coord p) (roomy s out (drawn s p out)) (kept (turned Coord s) out)) → ⊥
unfolding added valid is_good is_coord boundary emission param
state_unasked h =
    let e : ◌≡◌ {A = ℕ} 4 0 = ap (λ w. w.answer.number) (h (state 1 None None None 3 1 3) (point_at (pos 5) (pos 7)) (replicate 8 0)) in omega arith

-- a refused call counts the words used
pub refused_counts : ((s : GeomEncoder) (p : Pt) (out : List ℕ) → (added s p out).answer.values.count ≡ (added s p out).answer.values.state.used) → ⊥
unfolding added valid is_good is_coord boundary emission param
refused_counts h = let e : ◌≡◌ {A = ℕ} 0 3 = h (after_one 1) (point_at (pos 1073741824) (pos 7)) (replicate 8 0) in omega arith

-- the given state comes back
pub given_state_returned : ((s : GeomEncoder) (p : Pt) (out : List ℕ) → (added s p out).answer.values.state ≡ s) → ⊥
unfolding added valid is_good is_coord boundary emission param
given_state_returned h =
    let e : ◌≡◌ {A = ℕ} 1 0 = ap (λ (s : GeomEncoder). s.count) (h (fresh 1 hundred) (point_at (pos 5) (pos 7)) (replicate 8 0)) in omega arith

-- a refused call advances the state
pub refused_state_advanced : ((s : GeomEncoder) (p : Pt) (out : List ℕ) → (added s p out).answer.values.state ≡ (drawn s p out).answer) → ⊥
unfolding added valid is_good is_coord boundary emission param
refused_state_advanced h = let e : ◌≡◌ {A = ℕ} 0 1 = ap (λ (s : GeomEncoder). s.count) (h (fresh 1 hundred) (point_at (pos 5) (pos 7)) []) in omega arith

-- ROOM that writes, of any call
pub room_writes : ((s : GeomEncoder) (out : List ℕ) (w : Written GeomEncoder (List ℕ)) → fitting s out w
    ≡ cond (leb w.answer.used (room (length out))) (kept (done w.answer) w.memory) (kept (turned Room s) w.memory)) → ⊥
room_writes h = let e : ◌≡◌ {A = ℕ} 0 9 = ap (λ w. item 0 w.memory) (h (fresh 1 hundred) (0 ∷ []) (kept (after_one 1) (9 ∷ []))) in omega arith

-- ---- GeomEncoder::complete_geom
-- LineTo's count is the count, not one less
pub line_count : ((s : GeomEncoder) → counting s ≡ cond (eqb s.kind 1) (command_word move_to s.count ∷ [])
    (cond (ltb 1 s.count) (command_word line_to s.count ∷ []) [])) → ⊥
line_count h = let e : ◌≡◌ {A = ℕ} 10 18 = ap (item 0) (h (after_two 2)) in omega arith

-- LineTo's count is not set
pub count_not_set : ((s : GeomEncoder) → counting s ≡ []) → ⊥
count_not_set h = let e : ◌≡◌ {A = ℕ} 1 0 = ap length (h (after_two 2)) in omega arith

-- ClosePath is 23
pub close_path_23 : ((s : GeomEncoder) → closing s ≡ cond (eqb s.kind 3 && ltb 1 s.count) (command_word close_path 2 ∷ []) []) → ⊥
close_path_23 h = let e : ◌≡◌ {A = ℕ} 15 23 = ap (item 0) (h (after_two 3)) in omega arith

-- a line is closed too
pub line_closed : ((s : GeomEncoder) → closing s ≡ cond (ltb 1 s.count) (command_word close_path 1 ∷ []) []) → ⊥
line_closed h = let e : ◌≡◌ {A = ℕ} 0 1 = ap length (h (after_two 2)) in omega arith

-- the last point is cleared
pub last_point_cleared : ((s : GeomEncoder) → (finished s).pt1 ≡ None) → ⊥
unfolding finished
last_point_cleared h = let e : ◌≡◌ {A = ℕ} 1 0 = ap is_there (h (after_two 2)) in omega arith

-- points are reset too
pub points_reset : ((s : GeomEncoder) → finished s ≡ cleared s (place_of (closing s) s) (s.used + length (closing s))) → ⊥
unfolding finished
points_reset h = let e : ◌≡◌ {A = ℕ} 1 0 = ap (λ (s : GeomEncoder). s.count) (h (after_one 1)) in omega arith

-- an empty point geometry is ROOM
pub empty_as_room : ((s : GeomEncoder) (out : List ℕ) → completed s out ≡ cond (valid s (length out))
    (cond (eqb s.kind 1 && eqb s.count 0) (kept (turned Room s) out) (fitting s out (closed s out))) (kept (turned State s) out)) → ⊥
unfolding completed valid is_good is_coord finished
empty_as_room h = let e : ◌≡◌ {A = ℕ} 6 7 = ap (λ w. w.answer.number) (h (fresh 1 ten) []) in omega arith

-- ROOM is not asked
pub completed_without_room : ((s : GeomEncoder) (out : List ℕ)
    → (completed s out).answer.number ≡ cond (valid s (length out)) (cond (eqb s.kind 1 && eqb s.count 0) 6 0) 4) → ⊥
unfolding completed valid is_good is_coord finished
completed_without_room h = let e : ◌≡◌ {A = ℕ} 7 0 = h (after_two 3) (replicate 6 0) in omega arith

-- completing writes nothing
pub completed_unwritten : ((s : GeomEncoder) (out : List ℕ) → (completed s out).memory ≡ out) → ⊥
unfolding completed valid is_good is_coord finished
completed_unwritten h = let e : ◌≡◌ {A = ℕ} 15 0 = ap (item 6) (h (after_two 3) (replicate 8 0)) in omega arith

-- ---- GeomEncoder::count, len
-- the count is the kind
pub count_is_kind : ((s : GeomEncoder) → s.count ≡ s.kind) → ⊥
count_is_kind h = let e : ◌≡◌ {A = ℕ} 1 3 = h (after_one 3) in omega arith

-- the length is the last command's place
pub len_is_place : ((s : GeomEncoder) → s.used ≡ s.cmd_offset) → ⊥
len_is_place h = let e : ◌≡◌ {A = ℕ} 3 0 = h (after_one 3) in omega arith

-- the count is that of the words
pub count_is_used : ((s : GeomEncoder) → s.count ≡ s.used) → ⊥
count_is_used h = let e : ◌≡◌ {A = ℕ} 1 3 = h (after_one 3) in omega arith

-- the length is the count
pub len_is_count : ((s : GeomEncoder) → s.used ≡ s.count) → ⊥
len_is_count h = let e : ◌≡◌ {A = ℕ} 3 1 = h (after_one 3) in omega arith
