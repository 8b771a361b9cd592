-- Crate `encoder`: wrong points and commands.
use Rattle.std.specs.Prelude.{ℕ, ◌≡◌, true, false, cond, ◌&&◌, ◌||◌, List, [], ◌∷◌, ◌++◌, leb, eqb, ℤ, pos, negsuc, length, replicate, Option, Some, None}
use Rattle.std.proofs.Common.{ap, arith}
use Rattle.std.specs.Int.Signed.{lt_z, le_z}
use Rattle.promise.specs.Laid.{lay}
use Rattle.whole.specs.Equal.{eq_z}
use Rattle.words.specs.Commands.{command_word}
use Rattle.clip.specs.declared.Pt.{Pt}
use Rattle.clip.specs.declared.Seg.{Seg}
use Rattle.clip.specs.declared.BBox.{BBox}
use Rattle.clip.specs.Numbers.{seg_at, box_at}
use Rattle.encoder.specs.Points.{clamp_to, clamped, same_pt, is_last, strictly, between, missing, out_before, last_between, last_of}
use Rattle.encoder.specs.Boundary.{moved, moved_ends, outside}
use Rattle.encoder.specs.Pushed.{move_to, line_to, command, count_word, close_word}
use Rattle.encoder.specs.Ends.{lay_end}
use Rattle.encoder.specs.Adding.{point_at}
use Rattle.ruled_out.specs.Inputs.{bit, size, item, first_y, ten, point}

-- ---- points
-- the first step starts at (0, 1)
pub start_elsewhere : last_of None ≡ record { x = pos 0; y = pos 1 } → ⊥
start_elsewhere h = let e : ◌≡◌ {A = ℕ} 0 1 = ap (λ (p : Pt). size p.y) h in omega arith

-- the first step starts at (1, 0)
pub starts_at_one : last_of None ≡ record { x = pos 1; y = pos 0 } → ⊥
starts_at_one h = let e : ◌≡◌ {A = ℕ} 0 1 = ap (λ (p : Pt). size p.x) h in omega arith

-- x is clamped to the bottom and the top
pub clamped_crosswise : ((b : BBox) (p : Pt)
    → clamped b p ≡ record { x = clamp_to b.y_min b.y_max p.x; y = clamp_to b.y_min b.y_max p.y }) → ⊥
clamped_crosswise h =
    let e : ◌≡◌ {A = ℕ} 3 5 = ap (λ (p : Pt). size p.x) (h (box_at (pos 0) (pos 3) (pos 0) (pos 10)) (point_at (pos 5) (pos 5))) in omega arith

-- only the lower edges clamp
pub clamped_low : ((lo hi z : ℤ) → clamp_to lo hi z ≡ clamp_to lo z z) → ⊥
clamped_low h = let e : ◌≡◌ {A = ℕ} 10 12 = ap size (h (pos 0) (pos 10) (pos 12)) in omega arith

-- points of one x are the same
pub same_in_one : ((p q : Pt) → same_pt p q ≡ eq_z p.x q.x) → ⊥
same_in_one h = let e : ◌≡◌ {A = ℕ} 0 1 = ap bit (h (point_at (pos 1) (pos 1)) (point_at (pos 1) (pos 2))) in omega arith

-- points that share x or y are the same
pub same_in_either : ((p q : Pt) → same_pt p q ≡ (eq_z p.x q.x || eq_z p.y q.y)) → ⊥
same_in_either h = let e : ◌≡◌ {A = ℕ} 0 1 = ap bit (h (point_at (pos 1) (pos 1)) (point_at (pos 2) (pos 1))) in omega arith

-- the point before the first is the same as any
pub nowhere_is_last : ((p : Pt) → is_last None p ≡ true) → ⊥
nowhere_is_last h = let e : ◌≡◌ {A = ℕ} 0 1 = ap bit (h (point_at (pos 1) (pos 1))) in omega arith

-- every point is the last
pub equal_to_itself : ((q p : Pt) → is_last (Some q) p ≡ same_pt p p) → ⊥
equal_to_itself h = let e : ◌≡◌ {A = ℕ} 0 1 = ap bit (h (point_at (pos 1) (pos 1)) (point_at (pos 2) (pos 2))) in omega arith

-- a point that turns back on its line is taken out
pub taken_out_turning : ((a m b : Pt) → between a m b ≡ ((eq_z a.x m.x && eq_z m.x b.x) || (eq_z a.y m.y && eq_z m.y b.y))) → ⊥
taken_out_turning h = let e : ◌≡◌ {A = ℕ} 0 1 = ap bit (h (point_at (pos 0) (pos 0)) (point_at (pos 4) (pos 0)) (point_at (pos 2) (pos 0))) in omega arith

-- only points of a horizontal are taken out
pub taken_out_level : ((a m b : Pt) → between a m b ≡ (eq_z a.y m.y && eq_z m.y b.y && strictly a.x m.x b.x)) → ⊥
taken_out_level h = let e : ◌≡◌ {A = ℕ} 1 0 = ap bit (h (point_at (pos 0) (pos 0)) (point_at (pos 0) (pos 4)) (point_at (pos 0) (pos 9))) in omega arith

-- a point is taken out at a count of 1
pub taken_out_early : ((kind count : ℕ) (a m : Option Pt) (p : Pt) → out_before kind count a m p ≡ (eqb kind 3 && leb 1 count && last_between a m p)) → ⊥
taken_out_early h =
    let e : ◌≡◌ {A = ℕ} 0 1 = ap bit (h 3 1 (point (pos 0) (pos 0)) (point (pos 4) (pos 0)) (point_at (pos 9) (pos 0))) in omega arith

-- a line's points are taken out too
pub taken_out_of_lines : ((kind count : ℕ) (a m : Option Pt) (p : Pt) → out_before kind count a m p ≡ (leb 2 count && last_between a m p)) → ⊥
taken_out_of_lines h =
    let e : ◌≡◌ {A = ℕ} 0 1 = ap bit (h 2 2 (point (pos 0) (pos 0)) (point (pos 4) (pos 0)) (point_at (pos 9) (pos 0))) in omega arith

-- the first moved end is left out
pub first_end_forgotten : ((raw cut : Seg) → moved_ends raw cut ≡ moved raw.p1 cut.p1) → ⊥
first_end_forgotten h =
    let e : ◌≡◌ {A = ℕ} 1 0 = ap length (h (seg_at (negsuc 4) (pos 3) (pos 5) (pos 5)) (seg_at (pos 0) (pos 4) (pos 5) (pos 5))) in omega arith

-- the ends crossed: the second moved end first
pub ends_crossed : ((raw cut : Seg) → moved_ends raw cut ≡ moved raw.p1 cut.p1 ++ moved raw.p0 cut.p0) → ⊥
ends_crossed h =
    let e : ◌≡◌ {A = ℕ} 4 7 = ap first_y (h (seg_at (negsuc 4) (pos 3) (pos 15) (pos 8)) (seg_at (pos 0) (pos 4) (pos 10) (pos 7))) in omega arith

-- a point above the top is not outside
pub above_the_top : ((b : BBox) (p : Pt) → outside b p ≡ (lt_z p.x b.x_min || lt_z b.x_max p.x || lt_z p.y b.y_min)) → ⊥
above_the_top h = let e : ◌≡◌ {A = ℕ} 1 0 = ap bit (h ten (point_at (pos 5) (pos 11))) in omega arith

-- a point on an edge is outside
pub edge_outside : ((b : BBox) (p : Pt)
    → outside b p ≡ (le_z p.x b.x_min || le_z b.x_max p.x || le_z p.y b.y_min || le_z b.y_max p.y)) → ⊥
edge_outside h = let e : ◌≡◌ {A = ℕ} 0 1 = ap bit (h ten (point_at (pos 0) (pos 5))) in omega arith

-- no point is some point
pub none_is_some : missing None ≡ false → ⊥
none_is_some h = let e : ◌≡◌ {A = ℕ} 1 0 = ap bit h in omega arith

-- ---- commands
-- a LineTo before each point of a line
pub line_to_each : ((kind count : ℕ)
    → command kind count ≡ cond (eqb count 0) (command_word move_to 1 ∷ []) (cond (eqb kind 1) [] (command_word line_to 1 ∷ []))) → ⊥
line_to_each h = let e : ◌≡◌ {A = ℕ} 0 1 = ap length (h 2 2) in omega arith

-- the second point moves
pub second_moves : ((kind count : ℕ) → command kind count ≡ cond (leb count 1) (command_word move_to 1 ∷ []) []) → ⊥
second_moves h = let e : ◌≡◌ {A = ℕ} 10 9 = ap (item 0) (h 2 1) in omega arith

-- ClosePath goes over the last command
pub closed_elsewhere : ((kind count place used : ℕ) (l : List ℕ)
    → lay_end kind count place used l ≡ lay place (close_word kind count) (lay place (count_word kind count) l)) → ⊥
closed_elsewhere h = let e : ◌≡◌ {A = ℕ} 15 0 = ap (item 6) (h 3 2 3 6 (replicate 8 0)) in omega arith

-- the count goes over the first word
pub counted_at_the_front : ((kind count place used : ℕ) (l : List ℕ)
    → lay_end kind count place used l ≡ lay used (close_word kind count) (lay 0 (count_word kind count) l)) → ⊥
counted_at_the_front h = let e : ◌≡◌ {A = ℕ} 10 0 = ap (item 3) (h 3 2 3 6 (replicate 8 0)) in omega arith
