-- The programs that document 01 rules out by name ("What each call owes", "Errors that look right"), and three that the work names, each in the form in which
-- it is named. A law says: if the definition gave that program's answer for all inputs, the absurd would follow. One input at which the two differ proves it.
use Rattle.std.specs.Prelude.{ℕ, zero, suc, ◌+◌, ◌/◌, ◌%◌, ◌≡◌, refl, false, cond, ◌&&◌, List, [], ◌∷◌, map, leb, eqb, ℤ, pos, negsuc, neg_ℤ, length, take, drop, replicate}
use Rattle.std.proofs.Common.{ap, arith}
use Rattle.std.specs.Int.Signed.{lt_z}
use Rattle.promise.specs.Answers.{Written, kept}
use Rattle.refusal.specs.declared.Refusal.TheVariants.{State, Coord, Empty, Room}
use Rattle.refusal.specs.Said.{Said}
use Rattle.words.specs.Geometries.{room}
use Rattle.words.specs.Params.{param, unparam}
use Rattle.clip.specs.declared.Pt.{Pt}
use Rattle.clip.specs.declared.Seg.{Seg}
use Rattle.clip.specs.declared.BBox.{BBox}
use Rattle.clip.specs.declared.ClippedSeg.{ClippedSeg}
use Rattle.clip.specs.declared.Edge.TheVariants.{XMin, XMax, YMin, YMax}
use Rattle.clip.specs.Domain.{is_coord, is_good}
use Rattle.clip.specs.Rounding.{round}
use Rattle.clip.specs.Cutting.{cross_at_x, cross_at_y, given, replace, cuts, overlap, clip}
use Rattle.clip.specs.Answer.{clipped}
use Rattle.clip.specs.Numbers.{seg_at}
use Rattle.encoder.specs.declared.GeomEncoder.{GeomEncoder}
use Rattle.encoder.specs.Tallies.{counts_fit}
use Rattle.encoder.specs.States.{fresh, valid}
use Rattle.encoder.specs.Answers.{Counted, done, turned, fitting}
use Rattle.encoder.specs.Emitting.{emission}
use Rattle.encoder.specs.Adding.{boundary, drawn, point_at, added}
use Rattle.encoder.specs.Completing.{finished, closed, completed}
use Rattle.encoder.specs.Jobs.{is_job, encoded_job}
use Rattle.decoder.specs.Vertices.{Cursor, Trace, traced, faulty, origin, vertex, onto, and_then}
use Rattle.decoder.specs.ReadingWords.{is_close, params, unless_faulty, moved, drawn as stepsDrawn, commands, trace_from, trace}
use Rattle.ruled_out.specs.Inputs.{bit, size, item, size_of, corners_of, first_corners, alike, vertices, ten, hundred}

-- ---- "an encoder that refuses every point": of every state, point and list the answer has a refusal's number, whichever it is
pub refuses_every_point : ((s : GeomEncoder) (p : Pt) (out : List ℕ) → eqb (added s p out).answer.number 0 ≡ false) → ⊥
unfolding added valid is_good is_coord boundary emission param
refuses_every_point h = let e : ◌≡◌ {A = ℕ} 1 0 = ap bit (h (fresh 1 hundred) (point_at (pos 5) (pos 7)) (replicate 8 0)) in omega arith

-- the same of the whole job
pub refuses_every_job : ((kind : ℕ) (b : BBox) (ps : List ℤ) (ends out : List ℕ) → eqb (encoded_job kind b ps ends out).answer.number 0 ≡ false) → ⊥
unfolding encoded_job is_job is_good valid is_coord boundary emission param finished added completed
refuses_every_job h = let e : ◌≡◌ {A = ℕ} 1 0 = ap bit (h 1 hundred (pos 5 ∷ pos 7 ∷ []) (1 ∷ []) (replicate 8 0)) in omega arith

-- ---- the words of an answer: those that its count says are used
abbrev words_of : Written (Said ℕ) (List ℕ) → List ℕ
words_of w = take w.answer.values w.memory

abbrev used_words : Written (Said Counted) (List ℕ) → List ℕ
used_words w = take w.answer.values.count w.memory

-- ---- "one that gives 9 0 0 for each job": for each that is accepted
pub nine_nought_nought : ((kind : ℕ) (b : BBox) (ps : List ℤ) (ends out : List ℕ)
    → (encoded_job kind b ps ends out).answer.number ≡ 0 → words_of (encoded_job kind b ps ends out) ≡ 9 ∷ 0 ∷ 0 ∷ []) → ⊥
unfolding encoded_job is_job is_good valid is_coord boundary emission param finished added completed
nine_nought_nought h = let e : ◌≡◌ {A = ℕ} 10 0 = ap (item 1) (h 1 hundred (pos 5 ∷ pos 7 ∷ []) (1 ∷ []) (replicate 8 0) refl) in omega arith

-- ---- "a clip that returns its segment untouched": where it is accepted, whatever edges it names
pub untouched : ((s : Seg) (b : BBox) → (clipped s b).number ≡ 0 → map (λ (c : ClippedSeg). c.seg) (clipped s b).values ≡ s ∷ []) → ⊥
unfolding clipped is_good is_coord clip overlap cuts cross_at_x
untouched h =
    let e : ◌≡◌ {A = ℕ} 10 990 = ap (λ l. item 2 (first_corners (map given l))) (h (seg_at (negsuc 9) (pos 0) (pos 990) (pos 51)) ten refl) in omega arith

-- ---- "a call that writes no words": the list after the call is the list before
pub writes_no_words : ((s : GeomEncoder) (p : Pt) (out : List ℕ) → (added s p out).memory ≡ out) → ⊥
unfolding added valid is_good is_coord boundary emission param
writes_no_words h = let e : ◌≡◌ {A = ℕ} 9 0 = ap (item 0) (h (fresh 1 hundred) (point_at (pos 5) (pos 7)) (replicate 8 0)) in omega arith

-- ---- "one that emits the whole part at the first point": after the first point the used words are already those of the part with all its points,
-- wherever that part is accepted
pub whole_part_at_once : ((kind : ℕ) (b : BBox) (x y : ℤ) (rest : List ℤ) (out : List ℕ)
    → (encoded_job kind b (x ∷ y ∷ rest) (suc (length rest / 2) ∷ []) out).answer.number ≡ 0
    → used_words (added (fresh kind b) (point_at x y) out) ≡ words_of (encoded_job kind b (x ∷ y ∷ rest) (suc (length rest / 2) ∷ []) out)) → ⊥
unfolding encoded_job is_job is_good valid is_coord boundary emission param finished added completed clip overlap cuts cross_at_x
whole_part_at_once h =
    let e : ◌≡◌ {A = ℕ} 3 8 = ap length (h 2 ten (pos 2) (pos 2) (pos 2 ∷ pos 10 ∷ pos 10 ∷ pos 10 ∷ []) (replicate 16 0) refl) in omega arith

-- ---- "a word count not equal to the words present". Present are the words that the job wrote: those at the front that come out alike whatever stood
-- in the list before
abbrev present : ℕ → BBox → List ℤ → List ℕ → ℕ → ℕ
present kind b ps ends n = alike (encoded_job kind b ps ends (replicate n 0)).memory (encoded_job kind b ps ends (replicate n 1)).memory

-- no accepted job's count is that of the words present
pub count_of_other_words : ((kind : ℕ) (b : BBox) (ps : List ℤ) (ends : List ℕ) (n : ℕ)
    → (encoded_job kind b ps ends (replicate n 0)).answer.number ≡ 0
    → eqb (encoded_job kind b ps ends (replicate n 0)).answer.values (present kind b ps ends n) ≡ false) → ⊥
unfolding encoded_job is_job is_good valid is_coord boundary emission param finished added completed
count_of_other_words h = let e : ◌≡◌ {A = ℕ} 1 0 = ap bit (h 1 hundred (pos 5 ∷ pos 7 ∷ pos 3 ∷ pos 2 ∷ []) (2 ∷ []) 8 refl) in omega arith

-- one word more is counted than there is
pub one_word_more_counted : ((kind : ℕ) (b : BBox) (ps : List ℤ) (ends : List ℕ) (n : ℕ)
    → (encoded_job kind b ps ends (replicate n 0)).answer.number ≡ 0
    → (encoded_job kind b ps ends (replicate n 0)).answer.values ≡ suc (present kind b ps ends n)) → ⊥
unfolding encoded_job is_job is_good valid is_coord boundary emission param finished added completed
one_word_more_counted h = let e : ◌≡◌ {A = ℕ} 5 6 = h 1 hundred (pos 5 ∷ pos 7 ∷ pos 3 ∷ pos 2 ∷ []) (2 ∷ []) 8 refl in omega arith

-- one word fewer
pub one_word_fewer_counted : ((kind : ℕ) (b : BBox) (ps : List ℤ) (ends : List ℕ) (n : ℕ)
    → (encoded_job kind b ps ends (replicate n 0)).answer.number ≡ 0
    → suc (encoded_job kind b ps ends (replicate n 0)).answer.values ≡ present kind b ps ends n) → ⊥
unfolding encoded_job is_job is_good valid is_coord boundary emission param finished added completed
one_word_fewer_counted h = let e : ◌≡◌ {A = ℕ} 6 5 = h 1 hundred (pos 5 ∷ pos 7 ∷ pos 3 ∷ pos 2 ∷ []) (2 ∷ []) 8 refl in omega arith

-- a first point that counts a word ahead of those it wrote
pub words_ahead : ((kind : ℕ) (b : BBox) (p : Pt) (n : ℕ) → (added (fresh kind b) p (replicate n 0)).answer.number ≡ 0
    → (added (fresh kind b) p (replicate n 0)).answer.values.count
    ≡ suc (alike (added (fresh kind b) p (replicate n 0)).memory (added (fresh kind b) p (replicate n 1)).memory)) → ⊥
unfolding added valid is_good is_coord boundary emission param
words_ahead h = let e : ◌≡◌ {A = ℕ} 3 4 = h 1 hundred (point_at (pos 5) (pos 7)) 8 refl in omega arith

-- ---- "Rounding halves away from zero: -1/2 would give -1"
pub halves_away : ((n d : ℤ) → round n d ≡ cond (lt_z n (pos 0)) (neg_ℤ (round (neg_ℤ n) d)) (round n d)) → ⊥
halves_away h = let e : ◌≡◌ {A = ℕ} 0 1 = ap size (h (negsuc 0) (pos 2)) in omega arith

-- ---- "Cutting the original segment four times: (10,1) instead of (10,2)": each edge's crossing is that of the segment as given
abbrev once_x_min : BBox → Seg → ClippedSeg → ClippedSeg
once_x_min b s c =
    replace XMin (lt_z c.seg.p0.x b.x_min) (lt_z c.seg.p1.x b.x_min) c
    (cross_at_x s.p0 s.p1 b.x_min b.y_min b.y_max)

abbrev once_x_max : BBox → Seg → ClippedSeg → ClippedSeg
once_x_max b s c =
    replace XMax (lt_z b.x_max c.seg.p0.x) (lt_z b.x_max c.seg.p1.x) c
    (cross_at_x s.p0 s.p1 b.x_max b.y_min b.y_max)

abbrev once_y_min : BBox → Seg → ClippedSeg → ClippedSeg
once_y_min b s c =
    replace YMin (lt_z c.seg.p0.y b.y_min) (lt_z c.seg.p1.y b.y_min) c
    (cross_at_y s.p0 s.p1 b.y_min b.x_min b.x_max)

abbrev once_y_max : BBox → Seg → ClippedSeg → ClippedSeg
once_y_max b s c =
    replace YMax (lt_z b.y_max c.seg.p0.y) (lt_z b.y_max c.seg.p1.y) c
    (cross_at_y s.p0 s.p1 b.y_max b.x_min b.x_max)

-- the four cuts so, in their order
pub original_cut_four_times : ((b : BBox) (s : Seg)
    → (clip b s).seg ≡ cond (overlap b s) (once_y_max b s (once_y_min b s (once_x_max b s (once_x_min b s (given s))))).seg s) → ⊥
unfolding clip overlap cuts cross_at_x
original_cut_four_times h =
    let e : ◌≡◌ {A = ℕ} 2 1 = ap (λ l. item 3 (corners_of l)) (h ten (seg_at (negsuc 9) (pos 0) (pos 990) (pos 51))) in omega arith

-- ---- "Resetting the cursor to the ring's start at ClosePath": a reading that keeps the start, the first position after a MoveTo
abbrev start_after : ℕ → Cursor → Cursor → List ℕ → Cursor
start_after word start c [] = start
start_after word start c (dx ∷ []) = start
start_after word start c (dx ∷ dy ∷ ps) = cond (eqb (word % 8) 1) (moved c dx dy) start

abbrev resetting : ℕ → ℕ → Cursor → Cursor → List ℕ → Trace
resetting zero at start c ws = traced [] c
resetting (suc turns) at start c [] = traced [] c
resetting (suc turns) at start c (word ∷ ws) =
    unless_faulty at word ws faulty (
    cond (is_close word)
    (onto (vertex 7 c ∷ []) (resetting turns (at + 1) start start ws))
    (and_then (stepsDrawn (word % 8) c (take (params word) ws))
    (λ c'. resetting turns (at + 1 + params word) (start_after word start c ws) c' (drop (params word) ws))))

-- such a reading of every list of words; they differ at a ring from (2,2), closed, and a MoveTo by (1,1) from its last point (6,6)
pub cursor_reset_at_close : ((ws : List ℕ) → trace ws ≡ resetting (length ws) 0 origin origin ws) → ⊥
unfolding trace_from commands stepsDrawn unparam
cursor_reset_at_close h =
    let e : ◌≡◌ {A = ℕ} 7 3 = ap (λ t. size_of 13 (vertices t)) (h (9 ∷ 4 ∷ 4 ∷ 18 ∷ 8 ∷ 0 ∷ 0 ∷ 8 ∷ 15 ∷ 9 ∷ 2 ∷ 2 ∷ [])) in omega arith

-- ---- ROOM asked before COORD
pub room_before_coord : ((s : GeomEncoder) (p : Pt) (out : List ℕ)
    → added s p out ≡ cond (valid s (length out))
    (cond (counts_fit (drawn s p out).answer.tally && leb (drawn s p out).answer.used (room (length out)))
    (cond (is_coord p) (kept (done (drawn s p out).answer) (drawn s p out).memory) (kept (turned Coord s) out))
    (kept (turned Room s) out))
    (kept (turned State s) out)) → ⊥
unfolding added valid is_good is_coord boundary emission param
room_before_coord h =
    let e : ◌≡◌ {A = ℕ} 5 7 = ap (λ w. w.answer.number) (h (fresh 1 hundred) (point_at (pos 1073741824) (pos 7)) []) in omega arith

-- ---- completing that refuses an empty line
pub empty_line_refused : ((s : GeomEncoder) (out : List ℕ)
    → completed s out ≡ cond (valid s (length out))
    (cond (eqb s.count 0) (kept (turned Empty s) out) (fitting s out (closed s out)))
    (kept (turned State s) out)) → ⊥
unfolding completed valid is_good is_coord finished
empty_line_refused h = let e : ◌≡◌ {A = ℕ} 0 6 = ap (λ w. w.answer.number) (h (fresh 2 ten) []) in omega arith

-- ---- a refused call that writes: where it is refused as ROOM, the words as far as there is room for them
pub refused_writes : ((s : GeomEncoder) (p : Pt) (out : List ℕ)
    → (added s p out).answer.number ≡ 7 → (added s p out).memory ≡ take (length out) (drawn s p out).memory) → ⊥
unfolding added valid is_good is_coord boundary emission param
refused_writes h = let e : ◌≡◌ {A = ℕ} 0 9 = ap (item 0) (h (fresh 1 hundred) (point_at (pos 5) (pos 7)) (0 ∷ 0 ∷ []) refl) in omega arith
