-- Crates `encoder` (its whole job), `job_file` and `number_file`: wrong jobs, wrong job files and wrong numbers of a file.
use Rattle.std.specs.Prelude.{ℕ, ◌+◌, ◌-◌, ◌*◌, ◌/◌, ◌%◌, ◌≡◌, false, cond, List, [], ◌∷◌, ◌++◌, map, leb, ltb, eqb, ℤ, pos, ◌-ℤ◌, length, take, drop, get_or, replicate}
use Rattle.std.proofs.Common.{ap, arith}
use Rattle.promise.specs.Answers.{kept}
use Rattle.promise.specs.Laid.{lay}
use Rattle.refusal.specs.declared.Refusal.TheVariants.{Job, Room}
use Rattle.refusal.specs.Said.{Said, accepted, refused}
use Rattle.whole.specs.Twos.{twos, signed32, wide}
use Rattle.words.specs.Geometries.{is_kind}
use Rattle.words.specs.Params.{param}
use Rattle.clip.specs.declared.Pt.{Pt}
use Rattle.clip.specs.declared.BBox.{BBox}
use Rattle.clip.specs.Domain.{is_coord, is_good}
use Rattle.encoder.specs.States.{valid}
use Rattle.encoder.specs.Emitting.{emission}
use Rattle.encoder.specs.Adding.{boundary, point_at, added}
use Rattle.encoder.specs.Completing.{finished, completed}
use Rattle.encoder.specs.Calls.{add}
use Rattle.encoder.specs.Jobs.{points_of, ends_at, is_job, part, job_calls, encoded_job}
use Rattle.number_file.specs.Numbers.{max_bytes, number, numbers_of, reading}
use Rattle.job_file.specs.JobFile.{kind_of, box, box_of, parts_of, ends_of, points_in, job_file}
use Rattle.ruled_out.specs.Inputs.{bit, size, item, size_of, first_y, hundred, flat}

-- ---- whole_job::encode: its lists
-- the x of a point twice
pub x_twice : ((x y : ℤ) (l : List ℤ) → points_of (x ∷ y ∷ l) ≡ point_at x x ∷ points_of l) → ⊥
x_twice h = let e : ◌≡◌ {A = ℕ} 7 5 = ap first_y (h (pos 5) (pos 7) []) in omega arith

-- the last point forgotten at a part's end
pub last_point_forgotten : ((ps : List Pt) (from to : ℕ) → part ps from to ≡ take (to - from - 1) (drop from ps)) → ⊥
last_point_forgotten h = let e : ◌≡◌ {A = ℕ} 1 0 = ap length (h (point_at (pos 5) (pos 7) ∷ []) 0 1) in omega arith

-- a part that is not completed
pub part_not_completed : ((ps : List Pt) (from e : ℕ) (es : List ℕ) → job_calls ps from (e ∷ es) ≡ map add (part ps from e) ++ job_calls ps e es) → ⊥
part_not_completed h = let e : ◌≡◌ {A = ℕ} 2 1 = ap length (h (point_at (pos 5) (pos 7) ∷ []) 0 1 []) in omega arith

-- an empty part is refused: the ends have to ascend
pub ends_ascend : ((from e n : ℕ) (es : List ℕ) → ends_at from (e ∷ es) n ≡ cond (ltb from e) (ends_at e es n) false) → ⊥
ends_ascend h = let e : ◌≡◌ {A = ℕ} 1 0 = ap bit (h 0 0 0 []) in omega arith

-- an odd list of coordinates is taken
pub odd_list_taken : ((ps : List ℤ) (ends : List ℕ) → is_job ps ends ≡ cond (eqb (length ends) 0) false (ends_at 0 ends (length ps / 2))) → ⊥
unfolding is_job
odd_list_taken h = let e : ◌≡◌ {A = ℕ} 0 1 = ap bit (h (pos 5 ∷ pos 7 ∷ pos 3 ∷ []) (1 ∷ [])) in omega arith

-- a job without parts is taken
pub no_parts_taken : ((ps : List ℤ) (ends : List ℕ) → is_job ps ends ≡ cond (eqb (length ps % 2) 0) (ends_at 0 ends (length ps / 2)) false) → ⊥
unfolding is_job
no_parts_taken h = let e : ◌≡◌ {A = ℕ} 0 1 = ap bit (h [] []) in omega arith

-- ---- whole_job::encode: the call
-- a refused job undoes its accepted calls
pub memory_undone : ((kind : ℕ) (b : BBox) (ps : List ℤ) (ends out : List ℕ)
    → (encoded_job kind b ps ends out).memory ≡ cond (eqb (encoded_job kind b ps ends out).answer.number 0) (encoded_job kind b ps ends out).memory out) → ⊥
unfolding encoded_job is_job is_good valid is_coord boundary emission param finished added completed
memory_undone h = let e : ◌≡◌ {A = ℕ} 9 0 = ap (item 0) (h 1 hundred (pos 5 ∷ pos 7 ∷ pos 1073741824 ∷ pos 2 ∷ []) (2 ∷ []) (replicate 8 0)) in omega arith

-- a refused job forgets its accepted points
pub points_forgotten : ((kind : ℕ) (b : BBox) (ps : List ℤ) (ends out : List ℕ) → (encoded_job kind b ps ends out).answer.values
    ≡ cond (eqb (encoded_job kind b ps ends out).answer.number 0) (encoded_job kind b ps ends out).answer.values 0) → ⊥
unfolding encoded_job is_job is_good valid is_coord boundary emission param finished added completed
points_forgotten h = let e : ◌≡◌ {A = ℕ} 1 0 = h 1 hundred (pos 5 ∷ pos 7 ∷ pos 1073741824 ∷ pos 2 ∷ []) (2 ∷ []) (replicate 8 0) in omega arith

-- KIND is asked before JOB
pub kind_before_job : ((kind : ℕ) (b : BBox) (ps : List ℤ) (ends out : List ℕ)
    → (encoded_job kind b ps ends out).answer.number ≡ cond (is_kind kind) (encoded_job kind b ps ends out).answer.number 2) → ⊥
unfolding encoded_job is_job
kind_before_job h = let e : ◌≡◌ {A = ℕ} 1 2 = h 0 hundred [] [] [] in omega arith

-- BOX is asked before KIND
pub box_before_kind : ((kind : ℕ) (b : BBox) (ps : List ℤ) (ends out : List ℕ)
    → (encoded_job kind b ps ends out).answer.number ≡ cond (is_job ps ends) (cond (is_good b) (encoded_job kind b ps ends out).answer.number 3) 1) → ⊥
unfolding encoded_job is_job is_good
box_before_kind h = let e : ◌≡◌ {A = ℕ} 2 3 = h 0 flat [] (0 ∷ []) [] in omega arith

-- ---- job_file::encode_file
-- the sample job of document 01: 1, 0, 100, 0, 100, 1, 2, 5, 7, 3, 2
abbrev sample : List ℕ
sample = 1 ∷ 0 ∷ 100 ∷ 0 ∷ 100 ∷ 1 ∷ 2 ∷ 5 ∷ 7 ∷ 3 ∷ 2 ∷ []

-- the edges in the order x_min, y_min, x_max, y_max
pub edges_swapped : ((file : List ℕ) → box_of file ≡ box (get_or file 1 0) (get_or file 3 0) (get_or file 2 0) (get_or file 4 0)) → ⊥
edges_swapped h = let e : ◌≡◌ {A = ℕ} 100 0 = ap (λ (b : BBox). size b.x_max) (h sample) in omega arith

-- the points begin where the ends do
pub points_from_the_first_end : ((file : List ℕ) → points_in file ≡ map signed32 (drop 6 file)) → ⊥
points_from_the_first_end h = let e : ◌≡◌ {A = ℕ} 5 2 = ap (size_of 0) (h sample) in omega arith

-- the points without their sign
pub points_unsigned : ((file : List ℕ) → points_in file ≡ map pos (drop (6 + parts_of file) file)) → ⊥
points_unsigned h = let e : ◌≡◌ {A = ℕ} 1 4294967295 = ap (size_of 0) (h (1 ∷ 0 ∷ 100 ∷ 0 ∷ 100 ∷ 1 ∷ 1 ∷ 4294967295 ∷ 0 ∷ [])) in omega arith

-- every number behind the part count is an end
pub part_count_lies : ((file : List ℕ) → ends_of file ≡ drop 6 file) → ⊥
part_count_lies h = let e : ◌≡◌ {A = ℕ} 1 5 = ap length (h sample) in omega arith

-- a file whose ends are not all there is taken
pub missing_ends_taken : ((file words : List ℕ)
    → (job_file file words).answer ≡ (encoded_job (kind_of file) (box_of file) (points_in file) (ends_of file) words).answer) → ⊥
unfolding job_file encoded_job is_job is_good valid is_coord completed
missing_ends_taken h = let e : ◌≡◌ {A = ℕ} 1 6 = ap (λ (a : Said ℕ). a.number) (h (1 ∷ 0 ∷ 100 ∷ 0 ∷ 100 ∷ 2 ∷ 0 ∷ []) []) in omega arith

-- KIND is asked before the file is known to be whole
pub kind_before_file : ((file words : List ℕ)
    → (job_file file words).answer.number ≡ cond (is_kind (kind_of file)) (job_file file words).answer.number 2) → ⊥
unfolding job_file
kind_before_file h = let e : ◌≡◌ {A = ℕ} 1 2 = h [] [] in omega arith

-- ROOM for the points is asked before KIND
pub room_before_kind : ((file words : List ℕ)
    → (job_file file words).answer.number ≡ cond (leb (length (points_in file)) (length words)) (job_file file words).answer.number 7) → ⊥
unfolding job_file encoded_job is_job
room_before_kind h = let e : ◌≡◌ {A = ℕ} 2 7 = h (0 ∷ 0 ∷ 100 ∷ 0 ∷ 100 ∷ 1 ∷ 1 ∷ 5 ∷ 7 ∷ []) [] in omega arith

-- no words are written
pub no_words_written : ((file words : List ℕ) → (job_file file words).memory ≡ words) → ⊥
unfolding job_file encoded_job is_job is_good valid is_coord boundary emission param finished added completed
no_words_written h = let e : ◌≡◌ {A = ℕ} 17 0 = ap (item 0) (h sample (replicate 8 0)) in omega arith

-- ---- number_file::File::max_bytes
-- one byte more
pub one_byte_more : max_bytes ≡ 65537 → ⊥
one_byte_more h = omega arith

-- one byte less
pub one_byte_less : max_bytes ≡ 65535 → ⊥
one_byte_less h = omega arith

-- ---- number_file::read_numbers
-- the most significant byte first
pub most_significant_first : ((a b c d : ℕ) → number a b c d ≡ d + 256 * c + 65536 * b + 16777216 * a) → ⊥
most_significant_first h = let e : ◌≡◌ {A = ℕ} 1 16777216 = h 1 0 0 0 in omega arith

-- bytes behind the last whole number are passed over
pub tail_ignored : ((bytes out : List ℕ) → reading bytes out ≡ cond (leb (length bytes) max_bytes) (cond (leb (length bytes / 4) (length out))
    (record { answer = accepted (length bytes / 4); memory = lay 0 (numbers_of bytes) out })
    (kept (refused Room 0) out)) (kept (refused Job 0) out)) → ⊥
unfolding reading
tail_ignored h = let e : ◌≡◌ {A = ℕ} 1 0 = ap (λ w. w.answer.number) (h (9 ∷ []) []) in omega arith

-- a list that is too short is JOB
pub short_list_as_job : ((bytes out : List ℕ)
    → (reading bytes out).answer.number ≡ cond (eqb (reading bytes out).answer.number 7) 1 (reading bytes out).answer.number) → ⊥
unfolding reading
short_list_as_job h = let e : ◌≡◌ {A = ℕ} 7 1 = h (9 ∷ 0 ∷ 0 ∷ 0 ∷ []) [] in omega arith

-- ---- number_file::signed, and 64 bits of two halves
-- two's complement that starts one number too early, at any width
pub twos_too_early : ((half n : ℕ) → twos half n ≡ cond (ltb (n + 1) half) (pos n) (pos n -ℤ pos (2 * half))) → ⊥
twos_too_early h = let e : ◌≡◌ {A = ℕ} 7 9 = ap size (h 8 7) in omega arith

-- no number is below zero
pub sign_lost : ((n : ℕ) → signed32 n ≡ pos n) → ⊥
sign_lost h = let e : ◌≡◌ {A = ℕ} 1 4294967295 = ap size (h 4294967295) in omega arith

-- the high half taken for the low one
pub halves_turned : ((low high : ℕ) → wide low high ≡ high + 4294967296 * low) → ⊥
halves_turned h = let e : ◌≡◌ {A = ℕ} 1 4294967296 = h 1 0 in omega arith
