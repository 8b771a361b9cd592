-- What each way through a file answers, over plain lists.
use mathlib.Core.Path.{◌≡◌, refl, sym, ◌∙◌, ap}
use mathlib.Core.List.{List, map}
use Prim.Native.Nat.{ℕ, ◌+◌, ◌*◌, ◌-◌, ◌/◌, ◌<◌, ◌≤◌}
use native.Mathlib.Omega.{arith}
use mathlib.Core.Bool.{Bool, true, false, cond}
use borrow.Author.Tests.{le-leb, lt-leb, leb-true}
use lib.Dec.{leb}
use lib.IntN.{ℤ}
use lib.ListN.{length, take, drop, get_or, length-map, length-drop}
use lib.Seq.{take_all}
use Rattle.promise.specs.Answers.{Written, Gives, kept}
use Rattle.promise.specs.Laid.{lay}
use Rattle.promise.proofs.Laying.{take_lay}
use Rattle.promise.proofs.Cases.{gives_kept}
use Rattle.refusal.specs.declared.Refusal.TheVariants.{Job}
use Rattle.refusal.specs.Said.{Said, accepted, refused}
use Rattle.refusal.proofs.Laws.{never_both}
use Rattle.clip.specs.declared.BBox.{BBox}
use Rattle.whole.specs.Twos.{signed32}
use Rattle.encoder.specs.declared.GeomEncoder.{GeomEncoder}
use Rattle.refusal.specs.declared.Refused.{Refused}
use Rattle.encoder.specs.Jobs.{Outcome, on, off, outcome, encoded_job, finished_job, end_of}
use Rattle.encoder.proofs.Within.{encoded_within}
use Rattle.encoder.proofs.Whole.{encoded_finished}
use Rattle.encoder.proofs.Courses.{never_on}
use Rattle.encoder.proofs.Losses.{finished_balanced}
use Rattle.edge_job.specs.EdgeJobs.{Lists, edge_job}
use Rattle.std.specs.Prelude.{Option, Some, None, Result}
use Rattle.job_file.specs.JobFile.{kind_of, parts_of, box_of, ends_of, points_in, body_encoded, job_file, body_of, count_in, point_count, body_edges, job_file_edges, body_finished, body_end, job_file_finished, file_end}

at_not_cut : {n : ℕ} → Some n ≡ None → ⊥
at_not_cut e = let z : ◌≡◌ {A = ℕ} 0 1 = cc in omega arith

-- ---- the three bodies: the front of the points' list, once they are laid, is the points
module _ (file : List ℕ) (points : List ℤ) (body : ℕ) (h : body ≤ length file) (k : length file ≤ length points) where
  body_long : length (map signed32 (drop body file)) ≡ length file - body
  body_long = length-map (drop body file) signed32 ∙ length-drop body file

  pub laid_points : (l : List ℤ) → l ≡ lay 0 (map signed32 (take (length file - body) (drop body file))) points
      → take (length file - body) l ≡ map signed32 (drop body file)
  laid_points l g' =
      let t : take (length file - body) (drop body file) ≡ drop body file = take_all (length file - body) (drop body file) (omega (arith, length-drop body file)) in
      let g : l ≡ lay 0 (map signed32 (drop body file)) points = rw t at g' in
      let z : length file - body ≡ 0 + length (map signed32 (drop body file)) = omega (arith, body_long) in
      rw (z, g) (take_lay 0 (map signed32 (drop body file)) points (omega (arith, body_long)))

  pub edges_body : (m : Lists) (l : List ℤ) → l ≡ lay 0 (map signed32 (take (length file - body) (drop body file))) points
      → (bbox : BBox) → bbox ≡ box_of file → (answer : Said ℕ) (after : Lists)
      → Gives (edge_job (get_or file 0 0) bbox (take (length file - body) l) (take (body - 6) (drop 6 file)) m) answer after
      → Gives (body_edges file body m) answer after
  edges_body m l g bbox f answer after w = rw (laid_points l g, f) at w

  pub encoded_body : (words : List ℕ) (l : List ℤ) → l ≡ lay 0 (map signed32 (take (length file - body) (drop body file))) points
      → (bbox : BBox) → bbox ≡ box_of file → (answer : Said ℕ) (ws : List ℕ)
      → Gives (encoded_job (get_or file 0 0) bbox (take (length file - body) l) (take (body - 6) (drop 6 file)) words) answer ws
      → Gives (body_encoded file body words) answer ws
  encoded_body words l g bbox f answer ws w = rw (laid_points l g, f) at w

  pub finished_body : (words : List ℕ) (l : List ℤ) → l ≡ lay 0 (map signed32 (take (length file - body) (drop body file))) points
      → (bbox : BBox) → bbox ≡ box_of file → (r : Result GeomEncoder (Refused ℕ)) (ws : List ℕ)
      → Gives (finished_job (get_or file 0 0) bbox (take (length file - body) l) (take (body - 6) (drop 6 file)) words) (end_of (take (length file - body) l) r) ws
      → Gives (body_finished file body words) (body_end file body r) ws
  finished_body words l g bbox f r ws w = rw (laid_points l g, f) at w

-- ---- where the points begin
module _ (file : List ℕ) (a : length file ≤ 16384) (b : 6 ≤ length file) (parts : ℕ) (e : parts ≡ get_or file 5 0) where
  pub no_body : length file - 6 < parts → None ≡ body_of file
  unfolding body_of
  no_body h = rw (le-leb (length file) 16384 a, le-leb 6 (length file) b, ← e, lt-leb parts (length file - 6) h)

  pub some_body : parts ≤ length file - 6 → Some (6 + parts) ≡ body_of file
  unfolding body_of
  some_body h = rw (le-leb (length file) 16384 a, le-leb 6 (length file) b, ← e, le-leb parts (length file - 6) h)

-- the file has a body, and its tests told so
pub record Whole (file : List ℕ) (body : ℕ) : Type 0 where
  pub few : length file ≤ 16384
  pub table : 6 ≤ length file
  pub ends : parts_of file ≤ length file - 6
  pub at : body ≡ 6 + parts_of file

module _ (file : List ℕ) (r : Option ℕ) (e : r ≡ body_of file) where
  pub whole_file : (body : ℕ) → r ≡ Some body → Whole file body
  unfolding body_of
  whole_file body h = by (leb (length file) 16384) (leb 6 (length file)) (leb (parts_of file) (length file - 6)) refl refl refl (sym h ∙ e)
    where
      by : (a b c : Bool) → leb (length file) 16384 ≡ a → leb 6 (length file) ≡ b → leb (parts_of file) (length file - 6) ≡ c
          → Some body ≡ cond a (cond b (cond c (Some (6 + parts_of file)) None) None) None → Whole file body
      by false b c f g i w = absurd (at_not_cut w)
      by true false c f g i w = absurd (at_not_cut w)
      by true true false f g i w = absurd (at_not_cut w)
      by true true true f g i w = record { few = leb-true _ _ f; table = leb-true _ _ g; ends = leb-true _ _ i; at = cc }

  -- a file without a body is refused, whatever is lent
  module _ (h : r ≡ None) where
    pub cut_file : {A : Type 0} (x y : A)
        → cond (leb (length file) 16384) (cond (leb 6 (length file)) (cond (leb (parts_of file) (length file - 6)) x y) y) y ≡ y
    unfolding body_of
    cut_file {A} x y = by (leb (length file) 16384) (leb 6 (length file)) (leb (parts_of file) (length file - 6)) (sym h ∙ e)
      where
        by : (a b c : Bool) → None ≡ cond a (cond b (cond c (Some (6 + parts_of file)) None) None) None → cond a (cond b (cond c x y) y) y ≡ y
        by false b c w = refl
        by true false c w = refl
        by true true false w = refl
        by true true true w = absurd (at_not_cut (sym w))

    pub cut_words : (words : List ℕ) → Gives (job_file file words) (refused Job 0) words
    unfolding job_file
    cut_words words = rw (cut_file (encoded_job (kind_of file) (box_of file) (points_in file) (ends_of file) words) (kept (refused Job 0) words)) (gives_kept _ _)

    pub cut_edges : (m : Lists) → Gives (job_file_edges file m) (refused Job 0) m
    unfolding job_file_edges
    cut_edges m = rw (cut_file (edge_job (kind_of file) (box_of file) (points_in file) (ends_of file) m) (kept (refused Job 0) m)) (gives_kept _ _)

    pub cut_finished : (words : List ℕ) → Gives (job_file_finished file words) (off (refused Job 0)) words
    unfolding job_file_finished
    cut_finished words = rw (cut_file (finished_job (kind_of file) (box_of file) (points_in file) (ends_of file) words) (kept (off (refused Job 0)) words)) (gives_kept _ _)

    pub cut_count : 0 ≡ point_count file
    cut_count = rw (← e, h)

  -- the points of a file with a body
  module _ (body : ℕ) (h : r ≡ Some body) where
    pub whole_count : (length file - body) / 2 ≡ point_count file
    whole_count =
        let w = whole_file body h in
        let l : length (points_in file) ≡ length file - body = rw w.at (length-map (drop (6 + parts_of file) file) signed32 ∙ length-drop (6 + parts_of file) file) in
        rw (← e, h, l)

-- ---- a file that has a body is its body's job
module _ (file : List ℕ) (body : ℕ) (w : Whole file body) where
  pub whole_words : (words : List ℕ) (answer : Said ℕ) (ws : List ℕ) → Gives (body_encoded file body words) answer ws → Gives (job_file file words) answer ws
  unfolding job_file
  whole_words words answer ws g =
      let n : 6 + parts_of file - 6 ≡ parts_of file = omega arith in
      rw (le-leb (length file) 16384 w.few, le-leb 6 (length file) w.table, le-leb (parts_of file) (length file - 6) w.ends) (rw (w.at, n) at g)

  pub whole_edges : (m : Lists) (answer : Said ℕ) (l : Lists) → Gives (body_edges file body m) answer l → Gives (job_file_edges file m) answer l
  unfolding job_file_edges
  whole_edges m answer l g =
      let n : 6 + parts_of file - 6 ≡ parts_of file = omega arith in
      rw (le-leb (length file) 16384 w.few, le-leb 6 (length file) w.table, le-leb (parts_of file) (length file - 6) w.ends) (rw (w.at, n) at g)

  pub whole_finished : (words : List ℕ) (r : Result GeomEncoder (Refused ℕ)) (ws : List ℕ) → Gives (body_finished file body words) (body_end file body r) ws → Gives (job_file_finished file words) (file_end file r) ws
  unfolding job_file_finished
  whole_finished words r ws g =
      let n : 6 + parts_of file - 6 ≡ parts_of file = omega arith in
      rw (le-leb (length file) 16384 w.few, le-leb 6 (length file) w.table, le-leb (parts_of file) (length file - 6) w.ends) (rw (w.at, n) at g)

-- ---- a file's edges are not more than its numbers
pub count_within : (file : List ℕ) → 2 * point_count file ≤ length file
count_within file = by (body_of file)
  where
    by : (r : Option ℕ) → 2 * count_in file r ≤ length file
    by (Some body) = omega (arith, length-map (drop (6 + parts_of file) file) signed32, length-drop (6 + parts_of file) file)
    by None = omega arith

-- ---- an accepted file uses no more words than there are
pub file_within : (file words : List ℕ) (k : ℕ) → (job_file file words).answer ≡ accepted k → k ≤ length words
unfolding job_file
file_within file words k = by (leb (length file) 16384) (leb 6 (length file)) (leb (parts_of file) (length file - 6))
  where
    by : (a b c : Bool)
        → (cond a (cond b (cond c (encoded_job (kind_of file) (box_of file) (points_in file) (ends_of file) words) (kept (refused Job 0) words)) (kept (refused Job 0) words)) (kept (refused Job 0) words)).answer ≡ accepted k
        → k ≤ length words
    by false b c e = absurd (never_both Job (sym e))
    by true false c e = absurd (never_both Job (sym e))
    by true true false e = absurd (never_both Job (sym e))
    by true true true e = encoded_within (kind_of file) (box_of file) (points_in file) (ends_of file) words k e

-- ---- the words of a file, and its refusal, are those of the state behind its last call
pub file_finished : (file words : List ℕ) → job_file file words ≡ record { answer = outcome (job_file_finished file words).answer; memory = (job_file_finished file words).memory }
unfolding job_file job_file_finished
file_finished file words = by (leb (length file) 16384) (leb 6 (length file)) (leb (parts_of file) (length file - 6))
  where
    said : Written Outcome (List ℕ) → Written (Said ℕ) (List ℕ)
    said w = record { answer = outcome w.answer; memory = w.memory }

    by : (a b c : Bool)
        → cond a (cond b (cond c (encoded_job (kind_of file) (box_of file) (points_in file) (ends_of file) words) (kept (refused Job 0) words)) (kept (refused Job 0) words)) (kept (refused Job 0) words)
        ≡ said (cond a (cond b (cond c (finished_job (kind_of file) (box_of file) (points_in file) (ends_of file) words) (kept (off (refused Job 0)) words)) (kept (off (refused Job 0)) words)) (kept (off (refused Job 0)) words))
    by false b c = refl
    by true false c = refl
    by true true false = refl
    by true true true = encoded_finished (kind_of file) (box_of file) (points_in file) (ends_of file) words

-- ---- of an accepted file no more points are lost than were given
pub file_balanced : (file words : List ℕ) (n : ℕ) (s : GeomEncoder) → (job_file_finished file words).answer ≡ on n s
    → s.tally.skipped + s.tally.taken_out ≤ s.tally.taken + s.tally.boundary
unfolding job_file_finished
file_balanced file words n s = by (leb (length file) 16384) (leb 6 (length file)) (leb (parts_of file) (length file - 6))
  where
    by : (a b c : Bool)
        → (cond a (cond b (cond c (finished_job (kind_of file) (box_of file) (points_in file) (ends_of file) words) (kept (off (refused Job 0)) words)) (kept (off (refused Job 0)) words)) (kept (off (refused Job 0)) words)).answer ≡ on n s
        → s.tally.skipped + s.tally.taken_out ≤ s.tally.taken + s.tally.boundary
    by false b c e = absurd (never_on e)
    by true false c e = absurd (never_on e)
    by true true false e = absurd (never_on e)
    by true true true e = finished_balanced (kind_of file) (box_of file) (points_in file) (ends_of file) words n s e
