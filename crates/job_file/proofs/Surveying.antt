-- The doubles of a survey file, laid in a list, and what each way through such a file answers; over plain lists.
use mathlib.Core.Path.{◌≡◌, refl, sym, ◌∙◌, ap}
use mathlib.Core.Bool.{Bool, true, false, cond}
use mathlib.Core.List.{List, [], ◌∷◌}
use Prim.Native.Nat.{ℕ, zero, suc, ◌+◌, ◌*◌, ◌-◌, ◌/◌, ◌%◌, ◌<◌, ◌≤◌}
use native.Mathlib.Omega.{arith}
use borrow.Author.Tests.{le-leb, lt-leb, eq-eqb, ne_eqb}
use lib.Dec.{leb, eqb}
use lib.Ieee.{Float, nan, binary64, of_bits}
use lib.ListN.{length, take, drop, get_or, length-take, length-drop}
use lib.Seq.{take_all, take-add, drop_at, get_or-take, length-take-le}
use Rattle.whole.specs.Twos.{wide}
use Rattle.promise.specs.Answers.{Written, Gives, kept}
use Rattle.promise.specs.Laid.{lay}
use Rattle.promise.proofs.Laying.{take_lay}
use Rattle.promise.proofs.Cases.{gives_kept}
use Rattle.refusal.specs.declared.Refusal.TheVariants.{Job}
use Rattle.refusal.specs.Said.{Said, accepted, refused}
use Rattle.refusal.proofs.Laws.{never_both}
use Rattle.clip.specs.declared.BBox.{BBox}
use Rattle.affine.specs.declared.Affine.{Affine}
use Rattle.affine.specs.Mapping.{grids_of}
use Rattle.encoder.proofs.Within.{encoded_within}
use Rattle.survey_job.specs.Surveys.{surveyed_job}
use Rattle.std.specs.Prelude.{Option, None}
use Rattle.job_file.specs.JobFile.{kind_of, box_of, parts_of, ends_of, body_of}
use Rattle.job_file.specs.SurveyFile.{doubles_of, map_of, behind_table, body_surveyed, survey_file}
use Rattle.job_file.proofs.Taking.{Whole, cut_file}

-- ---- the doubles of a list of numbers
pub doubles_long : (l : List ℕ) → length (doubles_of l) ≡ length l / 2
doubles_long [] = refl
doubles_long (x ∷ []) = omega arith
doubles_long (x ∷ y ∷ l) = let h = doubles_long l in omega arith

pub doubles_at : (l : List ℕ) (i : ℕ) → i < length l / 2 → get_or (doubles_of l) i nan ≡ of_bits binary64 (wide (get_or l (2 * i) 0) (get_or l (2 * i + 1) 0))
doubles_at [] i h = absurd (omega arith)
doubles_at (x ∷ []) i h = absurd (omega arith)
doubles_at (x ∷ y ∷ l) zero h = refl
doubles_at (x ∷ y ∷ l) (suc i) h =
    let a : 2 * suc i ≡ suc (suc (2 * i)) = omega arith in
    let b : 2 * suc i + 1 ≡ suc (suc (2 * i + 1)) = omega arith in
    rw (b, a) (doubles_at l i (omega arith))

-- ---- the body: the front of the doubles' list, once they are laid, is the map and the points
module _ (file : List ℕ) (doubles : List Float) (body : ℕ) (h : body + 12 ≤ length file) (k : length file ≤ 2 * length doubles) (n : ℕ) (f : n ≡ (length file - body) / 2)
    (l : List Float) (g : l ≡ lay 0 (doubles_of (take (length file - body) (drop body file))) doubles) where
  abbrev all : List Float
  all = doubles_of (drop body file)

  all_long : length all ≡ n
  all_long = doubles_long (drop body file) ∙ ap (λ (m : ℕ). m / 2) (length-drop body file) ∙ sym f

  front : take n l ≡ all
  front =
      let t : take (length file - body) (drop body file) ≡ drop body file = take_all (length file - body) (drop body file) (omega (arith, length-drop body file)) in
      let w : l ≡ lay 0 all doubles = rw t at g in
      let z : n ≡ 0 + length all = omega (arith, all_long) in
      ap (take n) w ∙ ap (λ (m : ℕ). take m (lay 0 all doubles)) z ∙ take_lay 0 all doubles (omega (arith, all_long))

  pub laid_at : (i : ℕ) → i < 6 → get_or l i nan ≡ get_or all i nan
  laid_at i m = sym (get_or-take n l i nan (omega arith)) ∙ ap (λ (x : List Float). get_or x i nan) front

  behind : take (n - 6) (drop 6 l) ≡ drop 6 all
  behind =
      let long : length (take n l) ≡ n = ap length front ∙ all_long in
      let six : 6 ≤ length l = omega (arith, long, length-take n l) in
      let z : 6 + (n - 6) ≡ n = omega arith in
      sym (drop_at (take 6 l) (take (n - 6) (drop 6 l)) 6 (length-take-le 6 l six)) ∙ ap (drop 6) (sym (take-add 6 (n - 6) l)) ∙ ap (λ (m : ℕ). drop 6 (take m l)) z ∙ ap (drop 6) front

  pub surveyed_body : (t : Affine) → t ≡ map_of l → (words : List ℕ) (bbox : BBox) → bbox ≡ box_of file → (answer : Said ℕ) (ws : List ℕ)
      → Gives (surveyed_job (get_or file 0 0) bbox t (take (n - 6) (drop 6 l)) (take (body - 6) (drop 6 file)) words) answer ws
      → Gives (body_surveyed file body words) answer ws
  surveyed_body t e words bbox i answer ws w =
      let m : map_of l ≡ map_of all = λ j. record { a = laid_at 0 (omega arith) j; b = laid_at 1 (omega arith) j; c = laid_at 2 (omega arith) j; d = laid_at 3 (omega arith) j; e = laid_at 4 (omega arith) j; f = laid_at 5 (omega arith) j } in
      rw (behind, i, e ∙ m) at w

-- ---- a file that has no body, or whose body is not filled, is refused
-- what a file with a body is taken for
abbrev taken : List ℕ → List ℕ → Written (Said ℕ) (List ℕ)
taken file words =
    cond (leb 12 (length (behind_table file)))
    (cond (eqb (length (behind_table file) % 4) 0)
    (surveyed_job (kind_of file) (box_of file) (map_of (doubles_of (behind_table file))) (drop 6 (doubles_of (behind_table file))) (ends_of file) words)
    (kept (refused Job 0) words))
    (kept (refused Job 0) words)

module _ (file : List ℕ) (r : Option ℕ) (e : r ≡ body_of file) where
  pub cut_survey : r ≡ None → (words : List ℕ) → Gives (survey_file file words) (refused Job 0) words
  unfolding survey_file
  cut_survey h words =
      let none : Written (Said ℕ) (List ℕ) = kept (refused Job 0) words in
      rw (cut_file file r e h (taken file words) none) (gives_kept _ _)

module _ (file : List ℕ) (body : ℕ) (w : Whole file body) (words : List ℕ) where
  rest_long : length (behind_table file) ≡ length file - body
  rest_long = length-drop (6 + parts_of file) file ∙ ap (λ (n : ℕ). length file - n) (sym w.at)

  opened : survey_file file words ≡ taken file words
  unfolding survey_file
  opened = rw (le-leb (length file) 16384 w.few, le-leb 6 (length file) w.table, le-leb (parts_of file) (length file - 6) w.ends)

  pub no_map : length file - body < 12 → Gives (survey_file file words) (refused Job 0) words
  no_map h = rw (opened, rest_long, lt-leb 12 (length file - body) h) (gives_kept _ _)

  module _ (h : 12 ≤ length file - body) where
    pub cut_point : ((length file - body) % 4 ≡ 0 → ⊥) → Gives (survey_file file words) (refused Job 0) words
    cut_point k = rw (opened, rest_long, le-leb 12 (length file - body) h, ne_eqb ((length file - body) % 4) 0 k) (gives_kept _ _)

    pub whole_survey : (length file - body) % 4 ≡ 0 → (answer : Said ℕ) (ws : List ℕ) → Gives (body_surveyed file body words) answer ws → Gives (survey_file file words) answer ws
    whole_survey k answer ws g =
        let n : 6 + parts_of file - 6 ≡ parts_of file = omega arith in
        rw (opened, rest_long, le-leb 12 (length file - body) h, eq-eqb ((length file - body) % 4) 0 k) (rw (w.at, n) at g)

-- ---- an accepted file uses no more words than there are
pub survey_within : (file words : List ℕ) (k : ℕ) → (survey_file file words).answer ≡ accepted k → k ≤ length words
unfolding survey_file
survey_within file words k =
    by (leb (length file) 16384) (leb 6 (length file)) (leb (parts_of file) (length file - 6)) (leb 12 (length (behind_table file))) (eqb (length (behind_table file) % 4) 0)
  where
    job : Written (Said ℕ) (List ℕ)
    job = surveyed_job (kind_of file) (box_of file) (map_of (doubles_of (behind_table file))) (drop 6 (doubles_of (behind_table file))) (ends_of file) words

    none : Written (Said ℕ) (List ℕ)
    none = kept (refused Job 0) words

    by : (a b c d e : Bool) → (cond a (cond b (cond c (cond d (cond e job none) none) none) none) none).answer ≡ accepted k → k ≤ length words
    by false b c d e i = absurd (never_both Job (sym i))
    by true false c d e i = absurd (never_both Job (sym i))
    by true true false d e i = absurd (never_both Job (sym i))
    by true true true false e i = absurd (never_both Job (sym i))
    by true true true true false i = absurd (never_both Job (sym i))
    by true true true true true i = encoded_within (kind_of file) (box_of file) (grids_of (map_of (doubles_of (behind_table file))) (drop 6 (doubles_of (behind_table file)))) (ends_of file) words k i
