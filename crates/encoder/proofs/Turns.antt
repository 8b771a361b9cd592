-- The loops of the job, over plain lists and numbers: what is left to do gives the rest of the answer.
use Rattle.std.specs.Prelude.{Result, Ok, Err}
use mathlib.Core.Path.{◌≡◌, refl, sym, ◌∙◌, ap}
use mathlib.Core.Bool.{Bool, true, false, cond}
use mathlib.Core.List.{List, [], ◌∷◌}
use Prim.Native.Nat.{ℕ, zero, suc, ◌+◌, ◌-◌, ◌*◌, ◌/◌, ◌%◌, ◌≤◌, ◌<◌}
use native.Mathlib.Omega.{arith}
use borrow.Author.Tests.{eq-eqb, ne_eqb, le-leb, lt-leb, leb-true, eqb-true}
use lib.Dec.{leb, eqb}
use lib.IntN.{ℤ}
use lib.ListN.{length, drop, get_or, drop_of_length-le}
use lib.Seq.{drop-cons}
use Rattle.promise.specs.Answers.{Gives}
use Rattle.clip.specs.declared.Pt.{Pt}
use Rattle.encoder.specs.declared.GeomEncoder.{GeomEncoder}
use Rattle.encoder.specs.declared.Edges.{Edges}
use Rattle.encoder.specs.Answers.{said_drawn, turned}
use Rattle.encoder.specs.Completing.{completed}
use Rattle.encoder.specs.Calls.{complete, call, part_calls}
use Rattle.encoder.specs.Stretches.{point_in}
use Rattle.encoder.specs.Jobs.{points_of, ends_at, is_job_of, part, job_calls, on, go, outcome_of}
use Rattle.encoder.specs.States.{Sound}
use Rattle.encoder.proofs.Within.{go_sound}
use Rattle.encoder.proofs.Courses.{go_on, go_off, off_list, then, go_then}
use Rattle.refusal.specs.declared.Refused.{Refused}

-- the element at j, and those behind it
pub next : {A : Type 0} (l : List A) (j k : ℕ) (d : A) → k ≡ suc j → j < length l → drop j l ≡ get_or l j d ∷ drop k l
next l j k d e h = rw e (drop-cons l j d h)

-- ---- the ends: `is_job_of`, of n coordinates
pub record Ending (n : ℕ) (ends : List ℕ) (from j : ℕ) : Type 0 where
  pub at : j ≤ length ends
  pub rest : is_job_of n ends ≡ ends_at from (drop j ends) (n / 2)

module _ (n : ℕ) (ends : List ℕ) where
  pub no_parts : length ends ≡ 0 → false ≡ is_job_of n ends
  no_parts e = rw (eq-eqb (length ends) 0 e)

  module _ (e : length ends ≡ 0 → ⊥) where
    pub odd_list : (n % 2 ≡ 0 → ⊥) → false ≡ is_job_of n ends
    odd_list f = rw (ne_eqb (length ends) 0 e, ne_eqb (n % 2) 0 f)

    pub ends_start : n % 2 ≡ 0 → Ending n ends 0 0
    ends_start f = record { at = omega arith; rest = rw (ne_eqb (length ends) 0 e, eq-eqb (n % 2) 0 f) }

  module _ (from j : ℕ) (I : Ending n ends from j) where
    pub ends_all : length ends ≤ j → eqb from (n / 2) ≡ is_job_of n ends
    ends_all h = rw (I.rest, drop_of_length-le ends h)

    module _ (h : j < length ends) where
      split : drop j ends ≡ get_or ends j 0 ∷ drop (j + 1) ends
      split = next ends j (j + 1) 0 (omega arith) h

      pub ends_down : get_or ends j 0 < from → false ≡ is_job_of n ends
      ends_down d = rw (I.rest, split, lt-leb from (get_or ends j 0) d)

      pub ends_turn : from ≤ get_or ends j 0 → Ending n ends (get_or ends j 0) (j + 1)
      ends_turn d = record { at = omega arith; rest = I.rest ∙ rw (split, le-leb from (get_or ends j 0) d) }

-- ---- the points of a part: `add_part`
pub points_at : (l : List ℤ) (i : ℕ) → i < length l / 2 → drop i (points_of l) ≡ point_in l i ∷ drop (i + 1) (points_of l)
points_at [] i h = absurd (omega arith)
points_at (x ∷ []) i h = absurd (omega arith)
points_at (x ∷ y ∷ l) zero h = refl
points_at (x ∷ y ∷ l) (suc i) h =
    let a : 2 * suc i ≡ suc (suc (2 * i)) = omega arith in
    let b : 2 * suc i + 1 ≡ suc (suc (2 * i + 1)) = omega arith in
    let c : suc i + 1 ≡ suc (i + 1) = omega arith in
    rw (b, a, c) (points_at l i (omega arith))

pub part_more : (l : List ℤ) (i to : ℕ) → i < to → to ≤ length l / 2 → part (points_of l) i to ≡ point_in l i ∷ part (points_of l) (i + 1) to
part_more l i to h k = let e : to - i ≡ suc (to - (i + 1)) = omega arith in rw (points_at l i (omega arith), e)

pub part_over : (ps : List Pt) (i to : ℕ) → i ≡ to → part ps i to ≡ []
part_over ps i to e = let z : to - i ≡ 0 = omega arith in rw z

pub record Adding (l : List ℤ) (from to : ℕ) (out₀ : List ℕ) (s : GeomEncoder) (out : List ℕ) (q : GeomEncoder) (i : ℕ) : Type 0 where
  pub upto : i ≤ to
  pub long : length out ≡ length out₀
  pub sound : Sound q (length out)
  pub rest : go (part_calls (part (points_of l) from to)) from s out₀ ≡ go (part_calls (part (points_of l) i to)) i q out

pub add_start : (l : List ℤ) (from to : ℕ) (out : List ℕ) (s : GeomEncoder) → from ≤ to → Sound s (length out) → Adding l from to out s out s from
add_start l from to out s h S = record { upto = h; long = refl; sound = S; rest = refl }

module _ (l : List ℤ) (from to : ℕ) (out₀ : List ℕ) (s : GeomEncoder) (out : List ℕ) (q : GeomEncoder) (i : ℕ) (I : Adding l from to out₀ s out q i) where
  module _ (h : to ≤ i) (r : Result (GeomEncoder × Edges) (Refused GeomEncoder)) (o : List ℕ) (g : Gives (completed q out) (said_drawn r) o) where
    over : go (part_calls (part (points_of l) from to)) from s out₀ ≡ go (complete ∷ []) to q out
    over = let e : i ≡ to = omega (arith, I.upto) in I.rest ∙ rw (part_over (points_of l) i to e, e)

    pub part_done : (t : GeomEncoder) (n : Edges) → r ≡ Ok (t, n) → Gives (go (part_calls (part (points_of l) from to)) from s out₀) (outcome_of to (Ok t)) o
    part_done t v e = rw (over ∙ go_on complete [] to q t out o (rw e at g)) (record { answer = refl; memory = refl })

    pub part_stop : (x : Refused GeomEncoder) → r ≡ Err x → Gives (go (part_calls (part (points_of l) from to)) from s out₀) (outcome_of to (Err (record { refusal = x.refusal; kept = to }))) o
    part_stop x e =
        let g' : Gives (call complete q out) (turned x.refusal x.kept) o = rw e at g in
        rw (over ∙ go_off complete [] to q x.kept out o x.refusal g') (record { answer = refl; memory = off_list complete [] to q x.kept out o x.refusal g' })

-- ---- the parts: `add_parts`
pub ends_more : (from x : ℕ) (es : List ℕ) (n : ℕ) → ends_at from (x ∷ es) n ≡ true → (from ≤ x) × (ends_at x es n ≡ true)
ends_more from x es n = by (leb from x) refl
  where
    by : (b : Bool) → leb from x ≡ b → cond b (ends_at x es n) false ≡ true → (from ≤ x) × (ends_at x es n ≡ true)
    by true h e = (leb-true from x h, e)
    by false h e = absurd (let z : ◌≡◌ {A = ℕ} 0 1 = cc in omega arith)

pub ends_le : (from : ℕ) (es : List ℕ) (n : ℕ) → ends_at from es n ≡ true → from ≤ n
ends_le from [] n e = let h = eqb-true from n e in omega arith
ends_le from (x ∷ es) n e = let (h, k) = ends_more from x es n e in let m = ends_le x es n k in omega arith

pub record Going (l : List ℤ) (ends out₀ : List ℕ) (s : GeomEncoder) (out : List ℕ) (q : GeomEncoder) (from j : ℕ) : Type 0 where
  pub at : j ≤ length ends
  pub long : length out ≡ length out₀
  pub sound : Sound q (length out)
  pub good : ends_at from (drop j ends) (length l / 2) ≡ true
  pub rest : go (job_calls (points_of l) 0 ends) 0 s out₀ ≡ go (job_calls (points_of l) from (drop j ends)) from q out

pub parts_start : (l : List ℤ) (ends out : List ℕ) (s : GeomEncoder) → ends_at 0 ends (length l / 2) ≡ true → Sound s (length out) → Going l ends out s out s 0 0
parts_start l ends out s e S = record { at = omega arith; long = refl; sound = S; good = e; rest = refl }

module _ (l : List ℤ) (ends out₀ : List ℕ) (s : GeomEncoder) (out : List ℕ) (q : GeomEncoder) (from j : ℕ) (I : Going l ends out₀ s out q from j) where
  pub parts_all : length ends ≤ j → Gives (go (job_calls (points_of l) 0 ends) 0 s out₀) (outcome_of (length l / 2) (Ok q)) out
  parts_all h =
      let d = drop_of_length-le ends h in
      let e : from ≡ length l / 2 = eqb-true from (length l / 2) (rw d at I.good) in
      rw (I.rest, d) (record { answer = ap (λ (n : ℕ). on n q) (sym e); memory = refl })

  module _ (h : j < length ends) where
    here : drop j ends ≡ get_or ends j 0 ∷ drop (j + 1) ends
    here = next ends j (j + 1) 0 (omega arith) h

    told : (from ≤ get_or ends j 0) × (ends_at (get_or ends j 0) (drop (j + 1) ends) (length l / 2) ≡ true)
    told = ends_more from (get_or ends j 0) (drop (j + 1) ends) (length l / 2) (rw here at I.good)

    pub part_asked : (from ≤ get_or ends j 0) × ((get_or ends j 0 ≤ length l / 2) × Sound q (length out))
    part_asked = (told.0, (ends_le (get_or ends j 0) (drop (j + 1) ends) (length l / 2) told.1, I.sound))

    module _ (r : Result GeomEncoder (Refused ℕ)) (o : List ℕ) (g : Gives (go (part_calls (part (points_of l) from (get_or ends j 0))) from q out) (outcome_of (get_or ends j 0) r) o) where
      behind : go (job_calls (points_of l) 0 ends) 0 s out₀ ≡ then (outcome_of (get_or ends j 0) r) (job_calls (points_of l) (get_or ends j 0) (drop (j + 1) ends)) o
      behind = I.rest ∙ rw here (go_then (job_calls (points_of l) (get_or ends j 0) (drop (j + 1) ends)) (part_calls (part (points_of l) from (get_or ends j 0))) from q out ∙
          (λ k. then (sym g.answer k) (job_calls (points_of l) (get_or ends j 0) (drop (j + 1) ends)) (sym g.memory k)))

      sound_after : (t : GeomEncoder) → r ≡ Ok t → Sound t (length o)
      sound_after t e =
          let a : (go (part_calls (part (points_of l) from (get_or ends j 0))) from q out).answer ≡ on (get_or ends j 0) t = sym g.answer ∙ ap (outcome_of (get_or ends j 0)) e in
          rw g.memory (go_sound (part_calls (part (points_of l) from (get_or ends j 0))) from q out I.sound (get_or ends j 0) t a)

      pub parts_turn : (t : GeomEncoder) → r ≡ Ok t → length o ≡ length out → Going l ends out₀ s o t (get_or ends j 0) (j + 1)
      parts_turn t e f = record { at = omega arith; long = f ∙ I.long; sound = sound_after t e; good = told.1; rest = rw e at behind }

      pub parts_stop : (x : Refused ℕ) → r ≡ Err x → Gives (go (job_calls (points_of l) 0 ends) 0 s out₀) (outcome_of (length l / 2) (Err x)) o
      parts_stop x e = rw (behind, e) (record { answer = refl; memory = refl })
