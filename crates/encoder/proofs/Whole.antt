-- Laws of the whole job: what each `return` of `finish` and of `encode` gives; and an answer is known by what it says. `good_ends`, `start_refused` and `start_fresh` are for every job, whatever it writes.
use Rattle.std.specs.Prelude.{Result, Ok, Err}
use mathlib.Core.Path.{◌≡◌, refl, sym, ◌∙◌, ap, subst}
use mathlib.Core.Bool.{Bool, true, false, cond, not}
use mathlib.Core.List.{List, [], ◌∷◌}
use Prim.Native.Nat.{ℕ, ◌/◌, ◌%◌}
use native.Mathlib.Omega.{arith}
use lib.Dec.{eqb}
use lib.IntN.{ℤ}
use lib.ListN.{length}
use Rattle.promise.specs.Answers.{Written, Gives, kept}
use Rattle.refusal.specs.declared.Refusal.{Refusal}
use Rattle.refusal.specs.declared.Refusal.TheVariants.{Job, Kind, Box}
use Rattle.refusal.specs.Said.{Said, accepted, refused}
use Rattle.refusal.proofs.Laws.{one_refusal, never_both}
use Rattle.clip.specs.declared.BBox.{BBox}
use Rattle.clip.specs.Domain.{is_good}
use Rattle.words.specs.Geometries.{is_kind}
use Rattle.encoder.specs.declared.GeomEncoder.{GeomEncoder}
use Rattle.encoder.specs.States.{fresh, Sound}
use Rattle.encoder.specs.Answers.{said_started, started}
use Rattle.encoder.proofs.States.{yes_of, no_of}
use Rattle.encoder.proofs.Courses.{never_on, same_state}
use Rattle.encoder.proofs.Reached.{fresh_sound}
use Rattle.encoder.specs.Jobs.{Outcome, on, off, points_of, ends_at, is_job, job_calls, outcome, outcome_of, end_of, go_all, run, job_started, encoded_job, finished_job, said_encoded}
use Rattle.refusal.specs.declared.Refused.{Refused}

-- ---- one value for each answer
pub one_encoded : (r r' : Result ℕ (Refused ℕ)) → said_encoded r ≡ said_encoded r' → r ≡ r'
one_encoded (Ok n) (Ok m) e = ap (λ (s : Said ℕ). Ok s.values) e
one_encoded (Ok n) (Err x) e = absurd (never_both x.refusal e)
one_encoded (Err x) (Ok m) e = absurd (never_both x.refusal (sym e))
one_encoded (Err x) (Err y) e =
    let i : x.refusal ≡ y.refusal = one_refusal x.refusal y.refusal e in
    let j : x.kept ≡ y.kept = ap (λ (s : Said ℕ). s.values) e in
    λ k. Err (record { refusal = i k; kept = j k })

said_of_lem : Said ℕ → Outcome → Said ℕ
said_of_lem d (on n s) = d
said_of_lem d (off a) = a

pub one_course : (n : ℕ) (r r' : Result GeomEncoder (Refused ℕ)) → outcome_of n r ≡ outcome_of n r' → r ≡ r'
unfolding said_of_lem
one_course n (Ok s) (Ok t) e = ap Ok (same_state e)
one_course n (Ok s) (Err x) e = absurd (never_on (sym e))
one_course n (Err x) (Ok s) e = absurd (never_on e)
one_course n (Err x) (Err y) e =
    let f : refused x.refusal x.kept ≡ refused y.refusal y.kept = ap (said_of_lem (accepted x.kept)) e in
    let i : x.refusal ≡ y.refusal = one_refusal x.refusal y.refusal f in
    let j : x.kept ≡ y.kept = ap (λ (s : Said ℕ). s.values) f in
    λ k. Err (record { refusal = i k; kept = j k })

-- ---- what the checks tell
pub good_ends : (points : List ℤ) (ends : List ℕ) → is_job points ends ≡ true → ends_at 0 ends (length points / 2) ≡ true
unfolding is_job
good_ends points ends = by (eqb (length ends) 0) (eqb (length points % 2) 0)
  where
    by : (a b : Bool) → cond a false (cond b (ends_at 0 ends (length points / 2)) false) ≡ true → ends_at 0 ends (length points / 2) ≡ true
    by false true e = e
    by true b e = absurd (let z : ◌≡◌ {A = ℕ} 0 1 = cc in omega arith)
    by false false e = absurd (let z : ◌≡◌ {A = ℕ} 0 1 = cc in omega arith)

-- KIND and BOX are those of a fresh encoder: b is what `new` answers
module _ (kind : ℕ) (bbox : BBox) (b : Result GeomEncoder Refusal) (f : said_started b ≡ started kind bbox) where
  -- f is what an answer is made of what is said
  pub start_turned : {A M : Type 0} (f : Said ℕ → A) (x : Refusal) → b ≡ Err x → (w : Written A M) (out : M) → Gives (cond (is_kind kind) (cond (is_good bbox) w (kept (f (refused Box 0)) out)) (kept (f (refused Kind 0)) out)) (f (refused x 0)) out
  start_turned f' x g w out = by (is_kind kind) (is_good bbox) (sym (ap said_started g) ∙ f)
    where
      by : (k h : Bool) → refused x [] ≡ cond k (cond h (accepted (fresh kind bbox ∷ [])) (refused Box [])) (refused Kind []) →
          Gives (cond k (cond h w (kept (f' (refused Box 0)) out)) (kept (f' (refused Kind 0)) out)) (f' (refused x 0)) out
      by true true e = absurd (never_both x (sym e))
      by true false e = record { answer = ap (λ (r : Refusal). f' (refused r 0)) (one_refusal x Box e); memory = refl }
      by false h e = record { answer = ap (λ (r : Refusal). f' (refused r 0)) (one_refusal x Kind e); memory = refl }

  pub start_refused : {M : Type 0} (x : Refusal) → b ≡ Err x → (w : Written (Said ℕ) M) (out : M) → Gives (cond (is_kind kind) (cond (is_good bbox) w (kept (refused Box 0) out)) (kept (refused Kind 0) out)) (refused x 0) out
  start_refused x g w out = start_turned (λ a. a) x g w out

  pub start_fresh : (s : GeomEncoder) → b ≡ Ok s → (is_kind kind ≡ true) × ((is_good bbox ≡ true) × (s ≡ fresh kind bbox))
  start_fresh s g = by (is_kind kind) (is_good bbox) refl refl (sym (ap said_started g) ∙ f)
    where
      by : (k h : Bool) → is_kind kind ≡ k → is_good bbox ≡ h → accepted (s ∷ []) ≡ cond k (cond h (accepted (fresh kind bbox ∷ [])) (refused Box [])) (refused Kind []) →
          (is_kind kind ≡ true) × ((is_good bbox ≡ true) × (s ≡ fresh kind bbox))
      by true true i j e = (i, (j, let l : s ∷ [] ≡ fresh kind bbox ∷ [] = ap (λ (x : Said (List GeomEncoder)). x.values) e in cc))
      by true false i j e = absurd (never_both Box e)
      by false h i j e = absurd (never_both Kind e)

-- ---- the returns of `start`
module _ (kind : ℕ) (bbox : BBox) (points : List ℤ) (ends : List ℕ) (v : Bool) (e : v ≡ is_job points ends) where
  pub start_none : not v ≡ true → refused Job [] ≡ job_started kind bbox points ends
  start_none h = rw (no_of v (is_job points ends) e h)

  pub start_some : not v ≡ false → (b : Result GeomEncoder Refusal) → said_started b ≡ started kind bbox → said_started b ≡ job_started kind bbox points ends
  start_some h b f = f ∙ rw (yes_of v (is_job points ends) e h)

-- ---- the returns of `finish`: b is what `start` answers
module _ (kind : ℕ) (bbox : BBox) (points : List ℤ) (ends out : List ℕ) (b : Result GeomEncoder Refusal) (f : said_started b ≡ job_started kind bbox points ends) where
  module _ (s : GeomEncoder) (g : b ≡ Ok s) where
    job_yes : is_job points ends ≡ true
    job_yes = by (is_job points ends) (sym (ap said_started g) ∙ f)
      where
        by : (t : Bool) → accepted (s ∷ []) ≡ cond t (started kind bbox) (refused Job []) → t ≡ true
        by true e = refl
        by false e = absurd (never_both Job e)

    job_fresh : (is_kind kind ≡ true) × ((is_good bbox ≡ true) × (s ≡ fresh kind bbox))
    job_fresh = start_fresh kind bbox b (f ∙ rw job_yes) s g

    pub job_asked : (ends_at 0 ends (length points / 2) ≡ true) × Sound s (length out)
    job_asked =
        let (i, (j, q)) = job_fresh in
        (good_ends points ends job_yes, rw q (fresh_sound kind bbox (length out) i j))

    pub job_ran : (r : Result GeomEncoder (Refused ℕ)) (o : List ℕ) → Gives (go_all points ends s out) (end_of points r) o → Gives (finished_job kind bbox points ends out) (end_of points r) o
    unfolding finished_job
    job_ran r o k =
        let (i, (j, q)) = job_fresh in
        rw (job_yes, i, j) (subst (λ (x : GeomEncoder). Gives (go_all points ends x out) (end_of points r) o) q k)

  pub job_start : (x : Refusal) → b ≡ Err x → Gives (finished_job kind bbox points ends out) (end_of points (Err (record { refusal = x; kept = 0 }))) out
  unfolding finished_job
  job_start x g = by (is_job points ends) (sym (ap said_started g) ∙ f)
    where
      w : Written Outcome (List ℕ)
      w = go_all points ends (fresh kind bbox) out

      by : (t : Bool) → refused x [] ≡ cond t (started kind bbox) (refused Job []) →
          Gives (cond t (cond (is_kind kind) (cond (is_good bbox) w (kept (off (refused Box 0)) out)) (kept (off (refused Kind 0)) out)) (kept (off (refused Job 0)) out)) (off (refused x 0)) out
      by true e = start_turned kind bbox (Err x) e off x refl w out
      by false e = record { answer = ap (λ (r : Refusal). off (refused r 0)) (one_refusal x Job e); memory = refl }

-- ---- the words of a job are those of the state behind it
module _ (kind : ℕ) (bbox : BBox) (points : List ℤ) (ends out : List ℕ) where
  pub encoded_finished : encoded_job kind bbox points ends out ≡ record { answer = outcome (finished_job kind bbox points ends out).answer; memory = (finished_job kind bbox points ends out).memory }
  unfolding encoded_job finished_job
  encoded_finished = by (is_job points ends) (is_kind kind) (is_good bbox)
    where
      words : Written Outcome (List ℕ) → Written (Said ℕ) (List ℕ)
      words w = record { answer = outcome w.answer; memory = w.memory }

      by : (a b c : Bool) →
          cond a (cond b (cond c (run (job_calls (points_of points) 0 ends) (fresh kind bbox) out) (kept (refused Box 0) out)) (kept (refused Kind 0) out)) (kept (refused Job 0) out) ≡
          words (cond a (cond b (cond c (go_all points ends (fresh kind bbox) out) (kept (off (refused Box 0)) out)) (kept (off (refused Kind 0)) out)) (kept (off (refused Job 0)) out))
      by true true true = refl
      by true true false = refl
      by true false c = refl
      by false b c = refl

  module _ (r : Result GeomEncoder (Refused ℕ)) (o : List ℕ) (g : Gives (finished_job kind bbox points ends out) (end_of points r) o) where
    told : Gives (encoded_job kind bbox points ends out) (outcome (end_of points r)) o
    told = rw encoded_finished (record { answer = ap outcome g.answer; memory = g.memory })

-- ---- the returns of `encode`
module _ (kind : ℕ) (bbox : BBox) (points : List ℤ) (ends out : List ℕ) (b : Result GeomEncoder Refusal) (f : said_started b ≡ job_started kind bbox points ends) where
  pub words_start : (x : Refusal) → b ≡ Err x → Gives (encoded_job kind bbox points ends out) (refused x 0) out
  words_start x g = told kind bbox points ends out (Err (record { refusal = x; kept = 0 })) out (job_start kind bbox points ends out b f x g)

  module _ (s : GeomEncoder) (g : b ≡ Ok s) (r : Result GeomEncoder (Refused ℕ)) (o : List ℕ) (k : Gives (go_all points ends s out) (end_of points r) o) where
    ran : Gives (encoded_job kind bbox points ends out) (outcome (end_of points r)) o
    ran = told kind bbox points ends out r o (job_ran kind bbox points ends out b f s g r o k)

    pub words_all : (t : GeomEncoder) → r ≡ Ok t → Gives (encoded_job kind bbox points ends out) (accepted t.used) o
    words_all t i = subst (λ (x : Result GeomEncoder (Refused ℕ)). Gives (encoded_job kind bbox points ends out) (outcome (end_of points x)) o) i ran

    pub words_stop : (x : Refused ℕ) → r ≡ Err x → Gives (encoded_job kind bbox points ends out) (refused x.refusal x.kept) o
    words_stop x i = subst (λ (y : Result GeomEncoder (Refused ℕ)). Gives (encoded_job kind bbox points ends out) (outcome (end_of points y)) o) i ran
