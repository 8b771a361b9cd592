-- Laws of the whole job with edges: what each `return` of `encode` gives.
use mathlib.Core.Path.{◌≡◌, ◌∙◌, ap, subst}
use mathlib.Core.Bool.{Bool, true, false, not}
use mathlib.Core.List.{List}
use Prim.Native.Nat.{ℕ, ◌/◌}
use lib.IntN.{ℤ}
use lib.ListN.{length}
use Rattle.promise.specs.Answers.{Gives}
use Rattle.promise.proofs.Cases.{gives_kept}
use Rattle.refusal.specs.declared.Refusal.{Refusal}
use Rattle.refusal.specs.declared.Refusal.TheVariants.{Job}
use Rattle.refusal.specs.Said.{accepted, refused}
use Rattle.clip.specs.declared.BBox.{BBox}
use Rattle.encoder.specs.declared.GeomEncoder.{GeomEncoder}
use Rattle.refusal.specs.declared.Refused.{Refused}
use Rattle.std.specs.Prelude.{Result, Ok, Err}
use Rattle.encoder.specs.States.{fresh}
use Rattle.encoder.specs.Answers.{said_started, started}
use Rattle.encoder.specs.Jobs.{points_of, ends_at, is_job, job_calls, outcome}
use Rattle.encoder.proofs.States.{yes_of, no_of}
use Rattle.encoder.proofs.Whole.{good_ends, start_refused, start_fresh}
use Rattle.edge_job.specs.EdgeJobs.{Lists, go, run, edge_job, outcome_of}

module _ (kind : ℕ) (bbox : BBox) (points : List ℤ) (ends : List ℕ) (m : Lists) (v : Bool) (e : v ≡ is_job points ends) where
  pub job_none : not v ≡ true → Gives (edge_job kind bbox points ends m) (refused Job 0) m
  unfolding edge_job
  job_none h = rw (no_of v (is_job points ends) e h) (gives_kept (refused Job 0) m)

  module _ (h : not v ≡ false) where
    pub job_asked : ends_at 0 ends (length points / 2) ≡ true
    job_asked = good_ends points ends (yes_of v (is_job points ends) e h)

    module _ (b : Result GeomEncoder Refusal) (f : said_started b ≡ started kind bbox) where
      pub job_start : (x : Refusal) → b ≡ Err x → Gives (edge_job kind bbox points ends m) (refused x 0) m
      unfolding edge_job
      job_start x g = rw (yes_of v (is_job points ends) e h) (start_refused kind bbox b f x g (run (job_calls (points_of points) 0 ends) (fresh kind bbox) m) m)

      module _ (s : GeomEncoder) (g : b ≡ Ok s) (r : Result GeomEncoder (Refused ℕ)) (o : Lists) (k : Gives (go (job_calls (points_of points) 0 ends) 0 s m) (outcome_of (length points / 2) r) o) where
        ran : Gives (edge_job kind bbox points ends m) (outcome (outcome_of (length points / 2) r)) o
        unfolding edge_job
        ran =
            let (i, (j, q)) = start_fresh kind bbox b f s g in
            rw (yes_of v (is_job points ends) e h, i, j) (record {
              answer = ap outcome (k.answer ∙ ap (λ (x : GeomEncoder). (go (job_calls (points_of points) 0 ends) 0 x m).answer) q);
              memory = k.memory ∙ ap (λ (x : GeomEncoder). (go (job_calls (points_of points) 0 ends) 0 x m).memory) q;
            })

        pub job_words : (t : GeomEncoder) → r ≡ Ok t → Gives (edge_job kind bbox points ends m) (accepted t.used) o
        job_words t i = subst (λ (x : Result GeomEncoder (Refused ℕ)). Gives (edge_job kind bbox points ends m) (outcome (outcome_of (length points / 2) x)) o) i ran

        pub job_stop : (x : Refused ℕ) → r ≡ Err x → Gives (edge_job kind bbox points ends m) (refused x.refusal x.kept) o
        job_stop x i = subst (λ (y : Result GeomEncoder (Refused ℕ)). Gives (edge_job kind bbox points ends m) (outcome (outcome_of (length points / 2) y)) o) i ran
