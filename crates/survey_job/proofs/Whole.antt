-- JOB asks the length of a list alone, and the grid's list has the same; so each return of `encode` is one of the ordinary job on the grid points.
use mathlib.Core.Path.{◌≡◌, refl, sym, ◌∙◌, ap}
use mathlib.Core.Bool.{Bool, true, false, not}
use mathlib.Core.List.{List}
use Prim.Native.Nat.{ℕ, ◌/◌}
use lib.Ieee.{Float}
use lib.ListN.{length}
use Rattle.promise.specs.Answers.{Gives}
use Rattle.refusal.specs.declared.Refusal.{Refusal}
use Rattle.refusal.specs.declared.Refusal.TheVariants.{Job}
use Rattle.refusal.specs.Said.{accepted, refused}
use Rattle.clip.specs.declared.BBox.{BBox}
use Rattle.encoder.specs.declared.GeomEncoder.{GeomEncoder}
use Rattle.refusal.specs.declared.Refused.{Refused}
use Rattle.std.specs.Prelude.{Result, Ok, Err}
use Rattle.encoder.specs.Answers.{said_started, started}
use Rattle.encoder.specs.States.{Sound}
use Rattle.encoder.specs.Jobs.{ends_at, is_job, is_job_of, job_started, go_all, end_of}
use Rattle.encoder.proofs.Whole.{start_none, start_some, job_asked, words_start, words_all, words_stop}
use Rattle.affine.specs.declared.Affine.{Affine}
use Rattle.affine.specs.Mapping.{grids_of}
use Rattle.affine.proofs.Lists.{length_grids}
use Rattle.survey_job.specs.Surveys.{surveyed_job}

module _ (kind : ℕ) (bbox : BBox) (t : Affine) (l : List Float) (ends out : List ℕ) (v : Bool) (e : v ≡ is_job_of (length l) ends) where
  same_job : v ≡ is_job (grids_of t l) ends
  unfolding is_job
  same_job = e ∙ ap (λ (n : ℕ). is_job_of n ends) (sym (length_grids t l))

  pub none : not v ≡ true → Gives (surveyed_job kind bbox t l ends out) (refused Job 0) out
  none h = words_start kind bbox (grids_of t l) ends out (Err Job) (start_none kind bbox (grids_of t l) ends v same_job h) Job refl

  module _ (h : not v ≡ false) (b : Result GeomEncoder Refusal) (f : said_started b ≡ started kind bbox) where
    begun : said_started b ≡ job_started kind bbox (grids_of t l) ends
    begun = start_some kind bbox (grids_of t l) ends v same_job h b f

    pub asked : (s : GeomEncoder) → b ≡ Ok s → (ends_at 0 ends (length l / 2) ≡ true) × Sound s (length out)
    asked s g =
        let a = job_asked kind bbox (grids_of t l) ends out b begun s g in
        (sym (ap (λ (n : ℕ). ends_at 0 ends (n / 2)) (length_grids t l)) ∙ a.0, a.1)

    pub start : (x : Refusal) → b ≡ Err x → Gives (surveyed_job kind bbox t l ends out) (refused x 0) out
    start x g = words_start kind bbox (grids_of t l) ends out b begun x g

    module _ (s : GeomEncoder) (g : b ≡ Ok s) (r : Result GeomEncoder (Refused ℕ)) (o : List ℕ) (k : Gives (go_all (grids_of t l) ends s out) (end_of (grids_of t l) r) o) where
      pub all : (u : GeomEncoder) → r ≡ Ok u → Gives (surveyed_job kind bbox t l ends out) (accepted u.used) o
      all u i = words_all kind bbox (grids_of t l) ends out b begun s g r o k u i

      pub stop : (x : Refused ℕ) → r ≡ Err x → Gives (surveyed_job kind bbox t l ends out) (refused x.refusal x.kept) o
      stop x i = words_stop kind bbox (grids_of t l) ends out b begun s g r o k x i
