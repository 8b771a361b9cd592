-- The struct of each answer, by the cases of its enum.
use Prim.Native.Nat.{ℕ}
use mathlib.Core.Path.{◌≡◌}
use lib.IntN.{pos}
use Rattle.refusal.specs.declared.Refusal.{Refusal}
use Rattle.refusal.specs.declared.Fault.{Fault}
use Rattle.refusal.specs.declared.Refused.{Refused}
use Rattle.std.specs.Prelude.{Result, Ok, Err}
use Rattle.refusal.specs.Refusals.{number_of}
use Rattle.refusal.proofs.Laws.{never_zero}
use Rattle.decoder.specs.ReadingWords.{said_reading}
use Rattle.encoder.specs.Jobs.{said_encoded, outcome_of}
use Rattle.encoder.specs.declared.GeomEncoder.{GeomEncoder}
use Rattle.encoder.specs.declared.Edges.{Edges}
use Rattle.encoder.specs.Answers.{said_started, said_drawn, edges_of}
use Rattle.clip.specs.declared.Pt.{Pt}
use Rattle.clip.specs.Numbers.{edge_number}
use Rattle.affine.specs.Mapping.{said_mapped}
use Rattle.brinepost.specs.declared.vertices.BpReading.{BpReading}
use Rattle.brinepost.specs.declared.work.BpJob.{BpJob}
use Rattle.brinepost.specs.declared.finished.BpFinished.{BpFinished}
use Rattle.brinepost.specs.declared.state.BpEncoder.{BpEncoder}
use Rattle.brinepost.specs.declared.calls.BpStarted.{BpStarted}
use Rattle.brinepost.specs.declared.calls.BpDrawn.{BpDrawn}
use Rattle.brinepost.specs.declared.surveyed.BpMapped.{BpMapped}
use Rattle.brinepost.specs.Works.{flat_job, flat_finished}
use Rattle.brinepost.specs.Readings.{flat_reading}
use Rattle.brinepost.specs.Carried.{state_to, nothing}
use Rattle.brinepost.specs.Drawing.{flat_started, flat_drawn, flagged}
use Rattle.brinepost.specs.Surveyed.{flat_mapped}

module _ (r : Result ℕ Fault) where
  pub read_done : (n : ℕ) → r ≡ Ok n → ◌≡◌ {A = BpReading} (record { refusal = 0; vertices = n; place = 0 }) (flat_reading (said_reading r))
  unfolding flat_reading
  read_done n e = rw e

  pub read_not : (f : Fault) (n : ℕ) → r ≡ Err f → n ≡ number_of f.refusal →
      ◌≡◌ {A = BpReading} (record { refusal = n; vertices = 0; place = f.place }) (flat_reading (said_reading r))
  unfolding flat_reading
  read_not f n e h = rw (e, h)

module _ (r : Result Pt Refusal) where
  pub mapped_done : (p : Pt) → r ≡ Ok p → ◌≡◌ {A = BpMapped} (record { refusal = 0; x = p.x; y = p.y }) (flat_mapped (said_mapped r))
  unfolding flat_mapped
  mapped_done p e = rw e

  pub mapped_not : (k : Refusal) (n : ℕ) → r ≡ Err k → n ≡ number_of k → ◌≡◌ {A = BpMapped} (record { refusal = n; x = pos 0; y = pos 0 }) (flat_mapped (said_mapped r))
  unfolding flat_mapped
  mapped_not k n e h = rw (e, h)

module _ (r : Result ℕ (Refused ℕ)) (points : ℕ) where
  pub job_done : (n : ℕ) → r ≡ Ok n → ◌≡◌ {A = BpJob} (record { refusal = 0; points = points; words = n }) (flat_job points (said_encoded r))
  unfolding flat_job
  job_done n e = rw e

  pub job_not : (x : Refused ℕ) (n : ℕ) → r ≡ Err x → n ≡ number_of x.refusal → ◌≡◌ {A = BpJob} (record { refusal = n; points = x.kept; words = 0 }) (flat_job points (said_encoded r))
  unfolding flat_job
  job_not x n e h = rw (e, h, never_zero x.refusal)

module _ (r : Result GeomEncoder (Refused ℕ)) (points : ℕ) where
  pub finish_done : (s : GeomEncoder) (c : BpEncoder) → r ≡ Ok s → c ≡ state_to s → ◌≡◌ {A = BpFinished} (record { refusal = 0; points = points; state = c }) (flat_finished points (outcome_of points r))
  unfolding flat_finished
  finish_done s c e h = rw (e, h)

  pub finish_not : (x : Refused ℕ) (n : ℕ) (c : BpEncoder) → r ≡ Err x → n ≡ number_of x.refusal → c ≡ nothing → ◌≡◌ {A = BpFinished} (record { refusal = n; points = x.kept; state = c }) (flat_finished points (outcome_of points r))
  unfolding flat_finished
  finish_not x n c e h i = rw (e, h, i)

module _ (r : Result GeomEncoder Refusal) where
  pub start_done : (s : GeomEncoder) (c : BpEncoder) → r ≡ Ok s → c ≡ state_to s → ◌≡◌ {A = BpStarted} (record { refusal = 0; state = c }) (flat_started (said_started r))
  unfolding flat_started
  start_done s c e h = rw (e, h)

  pub start_not : (k : Refusal) (n : ℕ) (c : BpEncoder) → r ≡ Err k → n ≡ number_of k → c ≡ nothing → ◌≡◌ {A = BpStarted} (record { refusal = n; state = c }) (flat_started (said_started r))
  unfolding flat_started
  start_not k n c e h i = rw (e, h, i)

module _ (given : BpEncoder) (r : Result (GeomEncoder × Edges) (Refused GeomEncoder)) where
  pub drawn_done : (s : GeomEncoder) (e : Edges) (c : BpEncoder) (m n : ℕ) → r ≡ Ok (s, e) → c ≡ state_to s → m ≡ edge_number e.first → n ≡ edge_number e.second → ◌≡◌ {A = BpDrawn} (record { refusal = 0; words = s.used; state = c; edge0 = m; edge1 = n }) (flat_drawn given (edges_of r) (said_drawn r))
  unfolding flat_drawn
  drawn_done s e c m n f h i j = rw (f, h, i, j)

  pub drawn_not : (x : Refused GeomEncoder) (a : BpDrawn) → r ≡ Err x → a ≡ flagged given x.refusal → a ≡ flat_drawn given (edges_of r) (said_drawn r)
  unfolding flat_drawn
  drawn_not x a e h = rw (e, never_zero x.refusal) h
