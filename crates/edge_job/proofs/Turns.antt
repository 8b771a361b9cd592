-- The loops of the job with edges, over plain lists and numbers: what is left to do gives the rest of the answer.
use mathlib.Core.Path.{◌≡◌, refl, sym, ◌∙◌, ap}
use mathlib.Core.Bool.{true}
use mathlib.Core.List.{List, [], ◌∷◌}
use Prim.Native.Nat.{ℕ, ◌+◌, ◌*◌, ◌/◌, ◌^◌, ◌≤◌, ◌<◌}
use native.Mathlib.Omega.{arith}
use borrow.Author.Rules.{sfits_of}
use borrow.Author.Tests.{eqb-true}
use lib.IntN.{ℤ, pos}
use lib.Signed.{mag}
use lib.ListN.{length, drop, get_or, drop_of_length-le}
use mir.Syntax.{w32}
use mir.Val.{of_z, to_z}
use mir.Facts.{to_z-of_z}
use Rattle.promise.specs.Answers.{Gives}
use Rattle.encoder.specs.declared.GeomEncoder.{GeomEncoder}
use Rattle.refusal.specs.declared.Refused.{Refused}
use Rattle.std.specs.Prelude.{Result, Ok, Err}
use Rattle.encoder.specs.declared.Edges.{Edges}
use Rattle.encoder.specs.Answers.{said_drawn, turned}
use Rattle.encoder.specs.Adding.{point_at}
use Rattle.encoder.specs.Completing.{completed}
use Rattle.encoder.specs.Calls.{add, complete, part_calls}
use Rattle.encoder.specs.Stretches.{point_in}
use Rattle.encoder.specs.Jobs.{points_of, ends_at, part, job_calls, on}
use Rattle.encoder.proofs.Turns.{next, part_more, part_over, ends_more, ends_le}
use Rattle.edge_job.specs.EdgeJobs.{Lists, lists, edged, call, go, outcome_of}
use Rattle.edge_job.proofs.Calls.{go_on, go_off, off_lists, end_edges, then, go_then}

-- ---- the points of a part: `add_part`
pub record Adding (l : List ℤ) (from to : ℕ) (m₀ : Lists) (s : GeomEncoder) (m : Lists) (q : GeomEncoder) (i : ℕ) : Type 0 where
  pub upto : i ≤ to
  pub words_long : length m.words ≡ length m₀.words
  pub edges_long : length m.edges ≡ length m₀.edges
  pub rest : go (part_calls (part (points_of l) from to)) from s m₀ ≡ go (part_calls (part (points_of l) i to)) i q m

pub add_start : (l : List ℤ) (from to : ℕ) (m : Lists) (s : GeomEncoder) → from ≤ to → Adding l from to m s m s from
add_start l from to m s h = record { upto = h; words_long = refl; edges_long = refl; rest = refl }

module _ (l : List ℤ) (from to : ℕ) (m₀ : Lists) (s : GeomEncoder) (m : Lists) (q : GeomEncoder) (i : ℕ) (I : Adding l from to m₀ s m q i) where
  module _ (h : i < to) (k : to ≤ length l / 2) (r : Result (GeomEncoder × Edges) (Refused GeomEncoder)) (o : Lists)
      (x : mag (get_or l (2 * i) (pos 0)) < 2 ^ 31) (y : mag (get_or l (2 * i + 1) (pos 0)) < 2 ^ 31)
      (g : Gives (edged q (point_at (to_z w32 (of_z w32 (get_or l (2 * i) (pos 0)))) (to_z w32 (of_z w32 (get_or l (2 * i + 1) (pos 0))))) i m) (said_drawn r) o) where
    given : Gives (call (add (point_in l i)) i q m) (said_drawn r) o
    given = rw (to_z-of_z (sfits_of x), to_z-of_z (sfits_of y)) at g

    opened : go (part_calls (part (points_of l) from to)) from s m₀ ≡ go (add (point_in l i) ∷ part_calls (part (points_of l) (i + 1) to)) i q m
    opened = I.rest ∙ rw (part_more l i to h k)

    pub add_turn : (t : GeomEncoder) (n : Edges) → r ≡ Ok (t, n) → length o.words ≡ length m.words → length o.edges ≡ length m.edges → Adding l from to m₀ s o t (i + 1)
    add_turn t n e u v = record {
      upto = omega arith;
      words_long = u ∙ I.words_long;
      edges_long = v ∙ I.edges_long;
      rest = opened ∙ go_on (add (point_in l i)) (part_calls (part (points_of l) (i + 1) to)) i q t m o (rw e at given);
    }

    pub add_stop : (x : Refused GeomEncoder) → r ≡ Err x → Gives (go (part_calls (part (points_of l) from to)) from s m₀) (outcome_of to (Err (record { refusal = x.refusal; kept = i }))) o
    add_stop x e =
        let g' : Gives (call (add (point_in l i)) i q m) (turned x.refusal x.kept) o = rw e at given in
        let cs = part_calls (part (points_of l) (i + 1) to) in
        rw (opened ∙ go_off (add (point_in l i)) cs i q x.kept m o x.refusal g') (record { answer = refl; memory = off_lists (add (point_in l i)) cs i q x.kept m o x.refusal g' })

  module _ (h : to ≤ i) (r : Result (GeomEncoder × Edges) (Refused GeomEncoder)) (o : List ℕ) (g : Gives (completed q m.words) (said_drawn r) o) where
    over : go (part_calls (part (points_of l) from to)) from s m₀ ≡ go (complete ∷ []) to q m
    over = let e : i ≡ to = omega (arith, I.upto) in I.rest ∙ rw (part_over (points_of l) i to e, e)

    given_end : Gives (call complete to q m) (said_drawn r) (lists o m.edges)
    given_end = end_edges q m.words m.edges o (said_drawn r) g

    pub part_done : (t : GeomEncoder) (n : Edges) → r ≡ Ok (t, n) → Gives (go (part_calls (part (points_of l) from to)) from s m₀) (outcome_of to (Ok t)) (lists o m.edges)
    part_done t n e = rw (over ∙ go_on complete [] to q t m (lists o m.edges) (rw e at given_end)) (record { answer = refl; memory = refl })

    pub part_stop : (x : Refused GeomEncoder) → r ≡ Err x → Gives (go (part_calls (part (points_of l) from to)) from s m₀) (outcome_of to (Err (record { refusal = x.refusal; kept = to }))) (lists o m.edges)
    part_stop x e =
        let g' : Gives (call complete to q m) (turned x.refusal x.kept) (lists o m.edges) = rw e at given_end in
        rw (over ∙ go_off complete [] to q x.kept m (lists o m.edges) x.refusal g') (record { answer = refl; memory = off_lists complete [] to q x.kept m (lists o m.edges) x.refusal g' })

-- ---- the parts: `add_parts`
pub record Going (l : List ℤ) (ends : List ℕ) (m₀ : Lists) (s : GeomEncoder) (m : Lists) (q : GeomEncoder) (from j : ℕ) : Type 0 where
  pub at : j ≤ length ends
  pub words_long : length m.words ≡ length m₀.words
  pub edges_long : length m.edges ≡ length m₀.edges
  pub good : ends_at from (drop j ends) (length l / 2) ≡ true
  pub rest : go (job_calls (points_of l) 0 ends) 0 s m₀ ≡ go (job_calls (points_of l) from (drop j ends)) from q m

pub parts_start : (l : List ℤ) (ends : List ℕ) (m : Lists) (s : GeomEncoder) → ends_at 0 ends (length l / 2) ≡ true → Going l ends m s m s 0 0
parts_start l ends m s e = record { at = omega arith; words_long = refl; edges_long = refl; good = e; rest = refl }

module _ (l : List ℤ) (ends : List ℕ) (m₀ : Lists) (s : GeomEncoder) (m : Lists) (q : GeomEncoder) (from j : ℕ) (I : Going l ends m₀ s m q from j) where
  pub parts_all : length ends ≤ j → Gives (go (job_calls (points_of l) 0 ends) 0 s m₀) (outcome_of (length l / 2) (Ok q)) m
  parts_all h =
      let d = drop_of_length-le ends h in
      let e : from ≡ length l / 2 = eqb-true from (length l / 2) (rw d at I.good) in
      rw (I.rest, d) (record { answer = ap (λ (n : ℕ). on n q) (sym e); memory = refl })

  module _ (h : j < length ends) where
    here : drop j ends ≡ get_or ends j 0 ∷ drop (j + 1) ends
    here = next ends j (j + 1) 0 (omega arith) h

    told : (from ≤ get_or ends j 0) × (ends_at (get_or ends j 0) (drop (j + 1) ends) (length l / 2) ≡ true)
    told = ends_more from (get_or ends j 0) (drop (j + 1) ends) (length l / 2) (rw here at I.good)

    pub part_asked : (from ≤ get_or ends j 0) × (get_or ends j 0 ≤ length l / 2)
    part_asked = (told.0, ends_le (get_or ends j 0) (drop (j + 1) ends) (length l / 2) told.1)

    module _ (r : Result GeomEncoder (Refused ℕ)) (o : Lists) (g : Gives (go (part_calls (part (points_of l) from (get_or ends j 0))) from q m) (outcome_of (get_or ends j 0) r) o) where
      behind : go (job_calls (points_of l) 0 ends) 0 s m₀ ≡ then (outcome_of (get_or ends j 0) r) (job_calls (points_of l) (get_or ends j 0) (drop (j + 1) ends)) o
      behind = I.rest ∙ rw here (go_then (job_calls (points_of l) (get_or ends j 0) (drop (j + 1) ends)) (part_calls (part (points_of l) from (get_or ends j 0))) from q m ∙
          (λ k. then (sym g.answer k) (job_calls (points_of l) (get_or ends j 0) (drop (j + 1) ends)) (sym g.memory k)))

      pub parts_turn : (t : GeomEncoder) → r ≡ Ok t → length o.words ≡ length m.words → length o.edges ≡ length m.edges → Going l ends m₀ s o t (get_or ends j 0) (j + 1)
      parts_turn t e u v = record { at = omega arith; words_long = u ∙ I.words_long; edges_long = v ∙ I.edges_long; good = told.1; rest = rw e at behind }

      pub parts_stop : (x : Refused ℕ) → r ≡ Err x → Gives (go (job_calls (points_of l) 0 ends) 0 s m₀) (outcome_of (length l / 2) (Err x)) o
      parts_stop x e = rw (behind, e) (record { answer = refl; memory = refl })
