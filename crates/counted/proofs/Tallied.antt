-- The counts of a state are those of the calls that led to it.
--     gained_all               what a point's emissions add
--     tally_is                 the theorem, for every run of accepted calls from a fresh state
use Rattle.std.specs.Prelude.{Option, Some, None}
use mathlib.Core.Path.{◌≡◌, refl, sym, ◌∙◌, ap, subst}
use mathlib.Core.Bool.{Bool, true, false, cond}
use mathlib.Core.List.{List, [], ◌∷◌, ◌++◌}
use Prim.Native.Nat.{ℕ, ◌+◌}
use native.Mathlib.Omega.{arith}
use native.Mathlib.Decide.{ℕ_discrete}
use borrow.Author.Tests.{eq-eqb, ne_eqb, eqb-true, eqb-false}
use lib.Dec.{eqb}
use lib.ListN.{length}
use Rattle.promise.specs.Answers.{kept}
use Rattle.promise.specs.Laid.{lay}
use Rattle.clip.specs.declared.Pt.{Pt}
use Rattle.clip.specs.declared.BBox.{BBox}
use Rattle.encoder.specs.declared.GeomEncoder.{GeomEncoder}
use Rattle.encoder.specs.declared.tally.Tally.{Tally}
use Rattle.encoder.specs.States.{fresh}
use Rattle.encoder.specs.Answers.{done}
use Rattle.encoder.specs.Points.{clamped, is_last}
use Rattle.encoder.specs.Emitting.{emission, place_of}
use Rattle.encoder.specs.Adding.{cut_from, boundary, emissions, emitted, counted, ended, added}
use Rattle.encoder.specs.Completing.{closing, cleared, finished, completed}
use Rattle.encoder.specs.Calls.{Call, add, complete, After, none, next}
use Rattle.encoder.proofs.Accepted.{added_accepted, completed_accepted, Lost, emitted_lost, same_emission}
use Rattle.counted.specs.Losses.{taken_in, brought_by, boundary_in, Emitted, point, part_end, in_box, emitted_in, one, skipped_in, is_out, before_next, out_in, tally_of}
use Rattle.counted.proofs.Emissions.{nothing, ring_counted, ring_ended, Held, Gained, emission_gains}

-- ---- emissions one after the other: what they add, whatever is emitted behind them
pub record All (s : GeomEncoder) (last before inner : Option Pt) (qs : List Emitted) (t : GeomEncoder) : Type 0 where
  pub last' : Option Pt
  pub before' : Option Pt
  pub inner' : Option Pt
  pub held : Held t last' before' inner'
  pub skips : (es : List Emitted) → t.tally.skipped + skipped_in last' es ≡ s.tally.skipped + skipped_in last (qs ++ es)
  pub outs : s.kind ≡ 3 → (es : List Emitted) → t.tally.taken_out + out_in before' inner' es ≡ s.tally.taken_out + out_in before inner (qs ++ es)
  pub none : (s.kind ≡ 3 → ⊥) → t.tally.taken_out ≡ s.tally.taken_out
  pub kind : t.kind ≡ s.kind
  pub box : t.bbox ≡ s.bbox
  pub end : t.xy_end ≡ s.xy_end

gained_all : (s : GeomEncoder) (ps : List Pt) (out : List ℕ) (last before inner : Option Pt) → Held s last before inner → All s last before inner (in_box s.bbox ps) (emitted s ps out).answer
gained_all s [] out last before inner H = record { last' = last; before' = before; inner' = inner; held = H; skips = λ es. refl; outs = λ k es. refl; none = λ k. refl; kind = refl; box = refl; end = refl }
gained_all s (p ∷ ps) out last before inner H =
    let q = clamped s.bbox p in
    let e = emission s p in
    let G : Gained s q last before inner e.next = emission_gains s p last before inner H in
    let I = gained_all e.next ps (lay e.at e.run out) (Some q) (before_next before inner q) (Some q) G.held in
    let b : (es : List Emitted) → in_box e.next.bbox ps ++ es ≡ in_box s.bbox ps ++ es = λ es. ap (λ (x : BBox). in_box x ps ++ es) G.box in
    record {
      last' = I.last';
      before' = I.before';
      inner' = I.inner';
      held = I.held;
      skips = λ es.
          let h = I.skips es ∙ ap (λ (l : List Emitted). e.next.tally.skipped + skipped_in (Some q) l) (b es) in
          omega (arith, G.skips);
      outs = λ k es.
          let h = I.outs (G.kind ∙ k) es ∙ ap (λ (l : List Emitted). e.next.tally.taken_out + out_in (before_next before inner q) (Some q) l) (b es) in
          let g = G.outs k in
          omega arith;
      none = λ k. I.none (λ z. k (sym G.kind ∙ z)) ∙ G.none k;
      kind = I.kind ∙ G.kind;
      box = I.box ∙ G.box;
      end = I.end ∙ (same_emission s p).1;
    }

-- ---- a state in the midst of calls: the raw point before the next one in its part, and the points that an emission is held against
pub record Amid (kind : ℕ) (b : BBox) (s : GeomEncoder) (raw last before inner : Option Pt) : Type 0 where
  pub same_kind : s.kind ≡ kind
  pub same_box : s.bbox ≡ b
  pub same_end : (kind ≡ 1 → ⊥) → s.xy_end ≡ raw
  pub held : Held s last before inner

-- what further calls add to its counts
pub record Adds (kind : ℕ) (b : BBox) (s : GeomEncoder) (raw last before inner : Option Pt) (cs : List Call) (t : GeomEncoder) : Type 0 where
  pub taken : t.tally.taken ≡ s.tally.taken + taken_in cs
  pub bounds : t.tally.boundary ≡ s.tally.boundary + boundary_in kind b raw cs
  pub skips : t.tally.skipped ≡ s.tally.skipped + skipped_in last (emitted_in kind b raw cs)
  pub outs : kind ≡ 3 → t.tally.taken_out ≡ s.tally.taken_out + out_in before inner (emitted_in kind b raw cs)
  pub none : (kind ≡ 3 → ⊥) → t.tally.taken_out ≡ s.tally.taken_out

module _ (kind : ℕ) (b : BBox) where
  brought_is : (s : GeomEncoder) (raw last before inner : Option Pt) (p : Pt) → Amid kind b s raw last before inner → boundary s p ≡ brought_by kind b raw p
  unfolding boundary
  brought_is s raw last before inner p A = by (ℕ_discrete kind 1)
    where
      by : Dec (kind ≡ 1) → cond (eqb s.kind 1) [] (cut_from s.bbox s.xy_end p) ≡ cond (eqb kind 1) [] (cut_from b raw p)
      by (yes e) = rw (A.same_kind, eq-eqb kind 1 e)
      by (no e) = rw (A.same_kind, ne_eqb kind 1 e, A.same_box, A.same_end e)

  -- a point: the state behind it, and what it adds
  module _ (s : GeomEncoder) (raw last before inner : Option Pt) (p : Pt) (out : List ℕ) (A : Amid kind b s raw last before inner) where
    abbrev c : GeomEncoder
    c = counted 1 (length (boundary s p)) s

    abbrev t : GeomEncoder
    t = (emitted c (emissions s p) out).answer

    pub gains : All c last before inner (in_box s.bbox (emissions s p)) t
    gains = gained_all c (emissions s p) out last before inner (record { point = A.held.point; ring = λ k. ring_counted 1 (length (boundary s p)) (A.held.ring k) })

    lost : Lost (length (emissions s p)) c t
    lost = emitted_lost c (emissions s p) out

    -- what is emitted, by the calls alone
    list_is : (es : List Emitted) → in_box s.bbox (emissions s p) ++ es ≡ in_box b (brought_by kind b raw p ++ (p ∷ [])) ++ es
    list_is es = λ i. in_box (A.same_box i) (brought_is s raw last before inner p A i ++ (p ∷ [])) ++ es

    pub point_amid : Amid kind b (ended t p) (Some p) gains.last' gains.before' gains.inner'
    point_amid = record {
      same_kind = gains.kind ∙ A.same_kind;
      same_box = gains.box ∙ A.same_box;
      same_end = λ k. rw (ne_eqb t.kind 1 (λ z. k (sym A.same_kind ∙ sym gains.kind ∙ z)));
      held = record { point = gains.held.point; ring = λ k. ring_ended p (gains.held.ring k) };
    }

    pub point_adds : (cs : List Call) (u : GeomEncoder) → Adds kind b (ended t p) (Some p) gains.last' gains.before' gains.inner' cs u → Adds kind b s raw last before inner (add p ∷ cs) u
    point_adds cs u I =
        let es : List Emitted = emitted_in kind b (Some p) cs in
        let n : length (boundary s p) ≡ length (brought_by kind b raw p) = ap length (brought_is s raw last before inner p A) in
        record {
          taken = omega (arith, I.taken, lost.taken);
          bounds = omega (arith, I.bounds, lost.bounds);
          skips = I.skips ∙ gains.skips es ∙ ap (λ (l : List Emitted). s.tally.skipped + skipped_in last l) (list_is es);
          outs = λ k. I.outs k ∙ gains.outs (A.same_kind ∙ k) es ∙ ap (λ (l : List Emitted). s.tally.taken_out + out_in before inner l) (list_is es);
          none = λ k. I.none k ∙ gains.none (λ z. k (sym A.same_kind ∙ z));
        }

  -- completing: nothing is counted, and a part ends
  module _ (s : GeomEncoder) (raw last before inner : Option Pt) (A : Amid kind b s raw last before inner) where
    same_tally : (finished s).tally ≡ s.tally
    unfolding finished
    same_tally = by (eqb s.kind 1)
      where
        by : (t : Bool) → (cond t s (cleared s (place_of (closing s) s) (s.used + length (closing s)))).tally ≡ s.tally
        by true = refl
        by false = refl

    pub end_amid : Amid kind b (finished s) None last None None
    unfolding finished
    end_amid = by (eqb s.kind 1) refl
      where
        by : (t : Bool) → eqb s.kind 1 ≡ t → Amid kind b (cond t s (cleared s (place_of (closing s) s) (s.used + length (closing s)))) None last None None
        by true e =
            let one : s.kind ≡ 1 = eqb-true s.kind 1 e in
            record { same_kind = A.same_kind; same_box = A.same_box; same_end = λ k. absurd (k (sym A.same_kind ∙ one)); held = record { point = A.held.point; ring = λ k. absurd (omega arith) } }
        by false e = record { same_kind = A.same_kind; same_box = A.same_box; same_end = λ k. refl; held = record { point = A.held.point; ring = λ k. nothing refl refl refl } }

    pub end_adds : (cs : List Call) (u : GeomEncoder) → Adds kind b (finished s) None last None None cs u → Adds kind b s raw last before inner (complete ∷ cs) u
    end_adds cs u I = record {
      taken = I.taken ∙ ap (λ (t : Tally). t.taken + taken_in cs) same_tally;
      bounds = I.bounds ∙ ap (λ (t : Tally). t.boundary + boundary_in kind b None cs) same_tally;
      skips = I.skips ∙ ap (λ (t : Tally). t.skipped + skipped_in last (emitted_in kind b None cs)) same_tally;
      outs = λ k. I.outs k ∙ ap (λ (t : Tally). t.taken_out + out_in None None (emitted_in kind b None cs)) same_tally;
      none = λ k. I.none k ∙ ap (λ (t : Tally). t.taken_out) same_tally;
    }

  -- any accepted calls
  run_adds : {cs : List Call} {s u : GeomEncoder} {out l : List ℕ} → After cs s out u l → (raw last before inner : Option Pt) → Amid kind b s raw last before inner → Adds kind b s raw last before inner cs u
  run_adds none raw last before inner A = record { taken = omega arith; bounds = omega arith; skips = omega arith; outs = λ k. omega arith; none = λ k. refl }
  run_adds {s = s} {u} {out} (next {c = add p} {cs} {t = m} {l = o} e r) raw last before inner A =
      let f = (added_accepted s p out m o e).fits.state in
      let M = point_amid s raw last before inner p out A in
      let g = gains s raw last before inner p out A in
      point_adds s raw last before inner p out A cs u
      (subst (λ (x : GeomEncoder). Adds kind b x (Some p) g.last' g.before' g.inner' cs u) f
      (run_adds r (Some p) g.last' g.before' g.inner' (subst (λ (x : GeomEncoder). Amid kind b x (Some p) g.last' g.before' g.inner') (sym f) M)))
  run_adds {s = s} {u} {out} (next {c = complete} {cs} {t = m} {l = o} e r) raw last before inner A =
      let f = (completed_accepted s out m o e).fits.state in
      end_adds s raw last before inner A cs u
      (subst (λ (x : GeomEncoder). Adds kind b x None last None None cs u) f
      (run_adds r None last None None (subst (λ (x : GeomEncoder). Amid kind b x None last None None) (sym f) (end_amid s raw last before inner A))))

-- ---- the theorem: after any accepted calls the counts of the state are those of the calls
pub tally_is : (kind : ℕ) (b : BBox) (cs : List Call) (t : GeomEncoder) (out l : List ℕ) → After cs (fresh kind b) out t l → t.tally ≡ tally_of kind b cs
unfolding tally_of
tally_is kind b cs t out l r =
    let es : List Emitted = emitted_in kind b None cs in
    let A : Amid kind b (fresh kind b) None None None None = record { same_kind = refl; same_box = refl; same_end = λ k. refl; held = record { point = refl; ring = λ k. nothing refl refl refl } } in
    let I = run_adds kind b r None None None None A in
    let o : t.tally.taken_out ≡ cond (eqb kind 3) (out_in None None es) 0 = by I (ℕ_discrete kind 3) in
    let a : t.tally.taken ≡ taken_in cs = omega (arith, I.taken) in
    let c : t.tally.boundary ≡ boundary_in kind b None cs = omega (arith, I.bounds) in
    let d : t.tally.skipped ≡ skipped_in None es = omega (arith, I.skips) in
    λ i. record { taken = a i; boundary = c i; skipped = d i; taken_out = o i }
  where
    by : Adds kind b (fresh kind b) None None None None cs t → Dec (kind ≡ 3) → t.tally.taken_out ≡ cond (eqb kind 3) (out_in None None (emitted_in kind b None cs)) 0
    by I (yes e) = rw (eq-eqb kind 3 e) (omega (arith, I.outs e))
    by I (no e) = rw (ne_eqb kind 3 e) (I.none e)
