-- What both passes keep: the vertices so far and what is ahead of the pen, which stands at a command word, are the whole reading.
use Prim.Native.Nat.{ℕ, ◌+◌, ◌*◌, ◌-◌, ◌^◌, ◌<◌, ◌≤◌}
use mathlib.Core.Path.{◌≡◌, refl, sym, ◌∙◌, ap}
use mathlib.Core.List.{List, [], ◌∷◌, ◌++◌, append-nil}
use native.Mathlib.Omega.{arith}
use lib.IntN.{ℤ, pos}
use lib.ListN.{length, get_or, drop, take, length-append, length-drop, drop_of_length-le}
use lib.Seq.{length-take-le}
use lib.Signed.{mag}
use mir.Syntax.{w32}
use mir.Val.{of_z, to_z}
use Rattle.promise.specs.Laid.{lay}
use Rattle.promise.proofs.Laying.{lay_nothing, lay_next, length_lay}
use Rattle.refusal.specs.declared.Fault.{Fault}
use Rattle.refusal.specs.declared.Refusal.TheVariants.{Step}
use Rattle.refusal.specs.Said.{plain}
use Rattle.whole.proofs.Machine.{i32_back}
use Rattle.decoder.specs.declared.pen.Pen.{Pen}
use Rattle.decoder.specs.declared.command.Asked.{Asked}
use Rattle.decoder.specs.declared.command.Asked.TheVariants.{Draw, Close}
use Rattle.decoder.specs.Vertices.{Cursor, Vertex, Trace, traced, faulty, vertex, onto, and_then, numbers}
use Rattle.decoder.specs.ReadingWords.{trace_from, trace}
use Rattle.decoder.specs.Stepping.{pen_at, cursor_of, outset, Stands, pairs_of, ahead}
use Rattle.decoder.specs.Passing.{asked_of, ran_of, size_of, HasRoom, Filled, filled}
use Rattle.decoder.proofs.Traces.{onto_onto, numbers_length, numbers_append}
use Rattle.decoder.proofs.Commands.{nothing_read}
use Rattle.decoder.proofs.Readings.{drawn_count, drawn_fault}
use Rattle.decoder.proofs.Stepping.{ahead_command, command_bad, command_close, command_draw, draw_stands, draw_known, Walked, walked_start}
use Rattle.std.specs.Prelude.{Option, Some, None, Result, Ok, Err}

-- ---- all pairs of a command, by the pen behind them
record Passed (first last : Pen) (ws : List ℕ) : Type 0 where
  vs : List Vertex
  is : pairs_of first ws ≡ traced vs (cursor_of last)
  count : length vs ≡ first.left
  place : last.at ≡ first.at + 2 * first.left
  none : last.left ≡ 0

module _ (first last : Pen) (ws : List ℕ) (S : Stands first ws) where
  passed_by : (t : Trace) → pairs_of first ws ≡ t → Some last ≡ ran_of first t → Passed first last ws
  passed_by (traced vs c) e o =
      let l : last ≡ pen_at (first.at + 2 * first.left) 0 first.id c = cc in
      let k : 2 * first.left ≤ length (drop first.at ws) = rw length-drop (omega (arith, S.there)) in
      rw l
      (record {
        vs = vs;
        is = e;
        count = drawn_count first.id first.left (cursor_of first) (take (2 * first.left) (drop first.at ws)) vs c (length-take-le (2 * first.left) (drop first.at ws) k) e;
        place = refl;
        none = refl;
      })
  passed_by (faulty f) e o = let z : ◌≡◌ {A = ℕ} 0 1 = cc in absurd (omega arith)

  passed : Some last ≡ ran_of first (pairs_of first ws) → Passed first last ws
  passed o = passed_by (pairs_of first ws) refl o

-- ---- a pen at a command word, and the vertices before it
pub record Stood (ws : List ℕ) (done : List Vertex) (pen : Pen) : Type 0 where
  pub walked : Walked ws done pen
  pub none : pen.left ≡ 0

stood_start : (ws : List ℕ) → Stood ws [] outset
stood_start ws = record { walked = walked_start ws; none = refl }

module _ (ws : List ℕ) (done : List Vertex) (pen : Pen) (W : Stood ws done pen) where
  whole : trace ws ≡ onto done (trace_from pen.at (cursor_of pen) (drop pen.at ws))
  whole = W.walked.all ∙ ap (onto done) (ahead_command pen ws W.none)

  stood_end : length ws ≤ pen.at → trace ws ≡ traced done (cursor_of pen)
  stood_end h =
      whole ∙ ap (λ (l : List ℕ). onto done (trace_from pen.at (cursor_of pen) l)) (drop_of_length-le ws h)
      ∙ ap (onto done) (nothing_read pen.at (cursor_of pen)) ∙ ap (λ (l : List Vertex). traced l (cursor_of pen)) (append-nil done)

  module _ (h : pen.at < length ws) (r : Result Asked Fault) (e : r ≡ asked_of pen.at (get_or ws pen.at 0) (drop (pen.at + 1) ws)) where
    stood_bad : (f : Fault) → r ≡ Err f → trace ws ≡ faulty f
    stood_bad f g = whole ∙ ap (onto done) (command_bad pen.at (cursor_of pen) ws h f (sym e ∙ g))

    stood_close : r ≡ Ok Close → Stood ws (done ++ (vertex 7 (cursor_of pen) ∷ [])) (pen_at (pen.at + 1) 0 7 (cursor_of pen))
    stood_close g =
        record {
          walked = record {
            stands = record { there = omega arith };
            few = simp length-append (omega (arith, W.walked.few));
            all = whole ∙ ap (onto done) (command_close pen.at (cursor_of pen) ws h (sym e ∙ g))
                ∙ onto_onto done (vertex 7 (cursor_of pen) ∷ []) (ahead (pen_at (pen.at + 1) 0 7 (cursor_of pen)) ws);
          };
          none = refl;
        }

    module _ (id pairs : ℕ) (g : r ≡ Ok (Draw id pairs)) where
      abbrev first : Pen
      first = pen_at (pen.at + 1) pairs id (cursor_of pen)

      first_stands : Stands first ws
      first_stands = draw_stands pen.at (cursor_of pen) ws h id pairs (sym e ∙ g)

      first_known : id < 8
      first_known = draw_known pen.at (cursor_of pen) ws h id pairs (sym e ∙ g)

      onward : trace ws ≡ onto done (ahead first ws)
      onward = whole ∙ ap (onto done) (command_draw pen.at (cursor_of pen) ws h id pairs (sym e ∙ g))

      stood_out : None ≡ ran_of first (pairs_of first ws) → trace ws ≡ faulty (plain Step)
      stood_out o = by (pairs_of first ws) refl o
        where
          by : (t : Trace) → pairs_of first ws ≡ t → None ≡ ran_of first t → trace ws ≡ faulty (plain Step)
          by (traced vs c) k o = let z : ◌≡◌ {A = ℕ} 0 1 = cc in absurd (omega arith)
          by (faulty f) k o =
              let p : f ≡ plain Step = drawn_fault id (cursor_of pen) _ f k in
              onward ∙ ap (λ (t : Trace). onto done (and_then t (λ c. trace_from (first.at + 2 * first.left) c (drop (first.at + 2 * first.left) ws)))) (k ∙ ap faulty p)

      module _ (last : Pen) (P : Passed first last ws) where
        stood_run : Stood ws (done ++ P.vs) last
        stood_run =
            record {
              walked = record {
                stands = record { there = omega (arith, P.place, P.none, first_stands.there) };
                few = simp length-append (omega (arith, W.walked.few, P.count, P.place));
                all = onward
                    ∙ ap (λ (t : Trace). onto done (and_then t (λ c. trace_from (first.at + 2 * first.left) c (drop (first.at + 2 * first.left) ws)))) P.is
                    ∙ ap (λ (k : ℕ). onto done (onto P.vs (trace_from k (cursor_of last) (drop k ws)))) (sym P.place)
                    ∙ ap (λ (t : Trace). onto done (onto P.vs t)) (sym (ahead_command last ws P.none))
                    ∙ onto_onto done P.vs (ahead last ws);
              };
              none = P.none;
            }

-- ---- the pass that counts
pub record Counted (ws : List ℕ) (pen : Pen) (n : ℕ) : Type 0 where
  pub done : List Vertex
  pub count : n ≡ length done
  pub stood : Stood ws done pen

pub count_start : (ws : List ℕ) (pen : Pen) → pen ≡ outset → Counted ws pen 0
count_start ws pen e = rw e (record { done = []; count = refl; stood = stood_start ws })

module _ (ws : List ℕ) (pen : Pen) (n : ℕ) (C : Counted ws pen n) where
  pub count_end : length ws ≤ pen.at → Ok n ≡ size_of (trace ws)
  count_end h = rw (stood_end ws C.done pen C.stood h) (ap Ok C.count)

  pub count_few : n ≤ pen.at
  count_few = omega (arith, C.count, C.stood.walked.few)

  module _ (h : pen.at < length ws) (r : Result Asked Fault) (e : r ≡ asked_of pen.at (get_or ws pen.at 0) (drop (pen.at + 1) ws)) where
    pub count_bad : (f : Fault) → r ≡ Err f → Err f ≡ size_of (trace ws)
    count_bad f g = rw (stood_bad ws C.done pen C.stood h r e f g)

    module _ (g : r ≡ Ok Close) (next : Pen) (l : next ≡ pen_at (pen.at + 1) 0 7 (cursor_of pen)) where
      pub count_close : Counted ws next (n + 1)
      count_close =
          rw l
          (record { done = C.done ++ (vertex 7 (cursor_of pen) ∷ []); count = simp length-append (omega (arith, C.count)); stood = stood_close ws C.done pen C.stood h r e g })

      pub close_nearer : length ws - next.at < length ws - pen.at
      close_nearer = rw l (omega arith)

    module _ (id pairs : ℕ) (g : r ≡ Ok (Draw id pairs)) (begun : Pen) (l : begun ≡ pen_at (pen.at + 1) pairs id (cursor_of pen)) where
      pub count_stands : Stands begun ws
      count_stands = rw l (first_stands ws C.done pen C.stood h r e id pairs g)

      pub count_small : n + pairs ≤ length ws
      count_small = omega (arith, count_few, (first_stands ws C.done pen C.stood h r e id pairs g).there)

      module _ (q : Option Pen) (o : q ≡ ran_of begun (pairs_of begun ws)) where
        pub count_out : q ≡ None → Err (plain Step) ≡ size_of (trace ws)
        count_out k = rw (stood_out ws C.done pen C.stood h r e id pairs g (rw l at (sym k ∙ o)))

        module _ (last : Pen) (k : q ≡ Some last) where
          run : Passed (pen_at (pen.at + 1) pairs id (cursor_of pen)) last ws
          run = passed _ last ws (first_stands ws C.done pen C.stood h r e id pairs g) (rw l at (sym k ∙ o))

          pub count_draw : Counted ws last (n + pairs)
          count_draw =
              record {
                done = C.done ++ run.vs;
                count = simp length-append (omega (arith, C.count, run.count));
                stood = stood_run ws C.done pen C.stood h r e id pairs g last run;
              }

          pub draw_nearer : length ws - last.at < length ws - pen.at
          draw_nearer = omega (arith, run.place)

-- ---- the pass that writes
pub record Laid (ws : List ℕ) (out₀ out : List ℤ) (pen : Pen) (n : ℕ) : Type 0 where
  pub done : List Vertex
  pub count : n ≡ 3 * length done
  pub long : length out ≡ length out₀
  pub memory : out ≡ lay 0 (numbers done) out₀
  pub stood : Stood ws done pen

pub laid_start : (ws : List ℕ) (out : List ℤ) (pen : Pen) → pen ≡ outset → Laid ws out out pen 0
laid_start ws out pen e = rw e (record { done = []; count = refl; long = refl; memory = sym (lay_nothing 0 out); stood = stood_start ws })

room_for : (vs : List Vertex) (t : Trace) (room : ℕ) → HasRoom (onto vs t) 0 room → 3 * length vs ≤ room
room_for vs (traced us c) room f = omega (arith, simp length-append at f)
room_for vs (faulty r) room f = absurd f

-- and for those of the next command
room_by : (done : List Vertex) (t : Trace) (go : Cursor → Trace) (n room : ℕ) → n ≡ 3 * length done → HasRoom (onto done (and_then t go)) 0 room → HasRoom t n room
room_by done (traced us c) go n room e f = by (go c) f
  where
    by : (x : Trace) → HasRoom (onto done (onto us x)) 0 room → n + 3 * length us ≤ room
    by (traced vs d) f = omega (arith, simp length-append at f)
    by (faulty k) f = absurd f
room_by done (faulty k) go n room e f = absurd f

-- numbers behind those that are laid
more_laid : (done vs : List Vertex) (n : ℕ) (out₀ out out' : List ℤ) → n ≡ 3 * length done → out ≡ lay 0 (numbers done) out₀ → 3 * length (done ++ vs) ≤ length out₀ →
    out' ≡ lay n (numbers vs) out → out' ≡ lay 0 (numbers (done ++ vs)) out₀
more_laid done vs n out₀ out out' c m r s =
    let k : 0 + length (numbers done) ≡ n = omega (arith, numbers_length done) in
    let h : 0 + length (numbers done) ≤ length out₀ = omega (arith, numbers_length done, simp length-append at r) in
    s ∙ rw (m, ← k, numbers_append) (lay_next 0 (numbers done) (numbers vs) out₀ h)

long_as : (vs : List Vertex) (n : ℕ) (out₀ out out' : List ℤ) → length out ≡ length out₀ → n + 3 * length vs ≤ length out₀ → out' ≡ lay n (numbers vs) out → length out' ≡ length out₀
long_as vs n out₀ out out' l r s = ap length s ∙ length_lay n (numbers vs) out (omega (arith, numbers_length vs)) ∙ l

module _ (ws : List ℕ) (out₀ out : List ℤ) (pen : Pen) (n : ℕ) (L : Laid ws out₀ out pen n) where
  pub laid_end : length ws ≤ pen.at → out ≡ filled (trace ws) 0 out₀
  laid_end h = rw (stood_end ws L.done pen L.stood h) L.memory

  module _ (f : HasRoom (trace ws) 0 (length out₀)) (h : pen.at < length ws) (r : Result Asked Fault)
      (e : r ≡ asked_of pen.at (get_or ws pen.at 0) (drop (pen.at + 1) ws)) where
    -- words that are read whole are not refused
    pub laid_never : (k : Fault) → r ≡ Err k → ⊥
    laid_never k g = rw (stood_bad ws L.done pen L.stood h r e k g) at f

    module _ (g : r ≡ Ok Close) (next : Pen) (l : next ≡ pen_at (pen.at + 1) 0 7 (cursor_of pen)) where
      closed : Stood ws (L.done ++ (vertex 7 (cursor_of pen) ∷ [])) (pen_at (pen.at + 1) 0 7 (cursor_of pen))
      closed = stood_close ws L.done pen L.stood h r e g

      fits : 3 * length (L.done ++ (vertex 7 (cursor_of pen) ∷ [])) ≤ length out₀
      fits = room_for _ (ahead (pen_at (pen.at + 1) 0 7 (cursor_of pen)) ws) (length out₀) (rw closed.walked.all at f)

      pub laid_past : length ws - next.at < length ws - pen.at
      laid_past = rw l (omega arith)

      pub laid_known : next.id < 8
      laid_known = rw l (omega arith)

      pub laid_room : n + 3 ≤ length out
      laid_room = omega (arith, L.count, L.long, simp length-append at fits)

      pub laid_close : mag next.x < 2 ^ 31 → mag next.y < 2 ^ 31 → (out' : List ℤ) →
          out' ≡ lay n (pos next.id ∷ to_z w32 (of_z w32 next.x) ∷ to_z w32 (of_z w32 next.y) ∷ []) out → Laid ws out₀ out' next (n + 3)
      laid_close fx fy out' stored =
          let s : out' ≡ lay n (numbers (vertex 7 (cursor_of pen) ∷ [])) out = rw (i32_back next.x fx, i32_back next.y fy, l) at stored in
          rw l
          (record {
            done = L.done ++ (vertex 7 (cursor_of pen) ∷ []);
            count = simp length-append (omega (arith, L.count));
            long = long_as (vertex 7 (cursor_of pen) ∷ []) n out₀ out out' L.long (omega (arith, laid_room, L.long)) s;
            memory = more_laid L.done (vertex 7 (cursor_of pen) ∷ []) n out₀ out out' L.count L.memory fits s;
            stood = closed;
          })

    module _ (id pairs : ℕ) (g : r ≡ Ok (Draw id pairs)) (begun : Pen) (l : begun ≡ pen_at (pen.at + 1) pairs id (cursor_of pen)) where
      pub laid_id : begun.id < 8
      laid_id = rw l (first_known ws L.done pen L.stood h r e id pairs g)

      pub laid_stands : Stands begun ws
      laid_stands = rw l (first_stands ws L.done pen L.stood h r e id pairs g)

      pub laid_fits : HasRoom (pairs_of begun ws) n (length out)
      laid_fits = rw l (room_by L.done (pairs_of (first ws L.done pen L.stood h r e id pairs g) ws) _ n (length out) (omega (arith, L.count)) (rw (← L.long, onward ws L.done pen L.stood h r e id pairs g) at f))

      module _ (last : Pen) (out' : List ℤ) (F : Filled begun (pairs_of begun ws) n out last out') where
        run_of : Passed (pen_at (pen.at + 1) pairs id (cursor_of pen)) last ws
        run_of = passed _ last ws (first_stands ws L.done pen L.stood h r e id pairs g) (rw l at F.pen_after)

        pub laid_draw : Laid ws out₀ out' last (n + 3 * pairs)
        laid_draw =
            let s : out' ≡ lay n (numbers run_of.vs) out = rw (l, run_of.is) at F.memory in
            let w : Stood ws (L.done ++ run_of.vs) last = stood_run ws L.done pen L.stood h r e id pairs g last run_of in
            let m : 3 * length (L.done ++ run_of.vs) ≤ length out₀ = room_for _ (ahead last ws) (length out₀) (rw w.walked.all at f) in
            record {
              done = L.done ++ run_of.vs;
              count = simp length-append (omega (arith, L.count, run_of.count));
              long = long_as run_of.vs n out₀ out out' L.long (omega (arith, L.count, simp length-append at m)) s;
              memory = more_laid L.done run_of.vs n out₀ out out' L.count L.memory m s;
              stood = w;
            }

        pub laid_sum : n + 3 * pairs ≤ length out₀
        laid_sum = let m : HasRoom (pairs_of (pen_at (pen.at + 1) pairs id (cursor_of pen)) ws) n (length out) = rw l at laid_fits in omega (arith, L.long, run_of.count, rw run_of.is at m)

        pub laid_nearer : length ws - last.at < length ws - pen.at
        laid_nearer = omega (arith, run_of.place)
