-- Through the pairs of one command, with a pen: what `over` and `fill` keep, and what they answer.
use Prim.Native.Nat.{ℕ, zero, suc, ◌+◌, ◌-◌, ◌*◌, ◌^◌, ◌<◌, ◌≤◌}
use mathlib.Core.Path.{◌≡◌, refl, sym, ◌∙◌, ap}
use mathlib.Core.Bool.{Bool, true, false, cond}
use mathlib.Core.List.{List, [], ◌∷◌, ◌++◌, append-nil}
use native.Mathlib.Omega.{arith}
use lib.IntN.{ℤ, pos, ◌+ℤ◌}
use lib.ListN.{length, get_or, length-append}
use lib.Signed.{mag}
use mir.Syntax.{w32}
use mir.Val.{of_z, to_z, SFits}
use Rattle.promise.specs.Laid.{lay}
use Rattle.promise.proofs.Laying.{lay_nothing, lay_next, length_lay}
use Rattle.refusal.specs.declared.Refusal.TheVariants.{Step}
use Rattle.refusal.specs.Said.{plain}
use Rattle.whole.proofs.Machine.{back, i32_back}
use Rattle.words.specs.Params.{unparam}
use Rattle.decoder.specs.declared.pen.Pen.{Pen}
use Rattle.decoder.specs.Vertices.{Cursor, Vertex, Trace, traced, faulty, vertex, onto, numbers}
use Rattle.decoder.specs.ReadingWords.{within}
use Rattle.decoder.specs.Stepping.{pen_at, cursor_of, Stands, pairs_of}
use Rattle.decoder.specs.Passing.{ran_of, led_to, behind, Leads, HasRoom, Filled}
use Rattle.decoder.proofs.Traces.{onto_nil, onto_onto, numbers_length, numbers_append}
use Rattle.decoder.proofs.Steps.{within_fits}
use Rattle.decoder.proofs.Pairs.{pairs_none, behind_stands, behind_same, pairs_one}
use Rattle.std.specs.Prelude.{Some, None}

-- each pair leaves one less
pub one_less : (pen : Pen) → (pen.left ≡ 0 → ⊥) → (next : Pen) (c : Cursor) → next ≡ pen_at (pen.at + 2) (pen.left - 1) pen.id c → next.left < pen.left
one_less pen n next c e = rw e (by pen.left n)
  where
    by : (k : ℕ) → (k ≡ 0 → ⊥) → k - 1 < k
    by zero n = absurd (n refl)
    by (suc k) n = omega arith

-- ---- over
pub record Running (start : Pen) (ws : List ℕ) (pen : Pen) : Type 0 where
  pub stands : Stands pen ws
  pub same : ran_of start (pairs_of start ws) ≡ ran_of pen (pairs_of pen ws)

pub run_start : (start : Pen) (ws : List ℕ) → Stands start ws → Running start ws start
run_start start ws S = record { stands = S; same = refl }

pub run_end : (start : Pen) (ws : List ℕ) (pen : Pen) → Running start ws pen → pen.left ≡ 0 → Some pen ≡ ran_of start (pairs_of start ws)
run_end start ws pen R z =
    let e : pen.at + 2 * pen.left ≡ pen.at = omega arith in
    rw (R.same, pairs_none pen ws z, e, ← z)

ran_onto : (pen next : Pen) (vs : List Vertex) (t : Trace) → pen.at + 2 * pen.left ≡ next.at + 2 * next.left → pen.id ≡ next.id → ran_of pen (onto vs t) ≡ ran_of next t
ran_onto pen next vs (traced us c) e i = rw (e, i)
ran_onto pen next vs (faulty f) e i = refl

module _ (start : Pen) (ws : List ℕ) (pen : Pen) (R : Running start ws pen) (n : pen.left ≡ 0 → ⊥) where
  tested : ran_of start (pairs_of start ws)
      ≡ ran_of pen (cond (within (led_to pen ws)) (onto (vertex pen.id (led_to pen ws) ∷ []) (pairs_of (behind pen ws) ws)) (faulty (plain Step)))
  tested = R.same ∙ ap (ran_of pen) (pairs_one pen ws n R.stands)

  pub run_out : within (led_to pen ws) ≡ false → None ≡ ran_of start (pairs_of start ws)
  run_out h = sym (rw h at tested)

  pub run_turn : within (led_to pen ws) ≡ true → (next : Pen) → next ≡ behind pen ws → Running start ws next
  run_turn h next l =
      rw l
      (record {
        stands = behind_stands pen ws n R.stands;
        same = rw h at tested ∙ ran_onto pen (behind pen ws) (vertex pen.id (led_to pen ws) ∷ []) (pairs_of (behind pen ws) ws) (behind_same pen ws n R.stands) refl;
      })

-- ---- follow
module _ (pen : Pen) (ws : List ℕ) (P : Leads pen ws) where
  module _ (fx : mag pen.x < 2 ^ 31) (dx : ℤ) (mx : mag dx < 2 ^ 31) (ex : dx ≡ unparam (get_or ws pen.at 0)) where
    x_fits : SFits w32 (pen.x +ℤ dx)
    x_fits = let (f, g) = within_fits (led_to pen ws) P.inside in rw ex f

    pub follow_x : SFits w32 (to_z w32 (of_z w32 pen.x) +ℤ to_z w32 (of_z w32 dx))
    follow_x = rw (i32_back pen.x fx, i32_back dx mx) x_fits

    module _ (fy : mag pen.y < 2 ^ 31) (dy : ℤ) (my : mag dy < 2 ^ 31) (ey : dy ≡ unparam (get_or ws (pen.at + 1) 0)) where
      y_fits : SFits w32 (pen.y +ℤ dy)
      y_fits = let (f, g) = within_fits (led_to pen ws) P.inside in rw ey g

      pub follow_y : SFits w32 (to_z w32 (of_z w32 pen.y) +ℤ to_z w32 (of_z w32 dy))
      follow_y = rw (i32_back pen.y fy, i32_back dy my) y_fits

      pub follow_done : (next : Pen) →
          next ≡ pen_at (pen.at + 2) (pen.left - 1) pen.id
          (record {
            x = to_z w32 (of_z w32 (to_z w32 (of_z w32 pen.x) +ℤ to_z w32 (of_z w32 dx)));
            y = to_z w32 (of_z w32 (to_z w32 (of_z w32 pen.y) +ℤ to_z w32 (of_z w32 dy)));
          }) →
          next ≡ behind pen ws
      follow_done next l = rw (i32_back pen.x fx, i32_back dx mx, i32_back pen.y fy, i32_back dy my, back x_fits, back y_fits, ex, ey) at l

-- ---- fill
pub record Filling (start : Pen) (ws : List ℕ) (front : ℕ) (out₀ out : List ℤ) (pen : Pen) (n : ℕ) : Type 0 where
  pub done : List Vertex
  pub stands : Stands pen ws
  pub same_id : pen.id ≡ start.id
  pub ends : start.at + 2 * start.left ≡ pen.at + 2 * pen.left
  pub all : pairs_of start ws ≡ onto done (pairs_of pen ws)
  pub count : n ≡ front + 3 * length done
  pub room : front + 3 * length done ≤ length out₀
  pub long : length out ≡ length out₀
  pub memory : out ≡ lay front (numbers done) out₀

room_first : (t : Trace) (at room : ℕ) → HasRoom t at room → at ≤ room
room_first (traced vs c) at room h = omega arith
room_first (faulty f) at room h = absurd h

pub fill_start : (start : Pen) (ws : List ℕ) (front : ℕ) (out : List ℤ) → Stands start ws → HasRoom (pairs_of start ws) front (length out) → Filling start ws front out out start front
fill_start start ws front out S h =
    record {
      done = [];
      stands = S;
      same_id = refl;
      ends = refl;
      all = sym (onto_nil (pairs_of start ws));
      count = omega arith;
      room = omega (arith, room_first (pairs_of start ws) front (length out) h);
      long = refl;
      memory = sym (lay_nothing front out);
    }

pub fill_end : (start : Pen) (ws : List ℕ) (front : ℕ) (out₀ out : List ℤ) (pen : Pen) (n : ℕ) → Filling start ws front out₀ out pen n → pen.left ≡ 0 →
    Filled start (pairs_of start ws) front out₀ pen out
fill_end start ws front out₀ out pen n F z =
    let e : pairs_of start ws ≡ traced F.done (cursor_of pen) = F.all ∙ ap (onto F.done) (pairs_none pen ws z) ∙ ap (λ (l : List Vertex). traced l (cursor_of pen)) (append-nil F.done) in
    let k : start.at + 2 * start.left ≡ pen.at = omega (arith, F.ends) in
    record { pen_after = rw (e, k, ← F.same_id, ← z); memory = rw e F.memory }

-- words that are read whole lead nowhere beyond, and have room for one vertex more
led_by : (done : List Vertex) (w : Bool) (v : Vertex) (t : Trace) (at room : ℕ) → HasRoom (onto done (cond w (onto (v ∷ []) t) (faulty (plain Step)))) at room →
    (w ≡ true) × (at + 3 * length (done ++ (v ∷ [])) ≤ room)
led_by done true v (traced us c) at room h = (refl, simp length-append (omega (arith, simp length-append at h)))
led_by done true v (faulty f) at room h = absurd h
led_by done false v t at room h = absurd h

module _ (start : Pen) (ws : List ℕ) (front : ℕ) (out₀ out : List ℤ) (pen : Pen) (n : ℕ) (F : Filling start ws front out₀ out pen n) (k : pen.left ≡ 0 → ⊥)
    (f : HasRoom (pairs_of start ws) front (length out₀)) where
  fits : (within (led_to pen ws) ≡ true) × (front + 3 * length (F.done ++ (vertex pen.id (led_to pen ws) ∷ [])) ≤ length out₀)
  fits =
      led_by F.done (within (led_to pen ws)) (vertex pen.id (led_to pen ws)) (pairs_of (behind pen ws) ws) front (length out₀)
      (rw (F.all, pairs_one pen ws k F.stands) at f)

  room_here : n + 3 ≤ length out
  room_here = let (t, r) = fits in omega (arith, F.count, F.long, simp length-append at r)

  pub fill_leads : Leads pen ws
  fill_leads = let (t, r) = fits in record { some = k; stands = F.stands; inside = t }

  pub fill_small : n + 3 ≤ length out₀
  fill_small = omega (arith, room_here, F.long)

  module _ (next : Pen) (l : next ≡ behind pen ws) where
    pub fill_less : next.left < pen.left
    fill_less = one_less pen k next (led_to pen ws) l

    pub fill_known : start.id < 8 → next.id < 8
    fill_known h = rw l (omega (arith, F.same_id))

    pub fill_room : n + 3 ≤ length out
    fill_room = room_here

    pub fill_turn : mag next.x < 2 ^ 31 → mag next.y < 2 ^ 31 → (out' : List ℤ) →
        out' ≡ lay n (pos next.id ∷ to_z w32 (of_z w32 next.x) ∷ to_z w32 (of_z w32 next.y) ∷ []) out → Filling start ws front out₀ out' next (n + 3)
    fill_turn fx fy out' stored =
        let (t, r) = fits in
        let v : List Vertex = vertex pen.id (led_to pen ws) ∷ [] in
        let s : out' ≡ lay n (numbers v) out = rw (i32_back next.x fx, i32_back next.y fy, l) at stored in
        let i : front + length (numbers F.done) ≡ n = omega (arith, numbers_length F.done, F.count) in
        let h : front + length (numbers F.done) ≤ length out₀ = omega (arith, numbers_length F.done, F.room) in
        rw l
        (record {
          done = F.done ++ v;
          stands = behind_stands pen ws k F.stands;
          same_id = F.same_id;
          ends = F.ends ∙ behind_same pen ws k F.stands;
          all = F.all ∙ ap (onto F.done) (rw t at (pairs_one pen ws k F.stands)) ∙ onto_onto F.done v (pairs_of (behind pen ws) ws);
          count = simp length-append (omega (arith, F.count));
          room = r;
          long = ap length s ∙ length_lay n (numbers v) out room_here ∙ F.long;
          memory = s ∙ rw (F.memory, ← i, numbers_append) (lay_next front (numbers F.done) (numbers v) out₀ h);
        })
