-- Going through the words with a pen: what is ahead of it is the next vertex and what is ahead behind that, to the end or the first fault. For callers of `next`:
--     walked_start                    before the first word everything is ahead
--     walked_vertex walked_end walked_fault
--                                     after each answer of `next`: one vertex more, the whole reading, its fault
--     next_further                    and each vertex takes a word at least
use Prim.Native.Nat.{ℕ, ◌+◌, ◌-◌, ◌*◌, ◌<◌, ◌≤◌}
use mathlib.Core.Path.{◌≡◌, refl, sym, ◌∙◌, ap}
use mathlib.Core.Bool.{Bool, true, false, cond}
use mathlib.Core.List.{List, [], ◌∷◌, ◌++◌, append-nil}
use native.Mathlib.Omega.{arith}
use borrow.Author.Tests.{eq-eqb, ne_eqb, eqb-true, eqb-false, le-ltb, ltb-true, ltb-false}
use lib.Dec.{ltb, eqb}
use lib.ListN.{length, get_or, take, drop, length-append, length-drop, drop_of_length-le}
use lib.Seq.{drop-drop}
use Rattle.refusal.specs.declared.Fault.{Fault}
use Rattle.refusal.specs.declared.Refusal.TheVariants.{Step}
use Rattle.refusal.specs.Said.{plain}
use Rattle.decoder.specs.declared.pen.Pen.{Pen}
use Rattle.decoder.specs.declared.command.Asked.{Asked}
use Rattle.decoder.specs.declared.command.Asked.TheVariants.{Draw, Close}
use Rattle.decoder.specs.Vertices.{Cursor, Vertex, Trace, traced, faulty, vertex, onto, and_then}
use Rattle.decoder.specs.ReadingWords.{params, within, command, trace_from, trace}
use Rattle.decoder.specs.Stepping.{pen_at, cursor_of, outset, Stands, pair_of, command_of, next_of, pairs_of, ahead, gone}
use Rattle.decoder.specs.Passing.{asked_of, led_to, behind}
use Rattle.decoder.proofs.Traces.{onto_nil, onto_onto, then_onto}
use Rattle.decoder.proofs.Commands.{goes_on, asked_bad, Closes, asked_close, Draws, asked_draw, nothing_read, one_command}
use Rattle.decoder.proofs.Pairs.{from_here, pairs_none, behind_stands, behind_same, pair_here, pairs_one}
use Rattle.std.specs.Prelude.{Option, Some, None, Result, Ok, Err}

-- ---- at a command word
pub ahead_command : (pen : Pen) (ws : List ℕ) → pen.left ≡ 0 → ahead pen ws ≡ trace_from pen.at (cursor_of pen) (drop pen.at ws)
ahead_command pen ws z =
    let e : pen.at + 2 * pen.left ≡ pen.at = omega arith in
    rw (pairs_none pen ws z, e) (onto_nil (trace_from pen.at (cursor_of pen) (drop pen.at ws)))

module _ (at : ℕ) (c : Cursor) (ws : List ℕ) (h : at < length ws) where
  abbrev pub asked : Result Asked Fault
  asked = asked_of at (get_or ws at 0) (drop (at + 1) ws)

  first_word : trace_from at c (drop at ws) ≡ trace_from at c (get_or ws at 0 ∷ drop (at + 1) ws)
  first_word = rw (from_here ws at (at + 1) (omega arith) h)

  pub command_bad : (f : Fault) → asked ≡ Err f → trace_from at c (drop at ws) ≡ faulty f
  command_bad f e = first_word ∙ one_command at c (get_or ws at 0) (drop (at + 1) ws) ∙ asked_bad faulty _ at (get_or ws at 0) (drop (at + 1) ws) f e

  pub command_close : asked ≡ Ok Close → trace_from at c (drop at ws) ≡ onto (vertex 7 c ∷ []) (ahead (pen_at (at + 1) 0 7 c) ws)
  command_close e =
      first_word ∙ one_command at c (get_or ws at 0) (drop (at + 1) ws)
      ∙ goes_on at (get_or ws at 0) (drop (at + 1) ws) faulty _ C.asks
      ∙ once ∙ ap (onto (vertex 7 c ∷ [])) (sym (ahead_command (pen_at (at + 1) 0 7 c) ws refl))
    where
      C : Closes (get_or ws at 0) (drop (at + 1) ws)
      C = asked_close at (get_or ws at 0) (drop (at + 1) ws) e

      once : and_then (command (get_or ws at 0) c (take (params (get_or ws at 0)) (drop (at + 1) ws)))
          (λ c'. trace_from (at + 1 + params (get_or ws at 0)) c' (drop (params (get_or ws at 0)) (drop (at + 1) ws)))
          ≡ onto (vertex 7 c ∷ []) (trace_from (at + 1) c (drop (at + 1) ws))
      once = let z : at + 1 + 0 ≡ at + 1 = omega arith in rw (C.close, z)

  pub command_draw : (id pairs : ℕ) → asked ≡ Ok (Draw id pairs) → trace_from at c (drop at ws) ≡ ahead (pen_at (at + 1) pairs id c) ws
  command_draw id pairs e =
      let D : Draws (get_or ws at 0) (drop (at + 1) ws) id pairs = asked_draw at (get_or ws at 0) (drop (at + 1) ws) id pairs e in
      first_word ∙ one_command at c (get_or ws at 0) (drop (at + 1) ws)
      ∙ goes_on at (get_or ws at 0) (drop (at + 1) ws) faulty _ D.asks
      ∙ rw (D.open_id, D.is_id_lem, D.is_count, drop-drop (2 * pairs) (at + 1) ws)

  -- the pairs that it asks for are there
  pub draw_stands : (id pairs : ℕ) → asked ≡ Ok (Draw id pairs) → Stands (pen_at (at + 1) pairs id c) ws
  draw_stands id pairs e =
      let D : Draws (get_or ws at 0) (drop (at + 1) ws) id pairs = asked_draw at (get_or ws at 0) (drop (at + 1) ws) id pairs e in
      let k : 2 * pairs ≤ length ws - (at + 1) = rw length-drop at D.enough_words in
      record { there = omega arith }

  pub draw_some : (id pairs : ℕ) → asked ≡ Ok (Draw id pairs) → pairs ≡ 0 → ⊥
  draw_some id pairs e = (asked_draw at (get_or ws at 0) (drop (at + 1) ws) id pairs e).some

  pub draw_known : (id pairs : ℕ) → asked ≡ Ok (Draw id pairs) → id < 8
  draw_known id pairs e =
      let D : Draws (get_or ws at 0) (drop (at + 1) ws) id pairs = asked_draw at (get_or ws at 0) (drop (at + 1) ws) id pairs e in
      omega (arith, D.is_id_lem)

  -- what `next` answers to it
  found_word : command_of at c (drop at ws) ≡ command_of at c (get_or ws at 0 ∷ drop (at + 1) ws)
  found_word = ap (λ (l : List ℕ). command_of at c l) (from_here ws at (at + 1) (omega arith) h)

  pub found_bad : (f : Fault) → asked ≡ Err f → command_of at c (drop at ws) ≡ Err f
  found_bad f e = found_word ∙ asked_bad Err _ at (get_or ws at 0) (drop (at + 1) ws) f e

  pub found_close : asked ≡ Ok Close → command_of at c (drop at ws) ≡ Ok (Some (pen_at (at + 1) 0 7 c))
  found_close e =
      let C : Closes (get_or ws at 0) (drop (at + 1) ws) = asked_close at (get_or ws at 0) (drop (at + 1) ws) e in
      found_word ∙ goes_on at (get_or ws at 0) (drop (at + 1) ws) Err _ C.asks ∙ rw C.close

  pub found_draw : (id pairs : ℕ) → asked ≡ Ok (Draw id pairs) → command_of at c (drop at ws) ≡ pair_of (at + 1) pairs id c (drop (at + 1) ws)
  found_draw id pairs e =
      let D : Draws (get_or ws at 0) (drop (at + 1) ws) id pairs = asked_draw at (get_or ws at 0) (drop (at + 1) ws) id pairs e in
      found_word ∙ goes_on at (get_or ws at 0) (drop (at + 1) ws) Err _ D.asks ∙ rw (D.open_id, D.is_id_lem, D.is_count)

-- ---- one answer of `next`
-- a pair of the pen's command
module _ (pen : Pen) (ws : List ℕ) (n : pen.left ≡ 0 → ⊥) (S : Stands pen ws) where
  abbrev onward : Cursor → Trace
  onward c = trace_from ((behind pen ws).at + 2 * (behind pen ws).left) c (drop ((behind pen ws).at + 2 * (behind pen ws).left) ws)

  pair_by : (t : Bool) → and_then (cond t (onto (vertex pen.id (led_to pen ws) ∷ []) (pairs_of (behind pen ws) ws)) (faulty (plain Step))) onward
      ≡ gone (cond t (Ok (Some (behind pen ws))) (Err (plain Step))) (cursor_of pen) ws
  pair_by true = then_onto (vertex pen.id (led_to pen ws) ∷ []) (pairs_of (behind pen ws) ws) onward
  pair_by false = refl

  pub pair_goes : ahead pen ws ≡ gone (pair_of pen.at pen.left pen.id (cursor_of pen) (drop pen.at ws)) (cursor_of pen) ws
  pair_goes = rw (pairs_one pen ws n S, pair_here pen ws n S, behind_same pen ws n S) (pair_by (within (led_to pen ws)))

-- a command word, by what it asks for
command_goes : (at : ℕ) (c : Cursor) (ws : List ℕ) (h : at < length ws) (a : Result Asked Fault) → asked at c ws h ≡ a →
    trace_from at c (drop at ws) ≡ gone (command_of at c (drop at ws)) c ws
command_goes at c ws h (Err f) e = command_bad at c ws h f e ∙ ap (λ (r : Result (Option Pen) Fault). gone r c ws) (sym (found_bad at c ws h f e))
command_goes at c ws h (Ok Close) e = command_close at c ws h e ∙ ap (λ (r : Result (Option Pen) Fault). gone r c ws) (sym (found_close at c ws h e))
command_goes at c ws h (Ok (Draw id pairs)) e =
    command_draw at c ws h id pairs e
    ∙ pair_goes (pen_at (at + 1) pairs id c) ws (draw_some at c ws h id pairs e) (draw_stands at c ws h id pairs e)
    ∙ ap (λ (r : Result (Option Pen) Fault). gone r c ws) (sym (found_draw at c ws h id pairs e))

-- what is ahead of a pen that stands in the words is what `next` gives, and what is ahead behind that
module _ (pen : Pen) (ws : List ℕ) (S : Stands pen ws) where
  next_pair : (pen.left ≡ 0 → ⊥) → next_of pen ws ≡ pair_of pen.at pen.left pen.id (cursor_of pen) (drop pen.at ws)
  unfolding next_of
  next_pair n =
      let k : 2 * pen.left ≤ length (drop pen.at ws) = rw length-drop (omega (arith, S.there)) in
      rw (ne_eqb pen.left 0 n, le-ltb (length (drop pen.at ws)) (2 * pen.left) k)

  next_command : pen.left ≡ 0 → next_of pen ws ≡ command_of pen.at (cursor_of pen) (drop pen.at ws)
  unfolding next_of
  next_command z = rw (eq-eqb pen.left 0 z)

  command_by : (s : Bool) → ltb pen.at (length ws) ≡ s →
      trace_from pen.at (cursor_of pen) (drop pen.at ws) ≡ gone (command_of pen.at (cursor_of pen) (drop pen.at ws)) (cursor_of pen) ws
  command_by true e = let h : pen.at < length ws = ltb-true pen.at (length ws) e in command_goes pen.at (cursor_of pen) ws h (asked pen.at (cursor_of pen) ws h) refl
  command_by false e =
      let l : drop pen.at ws ≡ [] = drop_of_length-le ws (ltb-false pen.at (length ws) e) in
      rw l (nothing_read pen.at (cursor_of pen))

  goes_by : (s : Bool) → eqb pen.left 0 ≡ s → ahead pen ws ≡ gone (next_of pen ws) (cursor_of pen) ws
  goes_by true e =
      let z : pen.left ≡ 0 = eqb-true pen.left 0 e in
      ahead_command pen ws z ∙ command_by (ltb pen.at (length ws)) refl ∙ ap (λ (r : Result (Option Pen) Fault). gone r (cursor_of pen) ws) (sym (next_command z))
  goes_by false e =
      let n : pen.left ≡ 0 → ⊥ = eqb-false pen.left 0 e in
      pair_goes pen ws n S ∙ ap (λ (r : Result (Option Pen) Fault). gone r (cursor_of pen) ws) (sym (next_pair n))

  pub next_goes : ahead pen ws ≡ gone (next_of pen ws) (cursor_of pen) ws
  next_goes = goes_by (eqb pen.left 0) refl

-- ---- each vertex takes a word at least, and leaves a pen that stands in the words
pub record Further (pen next : Pen) (ws : List ℕ) : Type 0 where
  pub more : pen.at < next.at
  pub stands : Stands next ws

-- a pen handed on from another one that stands behind the first
further_on : {pen first next : Pen} {ws : List ℕ} → pen.at ≤ first.at → Further first next ws → Further pen next ws
further_on h F = record { more = omega (arith, F.more); stands = F.stands }

module _ (pen : Pen) (ws : List ℕ) (n : pen.left ≡ 0 → ⊥) (S : Stands pen ws) (next : Pen) where
  pair_next : (t : Bool) → cond t (Ok (Some (behind pen ws))) (Err (plain Step)) ≡ Ok (Some next) → Further pen next ws
  pair_next true e =
      let k : behind pen ws ≡ next = cc in
      rw (← k) (record { more = omega arith; stands = behind_stands pen ws n S })
  pair_next false e = let z : ◌≡◌ {A = ℕ} 0 1 = cc in absurd (omega arith)

  further_pair : pair_of pen.at pen.left pen.id (cursor_of pen) (drop pen.at ws) ≡ Ok (Some next) → Further pen next ws
  further_pair e = pair_next (within (led_to pen ws)) (rw (pair_here pen ws n S) at e)

module _ (at : ℕ) (c : Cursor) (ws : List ℕ) (h : at < length ws) (pen next : Pen) (same_at : pen.at ≡ at) where
  further_command : (a : Result Asked Fault) → asked at c ws h ≡ a → command_of at c (drop at ws) ≡ Ok (Some next) → Further pen next ws
  further_command (Err f) e g = let q : Err f ≡ Ok (Some next) = sym (found_bad at c ws h f e) ∙ g in let z : ◌≡◌ {A = ℕ} 0 1 = cc in absurd (omega arith)
  further_command (Ok Close) e g =
      let q : Ok (Some (pen_at (at + 1) 0 7 c)) ≡ Ok (Some next) = sym (found_close at c ws h e) ∙ g in
      let k : pen_at (at + 1) 0 7 c ≡ next = cc in
      rw (← k) (record { more = omega arith; stands = record { there = omega arith } })
  further_command (Ok (Draw id pairs)) e g =
      further_on (omega arith)
      (further_pair (pen_at (at + 1) pairs id c) ws (draw_some at c ws h id pairs e) (draw_stands at c ws h id pairs e) next (sym (found_draw at c ws h id pairs e) ∙ g))

module _ (pen : Pen) (ws : List ℕ) (S : Stands pen ws) (next : Pen) (g : next_of pen ws ≡ Ok (Some next)) where
  further_by : (s : Bool) → ltb pen.at (length ws) ≡ s → pen.left ≡ 0 → Further pen next ws
  further_by true e z =
      let h : pen.at < length ws = ltb-true pen.at (length ws) e in
      further_command pen.at (cursor_of pen) ws h pen next refl (asked pen.at (cursor_of pen) ws h) refl (sym (next_command pen ws S z) ∙ g)
  further_by false e z =
      let l : drop pen.at ws ≡ [] = drop_of_length-le ws (ltb-false pen.at (length ws) e) in
      let q : Ok None ≡ Ok (Some next) = sym (next_command pen ws S z ∙ rw l) ∙ g in
      let k : ◌≡◌ {A = ℕ} 0 1 = cc in
      absurd (omega arith)

  left_by : (s : Bool) → eqb pen.left 0 ≡ s → Further pen next ws
  left_by true e = further_by (ltb pen.at (length ws)) refl (eqb-true pen.left 0 e)
  left_by false e = let n : pen.left ≡ 0 → ⊥ = eqb-false pen.left 0 e in further_pair pen ws n S next (sym (next_pair pen ws S n) ∙ g)

  pub next_further : Further pen next ws
  next_further = left_by (eqb pen.left 0) refl

-- ---- what a loop keeps: the vertices so far and what is ahead of the pen are the whole reading
pub record Walked (ws : List ℕ) (done : List Vertex) (pen : Pen) : Type 0 where
  pub stands : Stands pen ws
  pub few : length done ≤ pen.at
  pub all : trace ws ≡ onto done (ahead pen ws)

pub walked_start : (ws : List ℕ) → Walked ws [] outset
walked_start ws =
    record { stands = record { there = omega arith }; few = omega arith; all = sym (onto_nil (ahead outset ws) ∙ ahead_command outset ws refl) }

module _ (ws : List ℕ) (done : List Vertex) (pen : Pen) (W : Walked ws done pen) where
  met : (r : Result (Option Pen) Fault) → next_of pen ws ≡ r → trace ws ≡ onto done (gone r (cursor_of pen) ws)
  met r e = W.all ∙ ap (onto done) (next_goes pen ws W.stands ∙ ap (λ (f : Result (Option Pen) Fault). gone f (cursor_of pen) ws) e)

  pub walked_vertex : (next : Pen) → next_of pen ws ≡ Ok (Some next) → Walked ws (done ++ (vertex next.id (cursor_of next) ∷ [])) next
  walked_vertex next e =
      let F : Further pen next ws = next_further pen ws W.stands next e in
      record {
        stands = F.stands;
        few = simp length-append (omega (arith, W.few, F.more));
        all = met (Ok (Some next)) e ∙ onto_onto done (vertex next.id (cursor_of next) ∷ []) (ahead next ws);
      }

  pub walked_end : next_of pen ws ≡ Ok None → trace ws ≡ traced done (cursor_of pen)
  walked_end e = met (Ok None) e ∙ ap (λ (l : List Vertex). traced l (cursor_of pen)) (append-nil done)

  pub walked_fault : (f : Fault) → next_of pen ws ≡ Err f → trace ws ≡ faulty f
  walked_fault f e = met (Err f) e
