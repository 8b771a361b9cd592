-- Each `return` of `draw`, `begin` and `next`.
use Prim.Native.Nat.{ℕ, zero, suc, ◌+◌, ◌-◌, ◌*◌, ◌/◌, ◌<◌, ◌≤◌}
use mathlib.Core.Path.{◌≡◌, refl, sym, ◌∙◌}
use mathlib.Core.Bool.{Bool, true, false, cond}
use mathlib.Core.List.{List, []}
use native.Mathlib.Omega.{arith}
use borrow.Author.Tests.{ne_eqb, eq-eqb, eqb-false, le-ltb, lt-ltb}
use lib.Dec.{eqb}
use lib.ListN.{length, get_or, drop, length-drop, drop_of_length-le}
use Rattle.refusal.specs.declared.Fault.{Fault}
use Rattle.refusal.specs.declared.Refusal.TheVariants.{Step}
use Rattle.refusal.specs.Said.{plain}
use Rattle.decoder.specs.declared.pen.Pen.{Pen}
use Rattle.decoder.specs.declared.command.Asked.{Asked}
use Rattle.decoder.specs.declared.command.Asked.TheVariants.{Draw, Close}
use Rattle.decoder.specs.ReadingWords.{within}
use Rattle.decoder.specs.Stepping.{pen_at, cursor_of, Stands, pair_of, command_of, next_from, next_of}
use Rattle.decoder.specs.Passing.{asked_of, led_to, behind}
use Rattle.decoder.proofs.Pairs.{pair_here}
use Rattle.decoder.proofs.Stepping.{found_bad, found_close, found_draw, draw_some, draw_stands}
use Rattle.std.specs.Prelude.{Option, Some, None, Result, Ok, Err}

module _ (pen : Pen) (ws : List ℕ) (n : pen.left ≡ 0 → ⊥) (S : Stands pen ws) where
  tested : cond (within (led_to pen ws)) (Ok (Some (behind pen ws))) (Err (plain Step)) ≡ pair_of pen.at pen.left pen.id (cursor_of pen) (drop pen.at ws)
  tested = rw (pair_here pen ws n S)

  pub draw_out : within (led_to pen ws) ≡ false → Err (plain Step) ≡ pair_of pen.at pen.left pen.id (cursor_of pen) (drop pen.at ws)
  draw_out h = rw h at tested

  pub draw_done : within (led_to pen ws) ≡ true → (next : Pen) → next ≡ behind pen ws → Ok (Some next) ≡ pair_of pen.at pen.left pen.id (cursor_of pen) (drop pen.at ws)
  draw_done h next l = rw l (rw h at tested)

-- ---- begin
module _ (pen : Pen) (ws : List ℕ) (h : pen.at < length ws) (r : Result Asked Fault) (e : r ≡ asked_of pen.at (get_or ws pen.at 0) (drop (pen.at + 1) ws)) where
  pub begin_bad : (f : Fault) → r ≡ Err f → Err f ≡ command_of pen.at (cursor_of pen) (drop pen.at ws)
  begin_bad f g = sym (found_bad pen.at (cursor_of pen) ws h f (sym e ∙ g))

  pub begin_close : r ≡ Ok Close → (next : Pen) → next ≡ pen_at (pen.at + 1) 0 7 (cursor_of pen) → Ok (Some next) ≡ command_of pen.at (cursor_of pen) (drop pen.at ws)
  begin_close g next l = rw l (sym (found_close pen.at (cursor_of pen) ws h (sym e ∙ g)))

  module _ (id pairs : ℕ) (g : r ≡ Ok (Draw id pairs)) (first : Pen) (l : first ≡ pen_at (pen.at + 1) pairs id (cursor_of pen)) where
    pub begin_some : first.left ≡ 0 → ⊥
    begin_some = rw l (draw_some pen.at (cursor_of pen) ws h id pairs (sym e ∙ g))

    pub begin_stands : Stands first ws
    begin_stands = rw l (draw_stands pen.at (cursor_of pen) ws h id pairs (sym e ∙ g))

    pub begin_draw : (f : Result (Option Pen) Fault) → f ≡ pair_of first.at first.left first.id (cursor_of first) (drop first.at ws) →
        f ≡ command_of pen.at (cursor_of pen) (drop pen.at ws)
    begin_draw f k = (rw l at k) ∙ sym (found_draw pen.at (cursor_of pen) ws h id pairs (sym e ∙ g))

-- ---- next
module _ (pen : Pen) (ws : List ℕ) where
  pub next_behind : length ws ≤ pen.at → Ok None ≡ next_of pen ws
  unfolding next_of
  next_behind h = by (eqb pen.left 0) refl
    where
      none : drop pen.at ws ≡ []
      none = drop_of_length-le ws h

      by : (s : Bool) → eqb pen.left 0 ≡ s → Ok None ≡ next_from pen (drop pen.at ws)
      by true e = rw (none, e)
      by false e =
          let n : pen.left ≡ 0 → ⊥ = eqb-false pen.left 0 e in
          let s : 0 < 2 * pen.left = some pen.left n in
          rw (none, e, lt-ltb 0 (2 * pen.left) s)
        where
          some : (k : ℕ) → (k ≡ 0 → ⊥) → 0 < 2 * k
          some zero n = absurd (n refl)
          some (suc k) n = omega arith

  pub next_begin : pen.left ≡ 0 → (r : Result (Option Pen) Fault) → r ≡ command_of pen.at (cursor_of pen) (drop pen.at ws) → r ≡ next_of pen ws
  unfolding next_of
  next_begin z r e = rw (eq-eqb pen.left 0 z) e

  module _ (n : pen.left ≡ 0 → ⊥) where
    pub next_short : pen.at < length ws → (length ws - pen.at) / 2 < pen.left → Ok None ≡ next_of pen ws
    unfolding next_of
    next_short h k =
        let s : length (drop pen.at ws) < 2 * pen.left = rw length-drop (omega arith) in
        rw (ne_eqb pen.left 0 n, lt-ltb (length (drop pen.at ws)) (2 * pen.left) s)

    pub next_draw : pen.left ≤ (length ws - pen.at) / 2 → (r : Result (Option Pen) Fault) → r ≡ pair_of pen.at pen.left pen.id (cursor_of pen) (drop pen.at ws) → r ≡ next_of pen ws
    unfolding next_of
    next_draw k r e =
        let s : 2 * pen.left ≤ length (drop pen.at ws) = rw length-drop (omega arith) in
        rw (ne_eqb pen.left 0 n, le-ltb (length (drop pen.at ws)) (2 * pen.left) s) e
