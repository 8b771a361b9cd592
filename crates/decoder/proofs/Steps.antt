-- One pair of parameters as the code adds it up: two sums at 64 bits, the tests against the ends of i32, and the pen behind it.
use Prim.Native.Nat.{ℕ, ◌+◌, ◌-◌, ◌^◌, ◌<◌}
use mathlib.Core.Path.{◌≡◌, sym, ◌∙◌}
use mathlib.Core.Bool.{Bool, true, false, not, ◌&&◌}
use borrow.Author.Tests.{not-true, not-false}
use lib.IntN.{ℤ, pos, negsuc, ◌+ℤ◌}
use mathlib.Core.List.{List}
use lib.ListN.{get_or}
use lib.Signed.{le_z, mag}
use mir.Syntax.{w32, w64}
use mir.Val.{of_z, to_z, SFits}
use Rattle.promise.proofs.Joined.{both}
use Rattle.whole.proofs.Machine.{Back, back, i32_back, i32_inside, le_yes}
use Rattle.words.specs.Params.{unparam}
use Rattle.decoder.specs.declared.pen.Pen.{Pen}
use Rattle.decoder.specs.Vertices.{Cursor}
use Rattle.decoder.specs.ReadingWords.{in_i32, within}
use Rattle.decoder.specs.Stepping.{pen_at}
use Rattle.decoder.specs.Passing.{led_to, behind}

in_i32_lem : (z : ℤ) → in_i32 z ≡ true → SFits w32 z
in_i32_lem z e = let (a, b) = both (le_z (negsuc 2147483647) z) (le_z z (pos 2147483647)) e in i32_inside (le_yes a) (le_yes b)

-- a position within i32, axis by axis
pub within_fits : (c : Cursor) → within c ≡ true → SFits w32 c.x × SFits w32 c.y
within_fits c e = let (a, b) = both (in_i32 c.x) (in_i32 c.y) e in (in_i32_lem c.x a, in_i32_lem c.y b)

-- a sum along one axis, read back from its bits
sum_back : (place : ℤ) (word : ℕ) (z : ℤ) → mag place < 2 ^ 31 → mag z < 2 ^ 63 → z ≡ to_z w32 (of_z w32 place) +ℤ unparam word → to_z w64 (of_z w64 z) ≡ place +ℤ unparam word
sum_back place word z f m e = let b : Back w64 z = back {w = w64} (record { sfits = m }) in b ∙ (rw (i32_back place f) at e)

module _ (pen : Pen) (ws : List ℕ) (fx : mag pen.x < 2 ^ 31) (fy : mag pen.y < 2 ^ 31) (x y : ℤ) (mx : mag x < 2 ^ 63) (my : mag y < 2 ^ 63)
    (ex : x ≡ to_z w32 (of_z w32 pen.x) +ℤ unparam (get_or ws pen.at 0)) (ey : y ≡ to_z w32 (of_z w32 pen.y) +ℤ unparam (get_or ws (pen.at + 1) 0))
    (a b : Bool) (ea : a ≡ in_i32 (to_z w64 (of_z w64 x))) (eb : b ≡ in_i32 (to_z w64 (of_z w64 y))) where
  is_x : to_z w64 (of_z w64 x) ≡ (led_to pen ws).x
  is_x = sum_back pen.x (get_or ws pen.at 0) x fx mx ex

  is_y : to_z w64 (of_z w64 y) ≡ (led_to pen ws).y
  is_y = sum_back pen.y (get_or ws (pen.at + 1) 0) y fy my ey

  tests : (a && b) ≡ within (led_to pen ws)
  tests = rw (ea, eb, is_x, is_y)

  pub leads_out : not (a && b) ≡ true → within (led_to pen ws) ≡ false
  leads_out h = sym tests ∙ not-true (a && b) h

  module _ (h : not (a && b) ≡ false) where
    pub leads_in : within (led_to pen ws) ≡ true
    leads_in = sym tests ∙ not-false (a && b) h

    pub x_fits : SFits w32 (to_z w64 (of_z w64 x))
    x_fits = let (f, g) = within_fits (led_to pen ws) leads_in in rw is_x f

    pub y_fits : SFits w32 (to_z w64 (of_z w64 y))
    y_fits = let (f, g) = within_fits (led_to pen ws) leads_in in rw is_y g

    pub leads_behind : (next : Pen) →
        next ≡ pen_at (pen.at + 2) (pen.left - 1) pen.id (record { x = to_z w32 (of_z w32 (to_z w64 (of_z w64 x))); y = to_z w32 (of_z w32 (to_z w64 (of_z w64 y))) }) →
        next ≡ behind pen ws
    leads_behind next l = rw (back x_fits, back y_fits, is_x, is_y) at l
