-- The check of a whole tile: good, or the place of its fault. It is the automaton's fold that stops at the first byte after which nothing finishes.
use Rattle.std.specs.Prelude.{ℕ, suc, Bool, true, false, cond, List, [], ◌∷◌}
use Rattle.messages.specs.Tiles.{Verdict, good, fault}
use Rattle.scan.specs.declared.Phase.{Phase}
use Rattle.scan.specs.declared.Phase.TheVariants.{Field as field, Key as key, Number as number, Lead as lead, Skip as skip, Packed as packed}
use Rattle.scan.specs.declared.Where.TheVariants.{Outside as none, One as one, Two as two}
use Rattle.scan.specs.declared.State.{State}
use Rattle.scan.specs.declared.State.TheVariants.{Lost as lost, At as at}
use Rattle.scan.specs.Automaton.{turn, start}
use Rattle.scan.specs.Alive.{alive}

abbrev pub at_field : Phase → Bool
at_field field = true
at_field (key i v) = false
at_field (number i) = false
at_field (lead body i v) = false
at_field (skip n) = false
at_field (packed n i) = false

abbrev pub is_start : State → Bool
is_start lost = false
is_start (at none phase) = at_field phase
is_start (at (one k n) phase) = false
is_start (at (two k n l m) phase) = false

abbrev pub later : Verdict → Verdict
later good = good
later (fault n) = fault (suc n)

abbrev pub scan : State → List ℕ → Verdict
scan s [] = cond (is_start s) good (fault 0)
scan s (b ∷ bs) = cond (alive (turn s b)) (later (scan (turn s b) bs)) (fault 0)

unfoldable pub check : List ℕ → Verdict
check bs = scan start bs
