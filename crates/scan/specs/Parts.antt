-- A tile in parts (request (xi)): each part is taken, or refused with the place of the fault in the whole tile; the end tells whether the tile is done.
use Rattle.std.specs.Prelude.{ℕ, suc, cond, List, [], ◌∷◌, ◌++◌}
use Rattle.scan.specs.declared.State.{State}
use Rattle.scan.specs.Automaton.{turn}
use Rattle.scan.specs.Alive.{alive}
use Rattle.messages.specs.Tiles.{Verdict, good, fault}
use Rattle.scan.specs.Verdicts.{is_start}

pub data Part : Type 0 where
  taken : State → ℕ → Part  -- the state, and how many bytes were seen
  refused : ℕ → Part

abbrev pub part : State → ℕ → List ℕ → Part
part s seen [] = taken s seen
part s seen (b ∷ bs) = cond (alive (turn s b)) (part (turn s b) (suc seen) bs) (refused seen)

-- the next part
abbrev pub next : Part → List ℕ → Part
next (taken s seen) bs = part s seen bs
next (refused place) bs = refused place

abbrev pub end : Part → Verdict
end (taken s seen) = cond (is_start s) good (fault seen)
end (refused place) = fault place

-- all parts, one after the other
abbrev pub parts : Part → List (List ℕ) → Part
parts p [] = p
parts p (bs ∷ bss) = parts (next p bs) bss

abbrev pub whole : List (List ℕ) → List ℕ
whole [] = []
whole (bs ∷ bss) = bs ++ whole bss
