-- Document 01's word lists, read: a few statements that compute, one for each rule of "Reading words". The sample jobs have a list of their own.
use Prim.Native.Nat.{ℕ}
use mathlib.Core.Path.{◌≡◌, refl}
use mathlib.Core.List.{List, [], ◌∷◌}
use lib.IntN.{ℤ, pos}
use Rattle.refusal.specs.declared.Refusal.TheVariants.{Command as NoCommand, Count, NoParams, CutParams, Step}
use Rattle.refusal.specs.Said.{plain, placed}
use Rattle.words.specs.Params.{unparam}
use Rattle.decoder.specs.Vertices.{Cursor, Vertex, traced, faulty, origin}
use Rattle.decoder.specs.ReadingWords.{drawn, commands, trace_from, trace}
use Rattle.decoder.specs.Stepping.{pen_at, outset, next_of}
use Rattle.std.specs.Prelude.{Some, None, Ok, Err}

abbrev v : ℕ → ℤ → ℤ → Vertex
v id x y = record { id = id; x = x; y = y }

abbrev at : ℤ → ℤ → Cursor
at x y = record { x = x; y = y }

nothing : trace [] ≡ traced [] origin
unfolding trace_from commands
nothing = refl

points : trace (17 ∷ 10 ∷ 14 ∷ 3 ∷ 9 ∷ []) ≡ traced (v 1 (pos 5) (pos 7) ∷ v 1 (pos 3) (pos 2) ∷ []) (at (pos 3) (pos 2))
unfolding trace_from commands drawn unparam
points = refl

line : trace (9 ∷ 4 ∷ 4 ∷ 18 ∷ 0 ∷ 16 ∷ 16 ∷ 0 ∷ []) ≡ traced (v 1 (pos 2) (pos 2) ∷ v 2 (pos 2) (pos 10) ∷ v 2 (pos 10) (pos 10) ∷ []) (at (pos 10) (pos 10))
unfolding trace_from commands drawn unparam
line = refl

-- ClosePath gives the unmoved cursor
polygon : trace (9 ∷ 6 ∷ 12 ∷ 18 ∷ 10 ∷ 12 ∷ 24 ∷ 44 ∷ 15 ∷ []) ≡
    traced (v 1 (pos 3) (pos 6) ∷ v 2 (pos 8) (pos 12) ∷ v 2 (pos 20) (pos 34) ∷ v 7 (pos 20) (pos 34) ∷ []) (at (pos 20) (pos 34))
unfolding trace_from commands drawn unparam
polygon = refl

-- and the cursor lives through it, and through a MoveTo
two_rings : trace (9 ∷ 0 ∷ 0 ∷ 18 ∷ 8 ∷ 0 ∷ 0 ∷ 8 ∷ 15 ∷ 18 ∷ 8 ∷ 0 ∷ 0 ∷ 8 ∷ 15 ∷ []) ≡
    traced
    (v 1 (pos 0) (pos 0) ∷ v 2 (pos 4) (pos 0) ∷ v 2 (pos 4) (pos 4) ∷ v 7 (pos 4) (pos 4) ∷ v 2 (pos 8) (pos 4) ∷ v 2 (pos 8) (pos 8) ∷ v 7 (pos 8) (pos 8) ∷ [])
    (at (pos 8) (pos 8))
unfolding trace_from commands drawn unparam
two_rings = refl

-- two parts of a line: the second MoveTo is a step from the first part's end
two_parts : trace (9 ∷ 4 ∷ 4 ∷ 10 ∷ 16 ∷ 16 ∷ 9 ∷ 17 ∷ 17 ∷ []) ≡ traced (v 1 (pos 2) (pos 2) ∷ v 2 (pos 10) (pos 10) ∷ v 1 (pos 1) (pos 1) ∷ []) (at (pos 1) (pos 1))
unfolding trace_from commands drawn unparam
two_parts = refl

-- ---- faults: an id that is none is COMMAND, also with count 0 and where words are missing
no_command : trace (19 ∷ []) ≡ faulty (plain NoCommand)
unfolding trace_from commands
no_command = refl

no_command_no_count : trace (0 ∷ []) ≡ faulty (plain NoCommand)
unfolding trace_from commands
no_command_no_count = refl

-- a count that the command cannot have is COUNT, also where words are missing
no_times : trace (1 ∷ []) ≡ faulty (plain Count)
unfolding trace_from commands
no_times = refl

close_twice : trace (9 ∷ 0 ∷ 0 ∷ 23 ∷ []) ≡ faulty (plain Count)
unfolding trace_from commands drawn unparam
close_twice = refl

-- a command without words, and one with too few, each with its own index
no_params_there : trace (9 ∷ 0 ∷ 0 ∷ 10 ∷ []) ≡ faulty (placed NoParams 3)
unfolding trace_from commands drawn unparam
no_params_there = refl

-- the cut of a command comes before its STEP: the first pair would leave i32, and the second is not there
cut_first : trace (9 ∷ 4294967294 ∷ 0 ∷ 18 ∷ 2 ∷ 0 ∷ 0 ∷ []) ≡ faulty (placed CutParams 3)
unfolding trace_from commands drawn unparam
cut_first = refl

-- and a STEP before a later command's fault
step_first : trace (9 ∷ 4294967294 ∷ 0 ∷ 10 ∷ 2 ∷ 0 ∷ 19 ∷ []) ≡ faulty (plain Step)
unfolding trace_from commands drawn unparam
step_first = refl

-- ---- one vertex after the other: those of a line, and the end
abbrev words : List ℕ
words = 9 ∷ 4 ∷ 4 ∷ 18 ∷ 0 ∷ 16 ∷ 16 ∷ 0 ∷ []

first_met : next_of outset words ≡ Ok (Some (pen_at 3 0 1 (at (pos 2) (pos 2))))
unfolding next_of unparam
first_met = refl

second_met : next_of (pen_at 3 0 1 (at (pos 2) (pos 2))) words ≡ Ok (Some (pen_at 6 1 2 (at (pos 2) (pos 10))))
unfolding next_of unparam
second_met = refl

last_met : next_of (pen_at 6 1 2 (at (pos 2) (pos 10))) words ≡ Ok (Some (pen_at 8 0 2 (at (pos 10) (pos 10))))
unfolding next_of unparam
last_met = refl

end_met : next_of (pen_at 8 0 2 (at (pos 10) (pos 10))) words ≡ Ok None
unfolding next_of
end_met = refl

-- a pen that says more pairs than there are, one behind the words, and one at a command that is cut
too_many_pairs : next_of (pen_at 6 2 2 (at (pos 2) (pos 10))) words ≡ Ok None
unfolding next_of
too_many_pairs = refl

behind_words : next_of (pen_at 9 0 2 (at (pos 10) (pos 10))) words ≡ Ok None
unfolding next_of
behind_words = refl

cut_there : next_of (pen_at 3 0 1 (at (pos 2) (pos 2))) (9 ∷ 4 ∷ 4 ∷ 18 ∷ 0 ∷ []) ≡ Err (placed CutParams 3)
unfolding next_of
cut_there = refl
