-- What the program prints for a file: oracle/README.md, "Tile script", put together from what its parts say. A file that is no list of numbers, or
-- too long, is refused whole: its one outcome, and no bytes.
use Rattle.std.specs.Prelude.{ℕ, cond, List, [], ◌∷◌, leb, eqb, length, take}
use Rattle.promise.specs.Answers.{Written}
use Rattle.refusal.specs.declared.Refusal.TheVariants.{Room}
use Rattle.refusal.specs.Refusals.{number_of}
use Rattle.refusal.specs.Said.{Said}
use Rattle.number_file.specs.Numbers.{reading}
use Rattle.printed.specs.Tiles.{tile_text, tile_room}
use Rattle.promise.specs.Lent.{Lent}
use Rattle.printed.specs.Lending.{Tells}
use Rattle.tile_run.specs.Operations.{Lists}
use Rattle.tile_run.specs.Lending.{all_entered}
use Rattle.tile_run.specs.Running.{Counts, RunLists, ran_script}

-- a refusal of the whole
unfoldable pub no_text : ℕ → List ℕ
no_text number = tile_text (number ∷ []) []

-- outcomes and bytes; ROOM where a text of this length is too short for them
unfoldable pub tile_shown : ℕ → List ℕ → List ℕ → List ℕ
tile_shown size os bs = cond (leb (tile_room os bs) size) (tile_text os bs) (no_text (number_of Room))

-- a run's outcomes, and the tile's bytes
abbrev pub run_text : ℕ → Written (Said Counts) RunLists → List ℕ
run_text size w =
    cond (eqb w.answer.number 0)
    (tile_shown size (take w.answer.values.outcomes w.memory.outcomes) (take w.answer.values.bytes w.memory.tile.tile.bytes))
    (no_text w.answer.number)

-- the file's numbers are read, and where that is accepted they are run
abbrev pub file_text : ℕ → Written (Said ℕ) (List ℕ) → List ℕ → List ℕ → Lists → List ℕ
file_text size n file outcomes m =
    cond (eqb n.answer.number 0)
    (run_text size (ran_script file (take n.answer.values n.memory) outcomes m))
    (no_text n.answer.number)

-- what is printed where a text of this length is lent
unfoldable pub printed : ℕ → List ℕ → List ℕ → List ℕ → Lists → List ℕ
printed size file numbers outcomes m = file_text size (reading file numbers) file outcomes m

-- the text lent last begins with it
abbrev pub Answers : ℕ → Lent → Lent → Lent → Lent → Lent → Lent → Lent → Lent → Lent → Lent → Type 0
Answers r file ns os k v t f n o text =
    Tells (printed (length text.entry.now) file.entry.now ns.entry.now os.entry.now (all_entered k v t f n o)) r text
