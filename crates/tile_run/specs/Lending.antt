-- What a step of a run promises of the lists lent to it: the layer's four, and the tile's names and bytes.
use Rattle.std.specs.Prelude.{ℕ, length}
use Rattle.promise.specs.Answers.{Gives}
use Rattle.layer.specs.Held.{Seen, Change}
use Rattle.promise.specs.Lent.{Lent}
use Rattle.layer.specs.Lending.{entered, left}
use Rattle.tile.specs.Tiles.{tile_entered, tile_left}
use Rattle.refusal.specs.Said.{accepted}
use Rattle.script.specs.declared.Op.{Op}
use Rattle.tile_run.specs.declared.performing.Work.{Work}
use Rattle.tile_run.specs.Hands.{Hand, Handled, said_handled, on_hand}
use Rattle.tile_run.specs.Operations.{Performed, Lists, lists, said_performed, performed}
use Rattle.tile_run.specs.Running.{Step, Ran, counts, stepped, ran_from, course_in, run_lists, said_ran, ran_script}

-- what is at hand then, and the four lists, are what the call makes of the layer at hand
abbrev pub Handles : (Seen → Change) → Hand → Handled → Lent → Lent → Lent → Lent → Type 0
Handles call h r k v t f = Gives (on_hand call h (entered k v t f)) (said_handled r) (left k v t f)

abbrev pub all_entered : Lent → Lent → Lent → Lent → Lent → Lent → Lists
all_entered k v t f n o = lists (entered k v t f) (tile_entered n o)

abbrev pub all_left : Lent → Lent → Lent → Lent → Lent → Lent → Lists
all_left k v t f n o = lists (left k v t f) (tile_left n o)

-- one operation of a script of these bytes and numbers
abbrev pub Performs : Op → Work → Performed → Lent → Lent → Lent → Lent → Lent → Lent → Lent → Lent → Type 0
Performs op w r b s k v t f n o =
    Gives (performed b.entry.now s.entry.now op w (all_entered k v t f n o)) (said_performed r) (all_left k v t f n o)

-- the operation that begins at a place
abbrev pub Steps : ℕ → Work → Step → Lent → Lent → Lent → Lent → Lent → Lent → Lent → Lent → Type 0
Steps at w r b s k v t f n o = Gives (stepped b.entry.now s.entry.now at w (all_entered k v t f n o)) r (all_left k v t f n o)

-- all of them from the first on, their outcomes in the list c; and the whole script
abbrev pub RunsFrom : Work → ℕ × ℕ → Lent → Lent → Lent → Lent → Lent → Lent → Lent → Lent → Lent → Type 0
RunsFrom w r b s c k v t f n o =
    Gives
    (course_in (ran_from (length s.entry.now) b.entry.now s.entry.now 1 w (all_entered k v t f n o)) c.entry.now)
    (accepted (counts r.0 r.1))
    (run_lists c.exit.now (all_left k v t f n o))

abbrev pub Runs : Ran → Lent → Lent → Lent → Lent → Lent → Lent → Lent → Lent → Lent → Type 0
Runs r b s c k v t f n o =
    Gives
    (ran_script b.entry.now s.entry.now c.entry.now (all_entered k v t f n o))
    (said_ran r)
    (run_lists c.exit.now (all_left k v t f n o))
