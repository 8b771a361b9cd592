-- The parts' answers, one after the other, are those of the definition; what is shown of the last one is the text.
use Rattle.tile_run.specs.Running.{said_ran}
use Rattle.number_file.specs.Numbers.{said_numbers}
use mathlib.Core.Path.{ap}
use native.Mathlib.Omega.{arith}
use Rattle.tiles.specs.Program.{printed}
use Rattle.tiles.proofs.Telling.{no_numbers, no_run, all_run}
use Rattle.tiles.proofs.answer.Goals as goal

pub returns-in-Err : goal.returns-in-Err
unfolding printed
returns-in-Err c =
    no_numbers _ _ _ _ c.args.text.now _ _ _ _ c.requires c.in-Err.r (ap said_numbers c.in-Err.is) c.read_numbers.ensures c.show_refusal.ensures

pub returns-in-Err-run : goal.returns-in-Err-run
unfolding printed
returns-in-Err-run c =
    no_run _ _ _ _ c.args.text.now _ _ _ _ c.requires _ (ap said_numbers c.in-Ok.is) c.read_numbers.ensures _ c.first_words-script.ensures
    c.in-Err-run.r (ap said_ran c.in-Err-run.is) c.run.ensures c.show_refusal-in-Err-run.ensures

pub returns-in-Ok-run : goal.returns-in-Ok-run
unfolding printed
returns-in-Ok-run c =
    all_run _ _ _ _ c.args.text.now _ _ _ _ c.requires _ (ap said_numbers c.in-Ok.is) c.read_numbers.ensures _ c.first_words-script.ensures
    _ _ (ap said_ran c.in-Ok-run.is) c.run.ensures c.show.ensures
