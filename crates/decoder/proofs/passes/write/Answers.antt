use Prim.Native.Nat.{◌+◌, ◌-◌, ◌*◌, ◌≤◌}
use native.Mathlib.Omega.{arith}
use lib.ListN.{length}
use borrow.Author.Rules.{rules}
use mathlib.Core.Path.{◌∙◌, ap}
use Rattle.std.specs.Prelude.{Ok}
use Rattle.decoder.proofs.Standing.{laid_start, laid_end, laid_never, laid_known, laid_room, laid_close, laid_past, laid_id, laid_stands, laid_fits, laid_draw, laid_sum, laid_nearer}
use Rattle.decoder.proofs.passes.write.Goals as goal
use Rattle.decoder.proofs.passes.write.Tie as tie
use Rattle.decoder.proofs.passes.write.Reads as contract
use Rattle.decoder.proofs.passes.write.Lts as places

pub loop-pen-init : goal.loop-pen-init
loop-pen-init c = search (rules, laid_start)

pub put-requires : goal.put-requires
put-requires c = let e = c.in-Ok-Close.is ∙ ap Ok c.in-Ok-Close.field-0-is in search (rules, laid_known, laid_room)

pub loop-pen-preserved-in-Ok-Close : goal.loop-pen-preserved-in-Ok-Close
loop-pen-preserved-in-Ok-Close c = search (rules, laid_close)

pub fill-pen-requires : goal.fill-pen-requires
fill-pen-requires c = let e = c.in-Ok-Draw.is ∙ ap Ok c.in-Ok-Draw.field-0-is in search (rules, laid_id, laid_stands, laid_fits)

pub loop-pen-preserved : goal.loop-pen-preserved
loop-pen-preserved c = search (rules, laid_draw)

pub returns-in-Err : goal.returns-in-Err
returns-in-Err c = search (rules, laid_never)

pub returns : goal.returns
returns c = search (rules, laid_end)
