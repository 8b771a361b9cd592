use borrow.Author.Rules.{rules}
use Rattle.decoder.proofs.Running.{fill_start, fill_leads, fill_small, fill_less, fill_known, fill_room, fill_turn, fill_end}
use Rattle.decoder.proofs.passes.fill.Goals as goal

pub loop-pen-init : goal.loop-pen-init
loop-pen-init c = search (rules, fill_start)

pub follow-pen-requires : goal.follow-pen-requires
follow-pen-requires c = search (rules, fill_leads)

pub put-requires : goal.put-requires
put-requires c = search (rules, fill_known, fill_room)

pub loop-pen-preserved : goal.loop-pen-preserved
loop-pen-preserved c = search (rules, fill_turn)

pub returns : goal.returns
returns c = search (rules, fill_end)
