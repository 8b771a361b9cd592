use borrow.Author.Rules.{rules}
use Rattle.scanning.proofs.Placing.{scanning_start, turned_sound, scanning_turn, scanning_stops, scanning_done}
use Rattle.scanning.proofs.place.place_of.Goals as goal

pub loop-i-init : goal.loop-i-init
loop-i-init c = scanning_start _

pub is_alive-requires : goal.is_alive-requires
is_alive-requires c = search (rules, turned_sound)

pub returns-then-not-is_alive : goal.returns-then-not-is_alive
returns-then-not-is_alive c = search (rules, scanning_stops)

pub loop-i-preserved : goal.loop-i-preserved
loop-i-preserved c = search (rules, scanning_turn)

pub returns : goal.returns
returns c = search (rules, scanning_done)
