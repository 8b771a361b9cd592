use borrow.Author.Rules.{rules}
use Rattle.tile_check.proofs.Rest.{rest_start, rest_end, rest_faulty, rest_right, rest_bad, rest_more, field_less, field_part}
use Rattle.tile_check.proofs.messages_in.is_message.Goals as goal

pub loop-at-init : goal.loop-at-init
loop-at-init g c = search (rules, rest_start)

pub returns-in_default : goal.returns-in_default
returns-in_default g c = search (rules, rest_faulty)

pub slice_bounds-holds-end : goal.slice_bounds-holds-end
slice_bounds-holds-end g c = search (rules, field_part)

pub holds-requires : goal.holds-requires
holds-requires g c = search (rules, rest_right)

pub returns-then-not-holds : goal.returns-then-not-holds
returns-then-not-holds g c = search (rules, rest_bad)

pub loop-at-smaller : goal.loop-at-smaller
loop-at-smaller g c = search (rules, field_less)

pub loop-at-preserved : goal.loop-at-preserved
loop-at-preserved g c = search (rules, rest_more)

pub returns : goal.returns
returns g c = search (rules, rest_end)
