use borrow.Author.Rules.{rules}
use Rattle.reader.proofs.WordsLaid.{fields_start, fields_long, fields_done, fields_never, fields_fit, fields_less, fields_turn}
use Rattle.reader.proofs.into.lay_fields.Goals as goal

pub loop-at-init : goal.loop-at-init
loop-at-init c = search (rules, fields_start)

pub shape_of-out-in_default : goal.shape_of-out-in_default
shape_of-out-in_default c = search (rules, fields_long)

pub returns-in_default : goal.returns-in_default
returns-in_default c = search (rules, fields_never)

pub lay_field-n-requires : goal.lay_field-n-requires
lay_field-n-requires c = search (rules, fields_fit)

pub loop-at-smaller : goal.loop-at-smaller
loop-at-smaller c = search (rules, fields_less)

pub loop-at-preserved : goal.loop-at-preserved
loop-at-preserved c = search (rules, fields_turn)

pub shape_of-out : goal.shape_of-out
shape_of-out c = search (rules, fields_long)

pub returns : goal.returns
returns c = search (rules, fields_done)
