-- The refusals are the chain's, and what follows it is what `put_record` answers.
use Rattle.layer.proofs.Chains.{chain}
use Rattle.layer.proofs.Standing.{valid_room}
use borrow.Author.Rules.{rules}
use Rattle.layer.proofs.feature.into_feature.Goals as goal

pub returns-then-not-is_good : goal.returns-then-not-is_good
returns-then-not-is_good c = search (rules, chain)

pub returns-then-not-is_valid : goal.returns-then-not-is_valid
returns-then-not-is_valid c = search (rules, chain)

pub returns-then-not-is_shut : goal.returns-then-not-is_shut
returns-then-not-is_shut c = search (rules, chain)

pub put_record-requires : goal.put_record-requires
put_record-requires c =
    let g = c.args in
    valid_room g.s g.keys.now g.values.now g.texts.now g.features.now _ c.is_valid.ensures c.if-not-is_valid.false-raw

pub returns : goal.returns
returns c = search (rules, chain)
