-- The refusals are the chain's; behind them a strict layer asks AGAIN, and an ordinary one's is what `tag_open` makes of an open feature.
use Rattle.layer.specs.Held.{mem}
use Rattle.layer.proofs.Chains.{chain}
use Rattle.layer.proofs.Standing.{answered, tag_ready}
use Rattle.layer.proofs.Repeating.{tag_strictly, tag_plainly}
use borrow.Author.Rules.{rules}
use Rattle.layer.proofs.tags.add_tag.Goals as goal

pub returns-then-not-is_valid : goal.returns-then-not-is_valid
returns-then-not-is_valid c = search (rules, chain)

pub returns-then-not-may_have : goal.returns-then-not-may_have
returns-then-not-may_have c = search (rules, chain)

pub returns-then-not-may_have-2 : goal.returns-then-not-may_have-2
returns-then-not-may_have-2 c = search (rules, chain)

pub returns-then-not-is_utf8 : goal.returns-then-not-is_utf8
returns-then-not-is_utf8 c = search (rules, chain)

pub returns-then-not-is_utf8-2 : goal.returns-then-not-is_utf8-2
returns-then-not-is_utf8-2 c = search (rules, chain) depth 12

pub returns-in_default : goal.returns-in_default
returns-in_default c = search (rules, chain) depth 12

pub tag_strict-requires : goal.tag_strict-requires
tag_strict-requires c =
    let g = c.args in
    tag_ready g.s g.keys.now g.values.now g.texts.now g.features.now _ c.is_valid.ensures c.if-not-is_valid.false-raw _ _ _ _ c.may_have.ensures c.if-not-may_have.false-raw c.may_have-2.ensures c.if-not-may_have-2.false-raw _ c.in-Some.is

pub returns-then-s : goal.returns-then-s
returns-then-s c =
    let g = c.args in
    tag_strictly (record { key = g.key.now; value = g.v; text = g.text.now }) g.s (mem g.keys.now g.values.now g.texts.now g.features.now) _ (record {
      stands = answered _ _ c.is_valid.ensures c.if-not-is_valid.false-raw;
      short_key = answered _ _ c.may_have.ensures c.if-not-may_have.false-raw;
      short_text_lem = answered _ _ c.may_have-2.ensures c.if-not-may_have-2.false-raw;
      utf8_key = answered _ _ c.is_utf8.ensures c.if-not-is_utf8.false-raw;
      utf8_text = answered _ _ c.is_utf8-2.ensures c.if-not-is_utf8-2.false-raw;
      since = c.in-Some.is;
    }) _ _ c.if-s.true c.tag_strict.ensures

pub tag_open-requires : goal.tag_open-requires
tag_open-requires c =
    let g = c.args in
    tag_ready g.s g.keys.now g.values.now g.texts.now g.features.now _ c.is_valid.ensures c.if-not-is_valid.false-raw _ _ _ _ c.may_have.ensures c.if-not-may_have.false-raw c.may_have-2.ensures c.if-not-may_have-2.false-raw _ c.in-Some.is

pub returns : goal.returns
returns c =
    let g = c.args in
    tag_plainly (record { key = g.key.now; value = g.v; text = g.text.now }) g.s (mem g.keys.now g.values.now g.texts.now g.features.now) _ (record {
      stands = answered _ _ c.is_valid.ensures c.if-not-is_valid.false-raw;
      short_key = answered _ _ c.may_have.ensures c.if-not-may_have.false-raw;
      short_text_lem = answered _ _ c.may_have-2.ensures c.if-not-may_have-2.false-raw;
      utf8_key = answered _ _ c.is_utf8.ensures c.if-not-is_utf8.false-raw;
      utf8_text = answered _ _ c.is_utf8-2.ensures c.if-not-is_utf8-2.false-raw;
      since = c.in-Some.is;
    }) _ _ c.if-s.false c.tag_open.ensures
