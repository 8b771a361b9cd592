-- A law for each key.
use borrow.Author.Rules.{rules}
use Rattle.reader.proofs.Heading.{with_name, with_version, with_extent, with_key, with_value, with_feature, with_other}
use Rattle.reader.proofs.layers.with.Goals as goal

pub returns-then-f-eq-LAYER_NAME : goal.returns-then-f-eq-LAYER_NAME
returns-then-f-eq-LAYER_NAME c = search (rules, with_name)

pub returns-then-f-eq-LAYER_VERSION : goal.returns-then-f-eq-LAYER_VERSION
returns-then-f-eq-LAYER_VERSION c = search (rules, with_version)

pub returns-then-f-eq-LAYER_EXTENT : goal.returns-then-f-eq-LAYER_EXTENT
returns-then-f-eq-LAYER_EXTENT c = search (rules, with_extent)

pub returns-then-f-eq-LAYER_KEY : goal.returns-then-f-eq-LAYER_KEY
returns-then-f-eq-LAYER_KEY c = search (rules, with_key)

pub returns-then-f-eq-LAYER_VALUE : goal.returns-then-f-eq-LAYER_VALUE
returns-then-f-eq-LAYER_VALUE c = search (rules, with_value)

pub returns-then-f-eq-LAYER_FEATURE : goal.returns-then-f-eq-LAYER_FEATURE
returns-then-f-eq-LAYER_FEATURE c = search (rules, with_feature)

pub returns : goal.returns
returns c = search (rules, with_other)
