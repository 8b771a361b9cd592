-- The tests are the definition's, and what is counted fits, since every number took a byte.
use mathlib.Core.Path.{sym}
use borrow.Author.Rules.{rules}
use lib.Seq.{length-take-le}
use Rattle.promise.proofs.Cases.{tests}
use Rattle.reader.specs.FeatureSteps.{with_field}
use Rattle.reader.proofs.FeatureLoop.{tags_add, words_add}
use Rattle.reader.proofs.FeatureTold.{field_kind, field_tags, field_words}
use Rattle.reader.proofs.features.with_field.Goals as goal

pub returns-then-f-eq-FEATURE_ID : goal.returns-then-f-eq-FEATURE_ID
unfolding with_field
returns-then-f-eq-FEATURE_ID c = search (rules, tests)

pub returns-then-f-eq-FEATURE_TYPE : goal.returns-then-f-eq-FEATURE_TYPE
returns-then-f-eq-FEATURE_TYPE c = search (rules, field_kind)

pub returns-then-f-eq-SINGLE_TAG : goal.returns-then-f-eq-SINGLE_TAG
unfolding with_field
returns-then-f-eq-SINGLE_TAG c = search (rules, tests)

pub returns-then-f-eq-SINGLE_WORD : goal.returns-then-f-eq-SINGLE_WORD
unfolding with_field
returns-then-f-eq-SINGLE_WORD c = search (rules, tests)

pub slice_bounds-count_varints-end : goal.slice_bounds-count_varints-end
slice_bounds-count_varints-end c = sym (length-take-le _ _ c.requires.inside)

pub with_tag_count-requires : goal.with_tag_count-requires
with_tag_count-requires c = search (rules, tags_add)

pub returns-then-f-eq-FEATURE_TAGS : goal.returns-then-f-eq-FEATURE_TAGS
returns-then-f-eq-FEATURE_TAGS c = search (rules, field_tags)

pub slice_bounds-count_varints-end-then-f-eq-FEATURE_GEOMETRY : goal.slice_bounds-count_varints-end-then-f-eq-FEATURE_GEOMETRY
slice_bounds-count_varints-end-then-f-eq-FEATURE_GEOMETRY c = sym (length-take-le _ _ c.requires.inside)

pub with_word_count-requires : goal.with_word_count-requires
with_word_count-requires c = search (rules, words_add)

pub returns-then-f-eq-FEATURE_GEOMETRY : goal.returns-then-f-eq-FEATURE_GEOMETRY
returns-then-f-eq-FEATURE_GEOMETRY c = search (rules, field_words)

pub returns : goal.returns
unfolding with_field
returns c = search (rules, tests)
