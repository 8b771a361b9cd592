-- The early returns are the definition's tests in their order.
use Rattle.layer.proofs.Standing.{answered}
use Rattle.layer.proofs.Barring.{bar_list, bar_kind, bar_state, bar_text, bar_utf8, bar_turn, bar_again, bar_words, bar_none, words_many, words_few}
use borrow.Author.Rules.{rules}
use Rattle.layer.proofs.whole_feature.first_refusal.Goals as goal

pub returns-then-not-is_tag_list : goal.returns-then-not-is_tag_list
returns-then-not-is_tag_list c = search (rules, bar_list)

pub returns-then-not-is_good : goal.returns-then-not-is_good
returns-then-not-is_good c = search (rules, bar_kind)

pub returns-then-not-stands : goal.returns-then-not-stands
returns-then-not-stands c = search (rules, bar_state)

pub returns-then-not-are_short : goal.returns-then-not-are_short
returns-then-not-are_short c = search (rules, bar_text)

pub are_utf8-requires : goal.are_utf8-requires
are_utf8-requires c = search (rules, answered)

pub returns-then-not-are_utf8 : goal.returns-then-not-are_utf8
returns-then-not-are_utf8 c = search (rules, bar_utf8)

pub returns-then-not-is_shut : goal.returns-then-not-is_shut
returns-then-not-is_shut c = search (rules, bar_turn)

pub takes_keys-requires : goal.takes_keys-requires
takes_keys-requires c = answered _ _ c.is_tag_list.ensures c.if-not-is_tag_list.false-raw

pub returns-then-not-takes_keys : goal.returns-then-not-takes_keys
returns-then-not-takes_keys c = search (rules, bar_again)

pub returns-then-words-gt-MAX_WORDS : goal.returns-then-words-gt-MAX_WORDS
returns-then-words-gt-MAX_WORDS c = search (rules, bar_words, words_many)

pub returns : goal.returns
returns c = search (rules, bar_none, words_few)
