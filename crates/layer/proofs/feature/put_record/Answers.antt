-- ROOM is asked of the words alone and of the figures after them; then the record is laid behind what is used.
use native.Mathlib.Omega.{arith}
use lib.ListN.{length}
use Rattle.layer.proofs.Fitting.{fit}
use Rattle.layer.proofs.Opening.{open_many, open_full, open_fit, open_done}
use borrow.Author.Rules.{rules}
use Rattle.layer.proofs.feature.put_record.Goals as goal

pub returns-then-n-gt-MAX_WORDS : goal.returns-then-n-gt-MAX_WORDS
returns-then-n-gt-MAX_WORDS c = search (rules, open_many)

pub overflow_add-after-2 : goal.overflow_add-after-2
overflow_add-after-2 c = omega (arith, fit c.args.s.used (length c.args.keys.now) (length c.args.values.now) (length c.args.texts.now) (length c.args.features.now) c.requires, c.if-n-gt-MAX_WORDS)

pub returns-then-not-has_room_for : goal.returns-then-not-has_room_for
returns-then-not-has_room_for c = search (rules, open_full)

pub lay_record-requires : goal.lay_record-requires
lay_record-requires c =
    let g = c.args in record { words_len_bound = c.if-n-gt-MAX_WORDS.false; words_in_bounds = omega (arith, open_fit g.s g.kind g.words.now g.keys.now g.values.now g.texts.now g.features.now c.if-n-gt-MAX_WORDS.false _ c.has_room_for.ensures c.if-not-has_room_for.false-raw) }

pub returns : goal.returns
returns c = search (rules, open_done)
