-- The used figures fit, so each used part is there; what is left is what the four checks answer of those parts.
use lib.Seq.{length-take-le}
use lib.ListN.{length}
use mathlib.Core.Path.{sym}
use native.Mathlib.Omega.{arith}
use Rattle.layer.proofs.Fitting.{told_fit, unfit, valid_is}
use borrow.Author.Rules.{rules}
use Rattle.layer.proofs.state.is_valid.Goals as goal

pub returns-then-not-has_room_for : goal.returns-then-not-has_room_for
returns-then-not-has_room_for c = search (rules, unfit)

pub overflow_mul-k : goal.overflow_mul-k
overflow_mul-k c = record { fits = omega (arith, told_fit c.args.s.used (length c.args.keys.now) (length c.args.values.now) (length c.args.texts.now) (length c.args.features.now) _ c.has_room_for.ensures c.if-not-has_room_for.false-raw) }

pub overflow_mul-v : goal.overflow_mul-v
overflow_mul-v c = record { fits = omega (arith, told_fit c.args.s.used (length c.args.keys.now) (length c.args.values.now) (length c.args.texts.now) (length c.args.features.now) _ c.has_room_for.ensures c.if-not-has_room_for.false-raw) }

pub slice_bounds-keys_in-end : goal.slice_bounds-keys_in-end
slice_bounds-keys_in-end c = sym (length-take-le _ _ (told_fit c.args.s.used (length c.args.keys.now) (length c.args.values.now) (length c.args.texts.now) (length c.args.features.now) _ c.has_room_for.ensures c.if-not-has_room_for.false-raw).in_keys)

pub slice_bounds-values_in-end : goal.slice_bounds-values_in-end
slice_bounds-values_in-end c = sym (length-take-le _ _ (told_fit c.args.s.used (length c.args.keys.now) (length c.args.values.now) (length c.args.texts.now) (length c.args.features.now) _ c.has_room_for.ensures c.if-not-has_room_for.false-raw).in_values)

pub slice_bounds-records_ok-end : goal.slice_bounds-records_ok-end
slice_bounds-records_ok-end c = sym (length-take-le _ _ (told_fit c.args.s.used (length c.args.keys.now) (length c.args.values.now) (length c.args.texts.now) (length c.args.features.now) _ c.has_room_for.ensures c.if-not-has_room_for.false-raw).in_features)

pub records_ok-requires : goal.records_ok-requires
records_ok-requires c = length-take-le _ _ (told_fit c.args.s.used (length c.args.keys.now) (length c.args.values.now) (length c.args.texts.now) (length c.args.features.now) _ c.has_room_for.ensures c.if-not-has_room_for.false-raw).in_features

pub returns : goal.returns
returns c =
    let g = c.args in
    valid_is g.s g.keys.now g.values.now g.texts.now g.features.now _ c.has_room_for.ensures c.if-not-has_room_for.false-raw _ _ _ c.keys_in.ensures c.values_in.ensures c.records_ok.ensures
