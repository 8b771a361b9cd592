-- The bound decides where it fits; else the dry run over the used parts of the lists does.
use lib.ListN.{length}
use lib.Seq.{length-take-le}
use mathlib.Core.Path.{sym}
use native.Mathlib.Omega.{arith}
use Rattle.layer.proofs.Fitting.{Fit}
use Rattle.layer.proofs.Deciding.{asked_fit, most_loop, need_loop, need_decides, most_decides}
use Rattle.layer.proofs.need.has_room.Goals as goal
use Rattle.layer.proofs.need.has_room.Tie as tie
use Rattle.layer.proofs.need.has_room.Reads as contract
use Rattle.layer.proofs.need.has_room.Lts as places

-- the places on the way that the lemmas below speak of
abbrev Start : Type 0
Start = places.Start tie.the-claims contract.Pre contract.Post

at_fit : (c : Start) → Fit c.args.s.used (length c.args.keys.now) (length c.args.values.now) (length c.args.texts.now) (length c.args.features.now)
at_fit c = asked_fit c.args.s c.args.words c.args.tags.now c.args.bytes.now c.args.keys.now c.args.values.now c.args.texts.now c.args.features.now c.args.key_index.now c.args.value_index.now c.requires

pub overflow_add-w-2 : goal.overflow_add-w-2
overflow_add-w-2 c =
    record { fits = omega (arith, (at_fit c.before.before.before.before.before.before.before.before.before.before.before.before).few_features, c.requires.few) }

pub is_most_met-requires : goal.is_most_met-requires
is_most_met-requires c =
    let g = c.args in
    most_loop g.s g.words g.tags.now g.bytes.now g.keys.now g.values.now g.texts.now g.features.now g.key_index.now g.value_index.now c.requires _ c.room-room.ensures

pub returns-then-is_most_met : goal.returns-then-is_most_met
returns-then-is_most_met c =
    let g = c.args in
    most_decides g.s g.words g.tags.now g.bytes.now g.keys.now g.values.now g.texts.now g.features.now g.key_index.now g.value_index.now c.requires _ c.room-room.ensures _ c.is_most_met.ensures c.if-is_most_met.true

pub overflow_mul-k : goal.overflow_mul-k
overflow_mul-k c = record { fits = omega (arith, (at_fit c.before.before.before.before.before.before.before.before.before.before.before.before.before.before.before).few_keys) }

pub overflow_mul-v : goal.overflow_mul-v
overflow_mul-v c = record { fits = omega (arith, (at_fit c.before.before.before.before.before.before.before.before.before.before.before.before.before.before.before.before).few_values) }

pub slice_bounds-is_need_met-end : goal.slice_bounds-is_need_met-end
slice_bounds-is_need_met-end c = sym (length-take-le _ _ (at_fit c.before.before.before.before.before.before.before.before.before.before.before.before.before.before.before.before).in_keys)

pub slice_bounds-is_need_met-end-2 : goal.slice_bounds-is_need_met-end-2
slice_bounds-is_need_met-end-2 c = sym (length-take-le _ _ (at_fit c.before.before.before.before.before.before.before.before.before.before.before.before.before.before.before.before).in_values)

pub slice_bounds-is_need_met-end-3 : goal.slice_bounds-is_need_met-end-3
slice_bounds-is_need_met-end-3 c = sym (length-take-le _ _ (at_fit c.before.before.before.before.before.before.before.before.before.before.before.before.before.before.before.before).in_texts)

pub is_need_met-requires : goal.is_need_met-requires
is_need_met-requires c =
    let g = c.args in
    need_loop g.s g.words g.tags.now g.bytes.now g.keys.now g.values.now g.texts.now g.features.now g.key_index.now g.value_index.now c.requires _ c.room-room.ensures

pub returns : goal.returns
returns c =
    let g = c.args in
    need_decides g.s g.words g.tags.now g.bytes.now g.keys.now g.values.now g.texts.now g.features.now g.key_index.now g.value_index.now c.requires _ c.room-room.ensures _ c.is_need_met.ensures
