-- The used parts are there; the figures after the tag decide on ROOM, and then it is put.
use lib.Seq.{length-take-le}
use mathlib.Core.Path.{sym}
use native.Mathlib.Omega.{arith}
use Rattle.layer.proofs.Tagging.{ready_fit, ready_small, tag_full, tag_room, tag_done}
use Rattle.layer.proofs.tags.tag_open.Goals as goal

pub overflow_mul-k : goal.overflow_mul-k
overflow_mul-k c = let g = c.args in record { fits = omega (arith, ready_fit g.s g.o g.key.now g.v g.text.now g.keys.now g.values.now g.texts.now g.features.now c.requires) }

pub overflow_mul-e : goal.overflow_mul-e
overflow_mul-e c = let g = c.args in record { fits = omega (arith, ready_fit g.s g.o g.key.now g.v g.text.now g.keys.now g.values.now g.texts.now g.features.now c.requires) }

pub slice_bounds-key_pos-end : goal.slice_bounds-key_pos-end
slice_bounds-key_pos-end c = let g = c.args in (ready_fit g.s g.o g.key.now g.v g.text.now g.keys.now g.values.now g.texts.now g.features.now c.requires).in_keys

pub slice_bounds-key_pos-end-2 : goal.slice_bounds-key_pos-end-2
slice_bounds-key_pos-end-2 c = let g = c.args in sym (length-take-le _ _ (ready_fit g.s g.o g.key.now g.v g.text.now g.keys.now g.values.now g.texts.now g.features.now c.requires).in_keys)

pub slice_bounds-key_pos-end-3 : goal.slice_bounds-key_pos-end-3
slice_bounds-key_pos-end-3 c = let g = c.args in (ready_fit g.s g.o g.key.now g.v g.text.now g.keys.now g.values.now g.texts.now g.features.now c.requires).in_texts

pub slice_bounds-key_pos-end-4 : goal.slice_bounds-key_pos-end-4
slice_bounds-key_pos-end-4 c = let g = c.args in sym (length-take-le _ _ (ready_fit g.s g.o g.key.now g.v g.text.now g.keys.now g.values.now g.texts.now g.features.now c.requires).in_texts)

pub slice_bounds-val_pos-end : goal.slice_bounds-val_pos-end
slice_bounds-val_pos-end c = let g = c.args in (ready_fit g.s g.o g.key.now g.v g.text.now g.keys.now g.values.now g.texts.now g.features.now c.requires).in_values

pub slice_bounds-val_pos-end-2 : goal.slice_bounds-val_pos-end-2
slice_bounds-val_pos-end-2 c = let g = c.args in sym (length-take-le _ _ (ready_fit g.s g.o g.key.now g.v g.text.now g.keys.now g.values.now g.texts.now g.features.now c.requires).in_values)

pub slice_bounds-val_pos-end-3 : goal.slice_bounds-val_pos-end-3
slice_bounds-val_pos-end-3 c = let g = c.args in (ready_fit g.s g.o g.key.now g.v g.text.now g.keys.now g.values.now g.texts.now g.features.now c.requires).in_texts

pub slice_bounds-val_pos-end-4 : goal.slice_bounds-val_pos-end-4
slice_bounds-val_pos-end-4 c = let g = c.args in sym (length-take-le _ _ (ready_fit g.s g.o g.key.now g.v g.text.now g.keys.now g.values.now g.texts.now g.features.now c.requires).in_texts)

pub grown-after-requires : goal.grown-after-requires
grown-after-requires c = let g = c.args in ready_small g.s g.o g.key.now g.v g.text.now g.keys.now g.values.now g.texts.now g.features.now c.requires

pub returns-then-not-has_room_for : goal.returns-then-not-has_room_for
returns-then-not-has_room_for c =
    let g = c.args in
    tag_full g.s g.o g.key.now g.v g.text.now g.keys.now g.values.now g.texts.now g.features.now c.requires _ _ c.key_pos-kf.ensures c.val_pos-vf.ensures _ c.grown-after.ensures _ c.has_room_for.ensures c.if-not-has_room_for.true-raw

pub put_tag-requires : goal.put_tag-requires
put_tag-requires c =
    let g = c.args in
    tag_room g.s g.o g.key.now g.v g.text.now g.keys.now g.values.now g.texts.now g.features.now c.requires _ _ c.key_pos-kf.ensures c.val_pos-vf.ensures _ c.grown-after.ensures _ c.has_room_for.ensures c.if-not-has_room_for.false-raw

pub returns : goal.returns
returns c =
    let g = c.args in
    tag_done g.s g.o g.key.now g.v g.text.now g.keys.now g.values.now g.texts.now g.features.now c.requires _ _ c.key_pos-kf.ensures c.val_pos-vf.ensures _ c.grown-after.ensures _ c.has_room_for.ensures c.if-not-has_room_for.false-raw _ _ _ _ c.put_tag.ensures
