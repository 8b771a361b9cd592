-- The answer of `first_refusal` is the chain's. As much of the indexes is asked as is built; ROOM decides; then the indexes are built where they are not, and the
-- feature is put.
use lib.Seq.{length-take-le}
use mathlib.Core.Path.{sym}
use Rattle.layer.specs.Held.{mem}
use Rattle.layer.specs.Lookup.{idx}
use Rattle.layer.proofs.Building.{used_in, as_indexed}
use Rattle.layer.proofs.Welcoming.{known_given, known_barred, part_there, asking, no_room, may_put, feature_left}
use Rattle.layer.proofs.whole_feature.add_known.Goals as goal

pub returns-in-Err : goal.returns-in-Err
returns-in-Err c =
    let g = c.args in
    known_barred g.s g.stands g.built g.f g.words.now g.tags.now g.bytes.now (mem g.keys.now g.values.now g.texts.now g.features.now) (idx g.ki.now g.vi.now) c.requires _ c.first_refusal.ensures _ c.in-Err.is

pub slice_bounds-has_room-end : goal.slice_bounds-has_room-end
slice_bounds-has_room-end c = let g = c.args in part_there g.built g.ki.now _ c.reach-a.ensures

pub slice_bounds-has_room-end-2 : goal.slice_bounds-has_room-end-2
slice_bounds-has_room-end-2 c = let g = c.args in sym (length-take-le _ _ (part_there g.built g.ki.now _ c.reach-a.ensures))

pub slice_bounds-has_room-end-3 : goal.slice_bounds-has_room-end-3
slice_bounds-has_room-end-3 c = let g = c.args in part_there g.built g.vi.now _ c.reach-b.ensures

pub slice_bounds-has_room-end-4 : goal.slice_bounds-has_room-end-4
slice_bounds-has_room-end-4 c = let g = c.args in sym (length-take-le _ _ (part_there g.built g.vi.now _ c.reach-b.ensures))

pub has_room-requires : goal.has_room-requires
has_room-requires c =
    let g = c.args in
    asking g.s g.built g.f g.words.now g.tags.now g.bytes.now g.keys.now g.values.now g.texts.now g.features.now g.ki.now g.vi.now (known_given g.s g.stands g.built g.f g.words.now g.tags.now g.bytes.now (mem g.keys.now g.values.now g.texts.now g.features.now) (idx g.ki.now g.vi.now) c.requires _ c.first_refusal.ensures c.in-Ok.is) _ _ c.reach-a.ensures c.reach-b.ensures

pub returns-then-not-has_room : goal.returns-then-not-has_room
returns-then-not-has_room c =
    let g = c.args in
    no_room g.s g.built g.f g.words.now g.tags.now g.bytes.now g.keys.now g.values.now g.texts.now g.features.now g.ki.now g.vi.now (known_given g.s g.stands g.built g.f g.words.now g.tags.now g.bytes.now (mem g.keys.now g.values.now g.texts.now g.features.now) (idx g.ki.now g.vi.now) c.requires _ c.first_refusal.ensures c.in-Ok.is) _ c.has_room.ensures c.if-not-has_room.true-raw

pub build_index-requires : goal.build_index-requires
build_index-requires c =
    let g = c.args in
    used_in g.s g.keys.now g.values.now g.texts.now g.features.now g.ki.now g.vi.now (known_given g.s g.stands g.built g.f g.words.now g.tags.now g.bytes.now (mem g.keys.now g.values.now g.texts.now g.features.now) (idx g.ki.now g.vi.now) c.requires _ c.first_refusal.ensures c.in-Ok.is).welcome.stands

pub put_feature-requires : goal.put_feature-requires
put_feature-requires c =
    let g = c.args in
    may_put g.s g.built g.f g.words.now g.tags.now g.bytes.now g.keys.now g.values.now g.texts.now g.features.now g.ki.now g.vi.now (known_given g.s g.stands g.built g.f g.words.now g.tags.now g.bytes.now (mem g.keys.now g.values.now g.texts.now g.features.now) (idx g.ki.now g.vi.now) c.requires _ c.first_refusal.ensures c.in-Ok.is) _ c.has_room.ensures c.if-not-has_room.false-raw _
    (as_indexed g.s g.keys.now g.values.now g.texts.now g.features.now g.ki.now g.vi.now g.built _ c.room-room.ensures _ c.build_index.ensures)

pub returns : goal.returns
returns c =
    let g = c.args in
    feature_left g.s g.built g.f g.words.now g.tags.now g.bytes.now g.keys.now g.values.now g.texts.now g.features.now g.ki.now g.vi.now (known_given g.s g.stands g.built g.f g.words.now g.tags.now g.bytes.now (mem g.keys.now g.values.now g.texts.now g.features.now) (idx g.ki.now g.vi.now) c.requires _ c.first_refusal.ensures c.in-Ok.is) _ c.has_room.ensures c.if-not-has_room.false-raw _
    (as_indexed g.s g.keys.now g.values.now g.texts.now g.features.now g.ki.now g.vi.now g.built _ c.room-room.ensures _ c.build_index.ensures) _ _ _ c.put_feature.ensures
