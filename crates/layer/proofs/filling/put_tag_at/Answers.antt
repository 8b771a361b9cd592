-- The five words name parts of the bytes, and these are the tag. The used parts are there; what the indexes find is what a scan finds, so the tag has room, and
-- what they did not find is noted in them.
use Prim.Native.Nat.{ℕ, ◌+◌, ◌-◌, ◌≤◌}
use mathlib.Core.List.{List}
use lib.ListN.{length, take, drop}
use lib.Seq.{length-take-le}
use mathlib.Core.Path.{sym}
use native.Mathlib.Omega.{arith}
use Rattle.table.specs.declared.Text.{Text}
use Rattle.layer.specs.Held.{mem, seen}
use Rattle.layer.specs.Lookup.{idx}
use Rattle.layer.specs.WholeSteps.{MayTag}
use Rattle.layer.proofs.Fitting.{Fit}
use Rattle.layer.proofs.Placing.{key_room, text_room}
use Rattle.layer.proofs.Filled.{sliced_may, sliced_left}
use Rattle.layer.proofs.ByIndex.{may_fit, may_small, may_room, tag_left}
use Rattle.layer.proofs.filling.put_tag_at.Goals as goal
use Rattle.layer.proofs.filling.put_tag_at.Tie as tie
use Rattle.layer.proofs.filling.put_tag_at.Reads as contract
use Rattle.layer.proofs.filling.put_tag_at.Lts as places

-- the places on the way that the lemmas below speak of
abbrev After-place_at-p : Type 0
After-place_at-p = places.After-place_at tie.the-claims contract.Pre contract.Post tie.handed_clauses

abbrev part : List ℕ → Text → List ℕ
part bytes at = take (at.start + at.len - at.start) (drop at.start bytes)

may : (c : After-place_at-p) → let g = c.args in let p = c.place_at-p.result in MayTag g.s g.o (record { key = part g.bytes.now p.key; value = p.value; text = part g.bytes.now p.text }) (mem g.keys.now g.values.now g.texts.now g.features.now) (idx g.ki.now g.vi.now)
may c = sliced_may c.args.bytes.now c.args.tags.now c.args.i _ c.place_at-p.ensures _ _ _ _ c.requires.may_tag

at_fit : (c : After-place_at-p) → let g = c.args in Fit g.s.used (length g.keys.now) (length g.values.now) (length g.texts.now) (length g.features.now)
at_fit c = let g = c.args in let p = c.place_at-p.result in may_fit g.s g.o (part g.bytes.now p.key) p.value (part g.bytes.now p.text) g.keys.now g.values.now g.texts.now g.features.now g.ki.now g.vi.now (may c)

key_in : (c : After-place_at-p) → c.place_at-p.result.key.start + c.place_at-p.result.key.len ≤ length c.args.bytes.now
key_in c = key_room c.args.bytes.now c.args.tags.now c.args.i c.requires.tag_there.ok _ c.place_at-p.ensures

text_in : (c : After-place_at-p) → c.place_at-p.result.text.start + c.place_at-p.result.text.len ≤ length c.args.bytes.now
text_in c = text_room c.args.bytes.now c.args.tags.now c.args.i c.requires.tag_there.ok _ c.place_at-p.ensures

pub overflow_add-b : goal.overflow_add-b
overflow_add-b c = omega (arith, key_in c.before.before.before, c.before.before.before.before.before.before.before.before.before.before)

pub overflow_add-d : goal.overflow_add-d
overflow_add-d c = omega (arith, text_in c.before.before.before.before, c.before.before.before.before.before.before.before.before.before.before.before)

pub slice_bounds-key-end : goal.slice_bounds-key-end
slice_bounds-key-end c = key_in c.before.before.before.before

pub slice_bounds-text-end : goal.slice_bounds-text-end
slice_bounds-text-end c = text_in c.before.before.before.before.before

pub overflow_mul-k : goal.overflow_mul-k
overflow_mul-k c = record { fits = omega (arith, at_fit c.before.before.before.before.before.before.before.before) }

pub overflow_mul-e : goal.overflow_mul-e
overflow_mul-e c = record { fits = omega (arith, at_fit c.before.before.before.before.before.before.before.before.before) }

pub slice_bounds-find_key-end : goal.slice_bounds-find_key-end
slice_bounds-find_key-end c = (at_fit c.before.before.before.before.before.before.before.before.before.before.before.before).in_keys

pub slice_bounds-find_key-end-2 : goal.slice_bounds-find_key-end-2
slice_bounds-find_key-end-2 c = sym (length-take-le _ _ (at_fit c.before.before.before.before.before.before.before.before.before.before.before.before).in_keys)

pub slice_bounds-find_key-end-3 : goal.slice_bounds-find_key-end-3
slice_bounds-find_key-end-3 c = (at_fit c.before.before.before.before.before.before.before.before.before.before.before.before).in_texts

pub slice_bounds-find_key-end-4 : goal.slice_bounds-find_key-end-4
slice_bounds-find_key-end-4 c = sym (length-take-le _ _ (at_fit c.before.before.before.before.before.before.before.before.before.before.before.before).in_texts)

pub slice_bounds-find_value-end : goal.slice_bounds-find_value-end
slice_bounds-find_value-end c = (at_fit c.before.before.before.before.before.before.before.before.before.before.before.before.before).in_values

pub slice_bounds-find_value-end-2 : goal.slice_bounds-find_value-end-2
slice_bounds-find_value-end-2 c = sym (length-take-le _ _ (at_fit c.before.before.before.before.before.before.before.before.before.before.before.before.before).in_values)

pub slice_bounds-find_value-end-3 : goal.slice_bounds-find_value-end-3
slice_bounds-find_value-end-3 c = (at_fit c.before.before.before.before.before.before.before.before.before.before.before.before.before).in_texts

pub slice_bounds-find_value-end-4 : goal.slice_bounds-find_value-end-4
slice_bounds-find_value-end-4 c = sym (length-take-le _ _ (at_fit c.before.before.before.before.before.before.before.before.before.before.before.before.before).in_texts)

pub grown-after-requires : goal.grown-after-requires
grown-after-requires c =
    let g = c.args in
    let p = c.place_at-p.result in
    may_small g.s g.o (part g.bytes.now p.key) p.value (part g.bytes.now p.text) g.keys.now g.values.now g.texts.now g.features.now g.ki.now g.vi.now (may c.before.before.before.before.before.before.before.before.before.before.before.before.before.before)

pub put_tag-requires : goal.put_tag-requires
put_tag-requires c =
    let g = c.args in
    let p = c.place_at-p.result in
    may_room g.s g.o (part g.bytes.now p.key) p.value (part g.bytes.now p.text) g.keys.now g.values.now g.texts.now g.features.now g.ki.now g.vi.now (may c.before.before.before.before.before.before.before.before.before.before.before.before.before.before.before.before.before.before.before) _ c.room-room.ensures _ _ c.hash_text-kh.ensures c.hash_value-vh.ensures _ _ c.find_key-kf.ensures c.find_value-vf.ensures

pub returns : goal.returns
returns c =
    let g = c.args in
    let p = c.place_at-p.result in
    sliced_left g.bytes.now g.tags.now g.i _ c.place_at-p.ensures g.o (seen g.s (mem g.keys.now g.values.now g.texts.now g.features.now)) _ _ _ _ _
    (tag_left g.s g.o (part g.bytes.now p.key) p.value (part g.bytes.now p.text) g.keys.now g.values.now g.texts.now g.features.now g.ki.now g.vi.now (sliced_may g.bytes.now g.tags.now g.i _ c.place_at-p.ensures _ _ _ _ c.requires.may_tag) _ c.room-room.ensures _ _ c.hash_text-kh.ensures c.hash_value-vh.ensures _ _ c.find_key-kf.ensures c.find_value-vf.ensures _ c.grown-after.ensures _ _ _ _ c.put_tag.ensures _ _ c.note.ensures c.note-2.ensures)
