use mathlib.Core.Path.{refl}
use native.Mathlib.Omega.{arith}
use Rattle.layer.specs.Held.{mem}
use Rattle.layer.specs.Lookup.{idx}
use Rattle.layer.proofs.Going.{begin, ends, head_there, words_there, tags_there, known, stops, turn, as_done, as_refused, no_heads, heads_ok_lem, all_added}
use borrow.Author.Rules.{rules}
use Rattle.layer.proofs.many.add_features.Goals as goal

pub returns-then-not-is_head_list : goal.returns-then-not-is_head_list
returns-then-not-is_head_list c =
    let g = c.args in
    no_heads g.heads.now g.words.now g.tags.now g.bytes.now g.s (mem g.keys.now g.values.now g.texts.now g.features.now) (idx g.ki.now g.vi.now) _ c.is_head_list.ensures c.if-not-is_head_list.true-raw

pub loop-i-init : goal.loop-i-init
loop-i-init c =
    let g = c.args in
    let m = mem g.keys.now g.values.now g.texts.now g.features.now in
    let x = idx g.ki.now g.vi.now in
    begin g.heads.now g.words.now g.tags.now g.bytes.now _ g.s m x (heads_ok_lem g.heads.now g.words.now g.tags.now g.bytes.now g.s m x _ c.is_head_list.ensures c.if-not-is_head_list.false-raw) c.is_valid-stands.ensures

pub overflow_add-i : goal.overflow_add-i
overflow_add-i c = let k = head_there _ _ _ _ _ _ _ _ _ _ _ _ _ _ _ c.loop-i.invariant c.loop-i-test.true in search rules

pub offset_bounds-heads-i : goal.offset_bounds-heads-i
offset_bounds-heads-i c = let k = head_there _ _ _ _ _ _ _ _ _ _ _ _ _ _ _ c.loop-i.invariant c.loop-i-test.true in search rules

pub bounds-heads-i : goal.bounds-heads-i
bounds-heads-i c = let k = head_there _ _ _ _ _ _ _ _ _ _ _ _ _ _ _ c.loop-i.invariant c.loop-i-test.true in search rules

pub overflow_add-a : goal.overflow_add-a
overflow_add-a c = record { fits = omega (arith, c.before.before.before.before.before.before.before.before, words_there _ _ _ _ _ _ _ _ _ _ _ _ _ _ _ c.loop-i.invariant c.loop-i-test.true _ c.wide.ensures.same) }

pub overflow_add-i-in-loop-i : goal.overflow_add-i-in-loop-i
overflow_add-i-in-loop-i c = let k = head_there _ _ _ _ _ _ _ _ _ _ _ _ _ _ _ c.loop-i.invariant c.loop-i-test.true in search rules

pub offset_bounds-heads-i-in-loop-i : goal.offset_bounds-heads-i-in-loop-i
offset_bounds-heads-i-in-loop-i c = let k = head_there _ _ _ _ _ _ _ _ _ _ _ _ _ _ _ c.loop-i.invariant c.loop-i-test.true in search rules

pub bounds-heads-i-in-loop-i : goal.bounds-heads-i-in-loop-i
bounds-heads-i-in-loop-i c = let k = head_there _ _ _ _ _ _ _ _ _ _ _ _ _ _ _ c.loop-i.invariant c.loop-i-test.true in search rules

pub overflow_add-b : goal.overflow_add-b
overflow_add-b c = record { fits = omega (arith, c.before.before.before.before.before.before.before.before.before, tags_there _ _ _ _ _ _ _ _ _ _ _ _ _ _ _ c.loop-i.invariant c.loop-i-test.true _ c.wide-in-loop-i.ensures.same) }

pub head_at-requires : goal.head_at-requires
head_at-requires c = head_there _ _ _ _ _ _ _ _ _ _ _ _ _ _ _ c.loop-i.invariant c.loop-i-test.true

pub offset_bounds-words-w : goal.offset_bounds-words-w
offset_bounds-words-w c = omega (arith, c.before.before.before.before.before.before.before.before.before.before.before.before.before.before.before.before.before.before.before, c.loop-i.invariant.words_at)

pub slice_bounds-add_known-end : goal.slice_bounds-add_known-end
slice_bounds-add_known-end c = omega (arith, words_there _ _ _ _ _ _ _ _ _ _ _ _ _ _ _ c.loop-i.invariant c.loop-i-test.true _ c.wide.ensures.same)

pub offset_bounds-tags-g : goal.offset_bounds-tags-g
offset_bounds-tags-g c = omega (arith, c.before.before.before.before.before.before.before.before.before.before.before.before.before.before.before.before.before.before.before, c.loop-i.invariant.tags_at)

pub slice_bounds-add_known-end-in-loop-i : goal.slice_bounds-add_known-end-in-loop-i
slice_bounds-add_known-end-in-loop-i c = omega (arith, tags_there _ _ _ _ _ _ _ _ _ _ _ _ _ _ _ c.loop-i.invariant c.loop-i-test.true _ c.wide-in-loop-i.ensures.same)

pub add_known-requires : goal.add_known-requires
add_known-requires c = known _ _ _ _ _ _ _ _ _ _ _ _ _ _ _ c.loop-i.invariant c.loop-i-test.true _ refl

pub shape_of-keys-in-Err : goal.shape_of-keys-in-Err
shape_of-keys-in-Err c = let h = c.loop-i.invariant.long.keys in omega (arith, c.before.before.before.before.before.before.before.before.before.before.before.before.before, h)

pub shape_of-values-in-Err : goal.shape_of-values-in-Err
shape_of-values-in-Err c = let h = c.loop-i.invariant.long.values in omega (arith, c.before.before.before.before.before.before.before.before.before.before.before, h)

pub shape_of-texts-in-Err : goal.shape_of-texts-in-Err
shape_of-texts-in-Err c = let h = c.loop-i.invariant.long.texts in omega (arith, c.before.before.before.before.before.before.before.before.before, h)

pub shape_of-features-in-Err : goal.shape_of-features-in-Err
shape_of-features-in-Err c = let h = c.loop-i.invariant.long.features in omega (arith, c.before.before.before.before.before.before.before, h)

pub shape_of-ki-in-Err : goal.shape_of-ki-in-Err
shape_of-ki-in-Err c = let h = c.loop-i.invariant.kept.keys_long in omega (arith, c.before.before.before.before.before, h)

pub shape_of-vi-in-Err : goal.shape_of-vi-in-Err
shape_of-vi-in-Err c = let h = c.loop-i.invariant.kept.values_long in omega (arith, c.before.before.before, h)

pub returns-in-Err : goal.returns-in-Err
returns-in-Err c =
    let a = as_refused _ _ _ _ _ _ _ c.add_known.ensures _ c.in-Err.is in
    let g = c.args in
    all_added g.heads.now g.words.now g.tags.now g.bytes.now g.s (mem g.keys.now g.values.now g.texts.now g.features.now) (idx g.ki.now g.vi.now) _ c.is_head_list.ensures c.if-not-is_head_list.false-raw _ _ _
    (stops _ _ _ _ _ _ _ _ _ _ _ _ _ _ _ c.loop-i.invariant c.loop-i-test.true _ _ _ c.head_at.ensures c.wide.ensures.same c.wide-in-loop-i.ensures.same _ _ _ _ a)

pub overflow_add-i-in-loop-i-2 : goal.overflow_add-i-in-loop-i-2
overflow_add-i-in-loop-i-2 c = record { fits = omega (arith, c.before.before.before.before.before.before.before.before.before.before.before.before.before.before.before.before.before.before.before.before.before.before.before.before.before.before.before.before.before.before.before.before.before.before.before.before.before.before.before.before.before.before, head_there _ _ _ _ _ _ _ _ _ _ _ _ _ _ _ c.loop-i.invariant c.loop-i-test.true) }

pub overflow_add-n : goal.overflow_add-n
overflow_add-n c = let F = c.loop-i.invariant in record { fits = omega (arith, c.before.before.before.before.before.before.before.before.before.before.before.before.before.before.before.before.before.before.before.before.before.before.before.before.before.before.before.before.before.before.before.before.before.before.before.before.before.before.before.before.before.before, F.few, F.at) }

pub loop-i-smaller : goal.loop-i-smaller
loop-i-smaller c = omega (arith, c.loop-i-test)

pub loop-i-preserved : goal.loop-i-preserved
loop-i-preserved c =
    let a = as_done _ _ _ _ _ _ _ c.add_known.ensures _ c.in-Ok.is in
    turn _ _ _ _ _ _ _ _ _ _ _ _ _ _ _ c.loop-i.invariant c.loop-i-test.true _ _ _ c.head_at.ensures c.wide.ensures.same c.wide-in-loop-i.ensures.same _ _ _ a

pub shape_of-keys : goal.shape_of-keys
shape_of-keys c = c.loop-i.invariant.long.keys

pub shape_of-values : goal.shape_of-values
shape_of-values c = c.loop-i.invariant.long.values

pub shape_of-texts : goal.shape_of-texts
shape_of-texts c = c.loop-i.invariant.long.texts

pub shape_of-features : goal.shape_of-features
shape_of-features c = c.loop-i.invariant.long.features

pub shape_of-ki : goal.shape_of-ki
shape_of-ki c = c.loop-i.invariant.kept.keys_long

pub shape_of-vi : goal.shape_of-vi
shape_of-vi c = c.loop-i.invariant.kept.values_long

pub returns : goal.returns
returns c =
    let g = c.args in
    all_added g.heads.now g.words.now g.tags.now g.bytes.now g.s (mem g.keys.now g.values.now g.texts.now g.features.now) (idx g.ki.now g.vi.now) _ c.is_head_list.ensures c.if-not-is_head_list.false-raw _ _ _
    (ends _ _ _ _ _ _ _ _ _ _ _ _ _ _ _ c.loop-i.invariant c.loop-i-test.false _ c.all_read.ensures)
