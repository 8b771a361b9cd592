use native.Mathlib.Omega.{arith}
use Rattle.layer.specs.Lookup.{idx}
use Rattle.layer.proofs.Features.{few_words, record_fits, put_fit, may_fill, put_left}
use Rattle.layer.proofs.Filled.{begin, ends, there, may_tag, turn}
use borrow.Author.Rules.{rules}
use Rattle.layer.proofs.whole_feature.put_feature.Goals as goal

pub lay_record-requires : goal.lay_record-requires
lay_record-requires c =
    let g = c.args in
    let x = idx g.ki.now g.vi.now in record { words_len_bound = few_words g.s g.f g.words.now g.tags.now g.bytes.now g.keys.now g.values.now g.texts.now g.features.now x c.requires; words_in_bounds = record_fits g.s g.f g.words.now g.tags.now g.bytes.now g.keys.now g.values.now g.texts.now g.features.now x c.requires }

pub overflow_add-used-2 : goal.overflow_add-used-2
overflow_add-used-2 c =
    let g = c.args in
    let x = idx g.ki.now g.vi.now in
    omega (arith, put_fit g.s g.f g.words.now g.tags.now g.bytes.now g.keys.now g.values.now g.texts.now g.features.now x c.requires, few_words g.s g.f g.words.now g.tags.now g.bytes.now g.keys.now g.values.now g.texts.now g.features.now x c.requires)

pub loop-i-init : goal.loop-i-init
loop-i-init c =
    let g = c.args in
    let x = idx g.ki.now g.vi.now in
    begin _ g.s.used g.tags.now g.bytes.now g.keys.now g.values.now g.texts.now _ x (may_fill g.s g.f g.words.now g.tags.now g.bytes.now g.keys.now g.values.now g.texts.now g.features.now x c.requires _ _ c.mark_of-mark.ensures c.id_of-id.ensures _ c.lay_record.ensures)

pub put_tag_at-t-requires : goal.put_tag_at-t-requires
put_tag_at-t-requires c =
    let I = c.loop-i.invariant in
    let h = c.loop-i-test in record { tag_there = there _ _ _ _ _ _ _ _ _ _ I (omega (arith, h)); may_tag = may_tag _ _ _ _ _ _ _ _ _ _ I (omega (arith, h)) }

pub overflow_add-i : goal.overflow_add-i
overflow_add-i c =
    let h = c.loop-i-test in
    let r = (there _ _ _ _ _ _ _ _ _ _ c.loop-i.invariant (omega (arith, h))).words in search rules

pub loop-i-smaller : goal.loop-i-smaller
loop-i-smaller c = omega (arith, c.loop-i-test)

pub loop-i-preserved : goal.loop-i-preserved
loop-i-preserved c =
    let h = c.loop-i-test in
    turn _ _ _ _ _ _ _ _ _ _ c.loop-i.invariant (omega (arith, h)) _ _ _ c.put_tag_at-t.ensures

pub shape_of-keys : goal.shape_of-keys
shape_of-keys c = c.loop-i.invariant.long.keys

pub shape_of-values : goal.shape_of-values
shape_of-values c = c.loop-i.invariant.long.values

pub shape_of-texts : goal.shape_of-texts
shape_of-texts c = c.loop-i.invariant.long.texts

pub shape_of-features : goal.shape_of-features
shape_of-features c = omega (arith, c.loop-i.invariant.long.features)

pub shape_of-ki : goal.shape_of-ki
shape_of-ki c = c.loop-i.invariant.kept.keys_long

pub shape_of-vi : goal.shape_of-vi
shape_of-vi c = c.loop-i.invariant.kept.values_long

pub returns : goal.returns
returns c =
    let g = c.args in
    put_left g.s g.f g.words.now g.tags.now g.bytes.now g.keys.now g.values.now g.texts.now g.features.now (idx g.ki.now g.vi.now) c.requires _ _ c.mark_of-mark.ensures c.id_of-id.ensures _ c.lay_record.ensures _ _ _ (ends _ _ _ _ _ _ _ _ _ _ c.loop-i.invariant (omega (arith, c.loop-i-test)))
