-- Where they are built nothing is done; else the used parts lie within the lists, and both are built.
use lib.Seq.{length-take-le}
use mathlib.Core.Path.{sym}
use Rattle.layer.proofs.Building.{both_built, built_before}
use Rattle.layer.proofs.indexes.build_index.Goals as goal

pub returns-then-built : goal.returns-then-built
returns-then-built c =
    let g = c.args in
    built_before g.u g.room g.keys.now g.values.now g.texts.now g.ki.now g.vi.now g.built c.if-built.true

pub slice_bounds-index_keys-end : goal.slice_bounds-index_keys-end
slice_bounds-index_keys-end c = sym (length-take-le _ _ c.requires.in_keys)

pub slice_bounds-index_keys-end-2 : goal.slice_bounds-index_keys-end-2
slice_bounds-index_keys-end-2 c = sym (length-take-le _ _ c.requires.in_texts)

pub slice_bounds-index_values-end : goal.slice_bounds-index_values-end
slice_bounds-index_values-end c = sym (length-take-le _ _ c.requires.in_values)

pub slice_bounds-index_values-end-2 : goal.slice_bounds-index_values-end-2
slice_bounds-index_values-end-2 c = sym (length-take-le _ _ c.requires.in_texts)

pub returns : goal.returns
returns c =
    let g = c.args in
    both_built g.u g.room g.keys.now g.values.now g.texts.now g.ki.now g.vi.now g.built c.if-built.false _ _ c.index_keys.ensures c.index_values.ensures
