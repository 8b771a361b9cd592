-- STATE is asked, and lists of one word are lent for the indexes, which are not used.
use Rattle.layer.specs.Held.{mem, seen}
use Rattle.layer.specs.Whole.{add_feature}
use Rattle.layer.proofs.Welcoming.{known_none, one_answer}
use Rattle.layer.proofs.whole_feature.add_feature.Goals as goal

pub add_known-requires : goal.add_known-requires
add_known-requires c =
    let g = c.args in
    known_none g.s _ (mem g.keys.now g.values.now g.texts.now g.features.now) c.is_valid-stands.ensures

pub returns : goal.returns
returns c =
    let g = c.args in
    let m = mem g.keys.now g.values.now g.texts.now g.features.now in
    one_answer (add_feature g.f g.words.now g.tags.now g.bytes.now (seen g.s m)) g.s c.add_known.result m _ _ _ c.add_known.ensures
