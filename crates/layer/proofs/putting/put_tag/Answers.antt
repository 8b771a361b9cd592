-- The three steps one after the other: the value's text starts behind the key's.
use Prim.Native.Nat.{ℕ, ◌+◌}
use mathlib.Core.Path.{ap}
use Rattle.layer.proofs.Entries.{index_is}
use Rattle.layer.proofs.Entering.{pair_room, tag_put_lem}
use borrow.Author.Rules.{rules}
use Rattle.layer.proofs.putting.put_tag.Goals as goal

pub put_pair-requires : goal.put_pair-requires
put_pair-requires c = search (rules, pair_room, index_is)

pub returns : goal.returns
returns c =
    let g = c.args in
    tag_put_lem g.u g.o g.kf g.vf g.key.now g.v g.text.now g.keys.now g.values.now g.texts.now g.features.now c.requires _ (ap (λ (n : ℕ). g.u.texts + n) c.more_of.ensures.same) _ _ c.put_key.ensures _ _ _ c.put_value.ensures _ _ (index_is g.kf g.u.keys _ c.unwrap_or-ki.ensures) (index_is g.vf g.u.values _ c.unwrap_or-vi.ensures) c.put_pair.ensures
