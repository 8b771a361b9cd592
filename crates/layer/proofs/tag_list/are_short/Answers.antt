-- All tags of the list are short.
use Rattle.std.proofs.Common.{rules, tests, ◌∙◌}
use Rattle.std.proofs.lemmas.Iterator.{YieldsList-from_slice}
use Rattle.std.proofs.lemmas.Iterator.Search.{all_from_yields_List}
use Rattle.layer.proofs.Chunks.{short_in, short_all}
use Rattle.layer.proofs.tag_list.are_short.Goals as goal

pub returns : goal.returns
returns c =
    all_from_yields_List short_in _ _ _ c.all.ensures.ran (YieldsList-from_slice _ c.iter.ensures.rest) (λ x b q k. search (rules, tests))
    ∙ rw c.as_chunks.ensures.front (short_all c.args.tags.now)
