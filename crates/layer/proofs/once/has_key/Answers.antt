-- Some two words are those of a tag of this key.
use Rattle.std.proofs.Common.{rules, tests, ◌∙◌}
use Rattle.std.proofs.lemmas.Iterator.{YieldsList-from_slice}
use Rattle.std.proofs.lemmas.Iterator.Search.{any_from_yields_List}
use Rattle.layer.proofs.Chunks.{has_in, has_any}
use Rattle.layer.proofs.once.has_key.Goals as goal

pub returns : goal.returns
returns c =
    any_from_yields_List (has_in c.args.keys.now c.args.texts.now c.args.key.now) _ _ _ c.any.ensures.ran (YieldsList-from_slice _ c.iter.ensures.rest) (λ x b q k. search (rules, tests))
    ∙ rw c.as_chunks.ensures.front (has_any c.args.keys.now c.args.texts.now c.args.tags.now c.args.key.now)
