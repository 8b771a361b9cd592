-- Some tag of the list is one of this key.
use Rattle.std.proofs.Common.{rules, tests, ◌∙◌}
use Rattle.std.proofs.lemmas.Iterator.{YieldsList-from_slice}
use Rattle.std.proofs.lemmas.Iterator.Search.{any_from_yields_List}
use Rattle.layer.proofs.Chunks.{key_in, key_any}
use Rattle.layer.proofs.need.key_given.Goals as goal

pub returns : goal.returns
returns c =
    any_from_yields_List (key_in c.args.bytes.now c.args.key.now) _ _ _ c.any.ensures.ran (YieldsList-from_slice _ c.iter.ensures.rest) (λ x b q k. search (rules, tests))
    ∙ rw c.as_chunks.ensures.front (key_any c.args.bytes.now c.args.tags.now c.args.key.now)
