-- The position among the entries, which `find_key` counts along the words.
use Rattle.std.proofs.Common.{rules, tests, ◌∙◌}
use Rattle.std.proofs.lemmas.Iterator.{YieldsList-from_slice}
use Rattle.std.proofs.lemmas.Iterator.Search.{position_from_yields_List}
use Rattle.std.proofs.lemmas.Iterator.Adapters.{position_from-zero}
use Rattle.table.proofs.Entries.{key_is, keys_found}
use Rattle.table.proofs.key_pos.Goals as goal

pub returns : goal.returns
returns c =
    position_from_yields_List (key_is c.args.texts.now c.args.key.now) _ _ _ c.position.ensures.ran (YieldsList-from_slice _ c.iter.ensures.rest) (λ x b q k. search (rules, tests))
    ∙ position_from-zero (key_is c.args.texts.now c.args.key.now) c.as_chunks.result.0.now
    ∙ rw c.as_chunks.ensures.front (keys_found 0 c.args.keys.now c.args.texts.now c.args.key.now)
