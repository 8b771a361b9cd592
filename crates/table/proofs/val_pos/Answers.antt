-- The position among the entries, which `find_value` counts along the words.
use Rattle.std.proofs.Common.{rules, tests, ◌∙◌}
use Rattle.std.proofs.lemmas.Iterator.{YieldsList-from_slice}
use Rattle.std.proofs.lemmas.Iterator.Search.{position_from_yields_List}
use Rattle.std.proofs.lemmas.Iterator.Adapters.{position_from-zero}
use Rattle.table.proofs.Entries.{value_is, values_found}
use Rattle.table.proofs.val_pos.Goals as goal

pub returns : goal.returns
returns c =
    position_from_yields_List (value_is c.args.texts.now c.args.v c.args.text.now) _ _ _ c.position.ensures.ran (YieldsList-from_slice _ c.iter.ensures.rest) (λ x b q k. search (rules, tests))
    ∙ position_from-zero (value_is c.args.texts.now c.args.v c.args.text.now) c.as_chunks.result.0.now
    ∙ rw c.as_chunks.ensures.front (values_found 0 c.args.values.now c.args.texts.now c.args.v c.args.text.now)
