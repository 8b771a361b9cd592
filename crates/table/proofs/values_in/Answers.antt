-- All entries, and no word behind them.
use Rattle.std.proofs.Common.{rules, tests, ◌∙◌, sym, length, arith}
use borrow.Author.Tests.{eqb-true, eqb-false}
use Rattle.std.proofs.lemmas.Iterator.{YieldsList-from_slice}
use Rattle.std.proofs.lemmas.Iterator.Search.{all_from_yields_List}
use Rattle.table.proofs.Entries.{value_in, values_all, values_odd}
use Rattle.table.proofs.values_in.Goals as goal

pub returns-then-is_empty : goal.returns-then-is_empty
returns-then-is_empty c =
    all_from_yields_List (value_in c.args.bytes) _ _ _ c.all.ensures.ran (YieldsList-from_slice _ c.iter.ensures.rest) (λ x b q k. search (rules, tests))
    ∙ rw c.as_chunks.ensures.front (values_all c.args.bytes c.args.values.now (omega (arith, eqb-true (length c.as_chunks.result.1.now) 0 (sym c.is_empty.ensures ∙ c.if-is_empty.true), c.as_chunks.ensures.back_len)))

pub returns-else-is_empty : goal.returns-else-is_empty
returns-else-is_empty c = c.if-is_empty.false ∙ values_odd c.args.bytes c.args.values.now (omega (arith, eqb-false (length c.as_chunks.result.1.now) 0 (sym c.is_empty.ensures ∙ c.if-is_empty.false), c.as_chunks.ensures.back_len))
