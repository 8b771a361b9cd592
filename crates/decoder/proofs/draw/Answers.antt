-- Both sums are where the pair leads, and the test is the definition's.
use borrow.Author.Rules.{rules}
use Rattle.decoder.proofs.Steps.{leads_out, leads_in, x_fits, y_fits, leads_behind}
use Rattle.decoder.proofs.Nexts.{draw_out, draw_done}
use Rattle.decoder.proofs.draw.Goals as goal

pub returns-then-not-is_inside : goal.returns-then-not-is_inside
returns-then-not-is_inside c = search (rules, draw_out, leads_out)

pub returns : goal.returns
returns c = search (rules, draw_done, leads_in, leads_behind)
