-- Two stores side by side are a run of two laid.
use Rattle.encoder.proofs.Marks.{steps_laid}
use borrow.Author.Rules.{rules}
use Rattle.encoder.proofs.pen.write_steps.Goals as goal

pub returns : goal.returns
returns c = search (rules, steps_laid)
