-- The two pieces of a refusal are laid one behind the other.
use Rattle.printed.proofs.Rows.{ok_laid, refused_laid}
use borrow.Author.Rules.{rules}
use Rattle.printed.proofs.append_outcome.Goals as goal

pub returns-then-n-eq0 : goal.returns-then-n-eq0
returns-then-n-eq0 c = ok_laid c.args.n c.args.at c.args.text.now _ (search rules) c.append.ensures

pub returns : goal.returns
returns c = refused_laid c.args.n c.args.at c.args.text.now _ c.if-n-eq0.false c.requires c.append-2.ensures _ _ (rw c.long.ensures.same at c.append_number.ensures)
