-- The number is laid behind its name.
use Rattle.printed.proofs.Lines.{line_laid}
use Rattle.printed.proofs.losses.append_line.Goals as goal

pub returns : goal.returns
returns c =
    line_laid c.args.name.now c.args.n c.args.at _ c.args.text.now _ _ c.requires c.append.ensures c.append_number.ensures
