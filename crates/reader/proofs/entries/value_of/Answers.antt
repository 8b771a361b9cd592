-- Kind, text and bits, each as its call says.
use borrow.Author.Rules.{rules}
use Rattle.reader.proofs.Lowest.{head_kept}
use Rattle.reader.proofs.entries.value_of.Goals as goal

pub returns : goal.returns
returns c = search (rules, head_kept)
