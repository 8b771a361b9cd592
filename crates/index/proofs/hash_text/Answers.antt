use Rattle.std.proofs.Common.{rules}
use Rattle.index.proofs.Hashing.{start, further, ends}
use Rattle.index.proofs.hash_text.Goals as goal

pub loop-b-init : goal.loop-b-init
loop-b-init c = start _

pub loop-b-preserved : goal.loop-b-preserved
loop-b-preserved c = search (rules, further)

pub returns : goal.returns
returns c = search (rules, ends)
