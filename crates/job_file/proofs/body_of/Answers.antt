-- The tests are the definition's.
use native.Mathlib.Omega.{arith}
use Rattle.promise.proofs.Cases.{tests}
use Rattle.job_file.specs.JobFile.{body_of}
use Rattle.job_file.proofs.Taking.{no_body, some_body}
use borrow.Author.Rules.{rules}
use Rattle.job_file.proofs.body_of.Goals as goal

pub returns-then-end : goal.returns-then-end
unfolding body_of
returns-then-end c = search (rules, tests)

pub returns-then-end-lt6 : goal.returns-then-end-lt6
unfolding body_of
returns-then-end-lt6 c = search (rules, tests)

pub returns-then-end-parts : goal.returns-then-end-parts
returns-then-end-parts c =
    no_body c.args.file.now (omega arith) (omega arith) _ c.wide-parts.ensures.same (omega arith)

pub returns : goal.returns
returns c =
    some_body c.args.file.now (omega arith) (omega arith) _ c.wide-parts.ensures.same (omega arith)
