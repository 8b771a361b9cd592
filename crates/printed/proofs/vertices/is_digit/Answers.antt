-- Below zero there is no digit; else the test is the definition's.
use mir.Syntax.{w32}
use Rattle.whole.proofs.Machine.{Back, back, lt_yes, lt_no}
use Rattle.printed.proofs.Triples.{below_digit, else_digit}
use Rattle.printed.proofs.vertices.is_digit.Goals as goal
use Rattle.printed.proofs.vertices.is_digit.Reads as contract
use Rattle.printed.proofs.vertices.is_digit.Lts as places

-- the places on the way that the lemmas below speak of
abbrev Start : Type 0
Start = places.Start contract.Pre contract.Post

value : (s : Start) → Back w32 s.args.id
value s = back {w = w32} s.ranges.id

pub returns-then-id-lt0 : goal.returns-then-id-lt0
returns-then-id-lt0 c = below_digit c.args.id (lt_yes (simp value at c.if-id-lt0.true))

pub returns : goal.returns
returns c = simp value (else_digit c.args.id (lt_no (simp value at c.if-id-lt0.false)))
