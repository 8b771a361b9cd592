-- A sign, where there is one, and the digits behind it.
use mir.Syntax.{w64}
use Rattle.whole.proofs.Machine.{Back, back, lt_yes, lt_no}
use Rattle.printed.proofs.Signs.{minus_laid, plus_laid}
use Rattle.printed.proofs.append_signed.Goals as goal
use Rattle.printed.proofs.append_signed.Tie as tie
use Rattle.printed.proofs.append_signed.Reads as contract
use Rattle.printed.proofs.append_signed.Lts as places

-- the places on the way that the lemmas below speak of
abbrev Start : Type 0
Start = places.Start tie.the-claims contract.Pre contract.Post

value : (s : Start) → Back w64 s.args.n
value s = back {w = w64} s.ranges.n

pub returns-then-n-lt0 : goal.returns-then-n-lt0
returns-then-n-lt0 c =
    minus_laid c.args.end c.args.at c.magnitude-size.result c.args.text.now _ _ _ (simp value at c.magnitude-size.ensures) (lt_yes (simp value at c.if-n-lt0.true)) c.requires c.append.ensures c.append_number.ensures

pub returns : goal.returns
returns c =
    plus_laid c.args.end c.args.at c.magnitude-size.result c.args.text.now c.args.text.now _ _ (simp value at c.magnitude-size.ensures) (lt_no (simp value at c.if-n-lt0.false)) c.append_number-2.ensures
