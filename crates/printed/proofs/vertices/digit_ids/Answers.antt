use Prim.Native.Nat.{◌-◌, ◌*◌}
use mathlib.Core.Path.{◌≡◌}
use native.Mathlib.Omega.{arith}
use lib.IntN.{pos}
use lib.ListN.{get_or}
use mir.Syntax.{w32}
use Rattle.whole.proofs.Machine.{Back, back}
use Rattle.printed.specs.Vertices.{is_digit}
use Rattle.printed.proofs.Triples.{digits_start, digits_turn, digits_not, digits_done}
use Rattle.printed.proofs.vertices.digit_ids.Goals as goal
use Rattle.printed.proofs.vertices.digit_ids.Tie as tie
use Rattle.printed.proofs.vertices.digit_ids.Reads as contract
use Rattle.printed.proofs.vertices.digit_ids.Lts as places

-- the places on the way that the lemmas below speak of
abbrev After-is_digit : Type 0
After-is_digit = places.After-is_digit tie.the-claims contract.Pre contract.Post goal.the-invariant-loop-i goal.the-decreases-loop-i

answered : (c : After-is_digit) → c.is_digit.result ≡ is_digit (get_or c.args.numbers.now (3 * c.loop-i.i) (pos 0))
answered c = let b : Back w32 (get_or c.args.numbers.now (3 * c.loop-i.i) (pos 0)) = back {w = w32} (record { sfits = c.is_digit-arg-1.given }) in rw b at c.is_digit.ensures

pub loop-i-init : goal.loop-i-init
loop-i-init c = digits_start _

pub returns-then-not-is_digit : goal.returns-then-not-is_digit
returns-then-not-is_digit c = digits_not c.loop-i.invariant (omega arith) _ (answered c.before) c.if-not-is_digit.true-raw

pub loop-i-preserved : goal.loop-i-preserved
loop-i-preserved c = digits_turn c.loop-i.invariant (omega arith) _ (answered c.before) c.if-not-is_digit.false-raw

pub returns : goal.returns
returns c = digits_done c.loop-i.invariant (omega arith)
