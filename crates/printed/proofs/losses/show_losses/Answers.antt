-- The five lines are laid one behind the other; with fewer bytes than they may take nothing is.
use Prim.Native.Nat.{◌≤◌}
use native.Mathlib.Omega.{arith}
use Rattle.printed.specs.Losses.{taken_head, boundary_head, skipped_head, out_head, losses_room, losses_text}
use Rattle.printed.proofs.Columns.{not_shown}
use Rattle.printed.proofs.Lines.{line_short, losses_shown}
use Rattle.printed.proofs.losses.show_losses.Goals as goal
use Rattle.printed.proofs.losses.show_losses.Tie as tie
use Rattle.printed.proofs.losses.show_losses.Reads as contract
use Rattle.printed.proofs.losses.show_losses.Lts as places

-- the places on the way that the lemmas below speak of
abbrev After-append_line-one : Type 0
After-append_line-one = places.After-append_line tie.the-claims contract.Pre contract.Post

abbrev After-append_line-two : Type 0
After-append_line-two = places.After-append_line2 tie.the-claims contract.Pre contract.Post

abbrev After-append_line-three : Type 0
After-append_line-three = places.After-append_line3 tie.the-claims contract.Pre contract.Post

abbrev After-append_line-four : Type 0
After-append_line-four = places.After-append_line4 tie.the-claims contract.Pre contract.Post

-- where each line ends at the latest
one_ends : (c : After-append_line-one) → c.append_line-one.result ≤ 27
one_ends c = omega (arith, c.append_line-one.ensures.answer, line_short taken_head c.args.taken)

two_ends : (c : After-append_line-two) → c.append_line-two.result ≤ 57
two_ends c = omega (arith, one_ends c.before.before.before.before.before.before, c.append_line-two.ensures.answer, line_short boundary_head c.args.boundary)

three_ends : (c : After-append_line-three) → c.append_line-three.result ≤ 86
three_ends c = omega (arith, two_ends c.before.before.before.before.before.before, c.append_line-three.ensures.answer, line_short skipped_head c.args.skipped)

four_ends : (c : After-append_line-four) → c.append_line-four.result ≤ 117
four_ends c = omega (arith, three_ends c.before.before.before.before.before.before, c.append_line-four.ensures.answer, line_short out_head c.args.out)

pub returns-then-text-lt-LOSSES : goal.returns-then-text-lt-LOSSES
returns-then-text-lt-LOSSES c = let a = c.args in not_shown losses_room (losses_text a.taken a.boundary a.skipped a.out a.vertices) a.text.now (omega arith)

pub append_line-two-requires : goal.append_line-two-requires
append_line-two-requires c = omega (arith, one_ends c.before.before.before.before.before)

pub append_line-three-requires : goal.append_line-three-requires
append_line-three-requires c = omega (arith, two_ends c.before.before.before.before.before)

pub append_line-four-requires : goal.append_line-four-requires
append_line-four-requires c = omega (arith, three_ends c.before.before.before.before.before)

pub append_line-requires : goal.append_line-requires
append_line-requires c = omega (arith, four_ends c.before.before.before.before.before)

pub returns : goal.returns
returns c =
    let a = c.args in
    losses_shown a.taken a.boundary a.skipped a.out a.vertices a.text.now _ _ _ _ _ _ _ _ _ _ (omega arith)
    c.append_line-one.ensures c.append_line-two.ensures c.append_line-three.ensures c.append_line-four.ensures c.append_line.ensures
