-- The five numbers are laid one behind the other, each behind its name, and then the line's end; with fewer bytes than they may take nothing is.
use Prim.Native.Nat.{◌≤◌}
use native.Mathlib.Omega.{arith}
use Rattle.printed.proofs.Columns.{not_shown}
use Rattle.opened.specs.Opened.{version_head, extent_head, keys_head, values_head, features_head, layer_end_text, layer_end_room}
use Rattle.opened.proofs.Spelling.{named_short}
use Rattle.opened.proofs.Lines.{layer_end_shown}
use Rattle.opened.proofs.show_layer_end.Goals as goal
use Rattle.opened.proofs.show_layer_end.Tie as tie
use Rattle.opened.proofs.show_layer_end.Reads as contract
use Rattle.opened.proofs.show_layer_end.Lts as places

-- the places on the way that the lemmas below speak of
abbrev After-append_named-one : Type 0
After-append_named-one = places.After-append_named tie.the-claims contract.Pre contract.Post

abbrev After-append_named-two : Type 0
After-append_named-two = places.After-append_named2 tie.the-claims contract.Pre contract.Post

abbrev After-append_named-three : Type 0
After-append_named-three = places.After-append_named3 tie.the-claims contract.Pre contract.Post

abbrev After-append_named-four : Type 0
After-append_named-four = places.After-append_named4 tie.the-claims contract.Pre contract.Post

abbrev After-append_named-five : Type 0
After-append_named-five = places.After-append_named5 tie.the-claims contract.Pre contract.Post

-- where each number ends at the latest
one_ends : (c : After-append_named-one) → c.append_named-one.result ≤ 29
one_ends c = omega (arith, c.append_named-one.ensures.answer, named_short version_head c.args.version)

two_ends : (c : After-append_named-two) → c.append_named-two.result ≤ 57
two_ends c = omega (arith, one_ends c.before.before.before.before.before.before, c.append_named-two.ensures.answer, named_short extent_head c.args.extent)

three_ends : (c : After-append_named-three) → c.append_named-three.result ≤ 83
three_ends c = omega (arith, two_ends c.before.before.before.before.before.before, c.append_named-three.ensures.answer, named_short keys_head c.args.keys)

four_ends : (c : After-append_named-four) → c.append_named-four.result ≤ 111
four_ends c = omega (arith, three_ends c.before.before.before.before.before.before, c.append_named-four.ensures.answer, named_short values_head c.args.values)

five_ends : (c : After-append_named-five) → c.append_named-five.result ≤ 141
five_ends c =
    omega (arith, four_ends c.before.before.before.before.before.before, c.append_named-five.ensures.answer, named_short features_head c.args.features)

pub returns-then-text-lt-LAYER_END : goal.returns-then-text-lt-LAYER_END
returns-then-text-lt-LAYER_END c =
    let a = c.args in
    not_shown layer_end_room (layer_end_text a.version a.extent a.keys a.values a.features) a.text.now (omega arith)

pub append_named-two-requires : goal.append_named-two-requires
append_named-two-requires c = omega (arith, one_ends c.before.before.before.before.before)

pub append_named-three-requires : goal.append_named-three-requires
append_named-three-requires c = omega (arith, two_ends c.before.before.before.before.before)

pub append_named-four-requires : goal.append_named-four-requires
append_named-four-requires c = omega (arith, three_ends c.before.before.before.before.before)

pub append_named-five-requires : goal.append_named-five-requires
append_named-five-requires c = omega (arith, four_ends c.before.before.before.before.before)

pub append-requires : goal.append-requires
append-requires c = omega (arith, five_ends c.before.before.before.before.before)

pub returns : goal.returns
returns c =
    let a = c.args in
    layer_end_shown a.version a.extent a.keys a.values a.features a.text.now (omega (arith, c.if-text-lt-LAYER_END.false))
    c.append_named-one.ensures c.append_named-two.ensures c.append_named-three.ensures c.append_named-four.ensures c.append_named-five.ensures
    c.append.ensures
