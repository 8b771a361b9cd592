-- The refusals are the chain's; else three words of the open record are laid anew, and they are there.
use native.Mathlib.Omega.{arith}
use Rattle.layer.proofs.Chains.{chain}
use Rattle.layer.proofs.Closing.{fitting, id_there, id_set}
use borrow.Author.Rules.{rules}
use Rattle.layer.proofs.feature.set_id.Goals as goal

pub returns-then-not-is_valid : goal.returns-then-not-is_valid
returns-then-not-is_valid c = search (rules, chain)

pub returns-in_default : goal.returns-in_default
returns-in_default c = search (rules, chain)

pub overflow_add-o : goal.overflow_add-o
overflow_add-o c =
    let g = c.args in
    let l = c.if-not-is_valid.false-raw in
    let o = c.in-Some.is in
    omega (arith, fitting g.s g.keys.now g.values.now g.texts.now g.features.now _ c.is_valid.ensures l _ o, id_there g.s g.keys.now g.values.now g.texts.now g.features.now _ c.is_valid.ensures l _ o)

pub returns : goal.returns
returns c = search (rules, id_set)
