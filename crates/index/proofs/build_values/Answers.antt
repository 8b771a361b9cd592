use native.Mathlib.Omega.{arith}
use Rattle.index.specs.Entries.{value_hash}
use Rattle.index.proofs.Pushing.{build_start, build_turn, build_done}
use Rattle.index.proofs.build_values.Goals as goal

pub loop-j-init : goal.loop-j-init
loop-j-init c = build_start _ _ _

pub loop-j-preserved : goal.loop-j-preserved
loop-j-preserved c = let g = c.args in
    build_turn _ _ (value_hash g.values.now g.texts.now) _ _ c.loop-j.invariant (omega arith) _ c.hash_stored-h.ensures _ c.push.ensures

pub returns : goal.returns
returns c = let g = c.args in
    build_done _ _ (value_hash g.values.now g.texts.now) _ _ c.loop-j.invariant (omega arith) g.index.now c.clear.ensures
