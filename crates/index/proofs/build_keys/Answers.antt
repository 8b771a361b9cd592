use native.Mathlib.Omega.{arith}
use Rattle.index.specs.Entries.{key_hash}
use Rattle.index.proofs.Pushing.{build_start, build_turn, build_done}
use Rattle.index.proofs.Hashing.{key_hashed}
use Rattle.index.proofs.build_keys.Goals as goal

pub loop-j-init : goal.loop-j-init
loop-j-init c = build_start _ _ _

pub loop-j-preserved : goal.loop-j-preserved
loop-j-preserved c = let g = c.args in
    build_turn _ _ (key_hash g.keys.now g.texts.now) _ _ c.loop-j.invariant (omega arith) _ (key_hashed g.keys.now g.texts.now c.loop-j.j _ _ c.wide-start.ensures c.wide-len.ensures _ c.hash_part-h.ensures) _ c.push.ensures

pub returns : goal.returns
returns c = let g = c.args in
    build_done _ _ (key_hash g.keys.now g.texts.now) _ _ c.loop-j.invariant (omega arith) g.index.now c.clear.ensures
