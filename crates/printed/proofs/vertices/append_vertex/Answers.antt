-- The three numbers are laid one behind the other.
use native.Mathlib.Omega.{arith}
use mir.Syntax.{w32, w64}
use Rattle.whole.proofs.Machine.{back}
use Rattle.printed.specs.Printed.{space}
use Rattle.printed.proofs.Signs.{signed_short}
use Rattle.printed.proofs.Triples.{vertex_laid}
use Rattle.printed.proofs.vertices.append_vertex.Goals as goal

pub append_signed-two-requires : goal.append_signed-two-requires
append_signed-two-requires c =
    omega
    (arith, (rw (back {w = w64} (record { sfits = c.signed_long.type_inv })) at c.append_signed-one.ensures).answer, signed_short c.signed_long.result space)

pub append_signed-requires : goal.append_signed-requires
append_signed-requires c =
    omega (
      arith,
      (rw (back {w = w64} (record { sfits = c.signed_long.type_inv })) at c.append_signed-one.ensures).answer,
      signed_short c.signed_long.result space,
      (rw (back {w = w64} (record { sfits = c.signed_long-2.type_inv })) at c.append_signed-two.ensures).answer,
      signed_short c.signed_long-2.result space,
    )

pub returns : goal.returns
returns c =
    vertex_laid c.args.id c.args.x c.args.y _ _ _ c.args.at _ _ _ c.args.text.now _ _ _
    (rw (back {w = w32} c.ranges.id) at c.signed_long.ensures) (rw (back {w = w32} c.ranges.x) at c.signed_long-2.ensures)
    (rw (back {w = w32} c.ranges.y) at c.signed_long-3.ensures) c.requires
    (rw (back {w = w64} (record { sfits = c.signed_long.type_inv })) at c.append_signed-one.ensures)
    (rw (back {w = w64} (record { sfits = c.signed_long-2.type_inv })) at c.append_signed-two.ensures)
    (rw (back {w = w64} (record { sfits = c.signed_long-3.type_inv })) at c.append_signed.ensures)
