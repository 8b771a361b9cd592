-- Each edge is the signed number of its place.
use mir.Syntax.{w32}
use mathlib.Core.Path.{◌∙◌}
use mir.Facts.{to_z-of_z}
use Rattle.job_file.proofs.box_of.Goals as goal

pub returns : goal.returns
returns c =
    let e1 = to_z-of_z {w = w32} (record { sfits = c.signed32.type_inv }) ∙ c.signed32.ensures in
    let e2 = to_z-of_z {w = w32} (record { sfits = c.signed32-2.type_inv }) ∙ c.signed32-2.ensures in
    let e3 = to_z-of_z {w = w32} (record { sfits = c.signed32-3.type_inv }) ∙ c.signed32-3.ensures in
    let e4 = to_z-of_z {w = w32} (record { sfits = c.signed32-4.type_inv }) ∙ c.signed32-4.ensures in
    λ i. record { x_min = e1 i; x_max = e2 i; y_min = e3 i; y_max = e4 i }
