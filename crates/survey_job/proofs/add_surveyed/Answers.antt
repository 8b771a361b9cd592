-- The grid point goes to the encoder's own call.
use mathlib.Core.Path.{◌≡◌, subst}
use lib.IntN.{ℤ}
use mir.Syntax.{w32}
use mir.Val.{to_z, of_z}
use mathlib.Core.List.{List}
use Prim.Native.Nat.{ℕ}
use Rattle.promise.specs.Answers.{Gives}
use Rattle.clip.specs.declared.Pt.{Pt}
use Rattle.encoder.specs.declared.GeomEncoder.{GeomEncoder}
use Rattle.encoder.specs.declared.Edges.{Edges}
use Rattle.refusal.specs.declared.Refused.{Refused}
use Rattle.std.specs.Prelude.{Result}
use Rattle.encoder.specs.Answers.{said_drawn, edges_of, passed}
use Rattle.encoder.specs.Adding.{point_at, added, edges}
use Rattle.whole.proofs.Machine.{back}
use borrow.Author.Rules.{rules}
use Rattle.survey_job.proofs.add_surveyed.Goals as goal
use Rattle.survey_job.proofs.add_surveyed.Tie as tie
use Rattle.survey_job.proofs.add_surveyed.Reads as contract
use Rattle.survey_job.proofs.add_surveyed.Lts as places

-- the places on the way that the lemmas below speak of
abbrev After-struct_told-2-1 : Type 0
After-struct_told-2-1 = places.After-struct_told2 tie.the-claims contract.Pre contract.Post tie.handed_clauses

-- the two coordinates, read back from their bits
x_back : (c : After-struct_told-2-1) → to_z w32 (of_z w32 c.grid_point-p.result.x) ≡ c.grid_point-p.result.x
x_back c = back {w = w32} (search rules)

y_back : (c : After-struct_told-2-1) → to_z w32 (of_z w32 c.grid_point-p.result.y) ≡ c.grid_point-p.result.y
y_back c = back {w = w32} (search rules)

-- what a call says of a point, it says of the same point
same : (s : GeomEncoder) (p q : Pt) → p ≡ q → (x y : ℤ) → x ≡ p.x → y ≡ p.y → (out : List ℕ) (r : Result (GeomEncoder × Edges) (Refused GeomEncoder)) (o : List ℕ) →
    Gives (added s (point_at x y) out) (said_drawn r) o × (edges_of r ≡ passed (added s (point_at x y) out).answer (edges s (point_at x y))) →
    Gives (added s q out) (said_drawn r) o × (edges_of r ≡ passed (added s q out).answer (edges s q))
same s p q e x y i j out r o g =
    subst (λ (z : Pt). Gives (added s z out) (said_drawn r) o × (edges_of r ≡ passed (added s z out).answer (edges s z))) e
    (subst (λ (z : ℤ). Gives (added s (point_at p.x z) out) (said_drawn r) o × (edges_of r ≡ passed (added s (point_at p.x z) out).answer (edges s (point_at p.x z)))) j
    (subst (λ (z : ℤ). Gives (added s (point_at z y) out) (said_drawn r) o × (edges_of r ≡ passed (added s (point_at z y) out).answer (edges s (point_at z y)))) i g))

pub returns : goal.returns
returns c = let whole = same _ c.grid_point-p.result _ c.grid_point-p.ensures _ _ (x_back c.before.before.before.before) (y_back c.before.before.before.before) _ c.add_point.result _ (c.add_point.ensures.answer, c.add_point.ensures.edges) in record { answer = whole.0; edges = whole.1 }
