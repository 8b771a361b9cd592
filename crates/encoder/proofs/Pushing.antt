-- Laws of taking a point out: what it asks, and that a state stays ready.
use mathlib.Core.Path.{◌≡◌}
use mathlib.Core.Bool.{true, ◌&&◌}
use Prim.Native.Nat.{ℕ, ◌≤◌}
use native.Mathlib.Omega.{arith}
use borrow.Author.Tests.{leb-true}
use lib.Dec.{leb, eqb}
use Rattle.clip.specs.declared.Pt.{Pt}
use Rattle.encoder.specs.declared.GeomEncoder.{GeomEncoder}
use Rattle.encoder.specs.Points.{last_between}
use Rattle.encoder.specs.Emitting.{taken_out, popped}
use Rattle.encoder.specs.Planning.{Ready}
use Rattle.promise.proofs.Joined.{both}

pub out_count : (s : GeomEncoder) (p : Pt) → taken_out s p ≡ true → 2 ≤ s.count
out_count s p e =
    let (h, k) = both (eqb s.kind 3 && leb 2 s.count) (last_between s.pt0 s.pt1 p) e in
    let (i, j) = both (eqb s.kind 3) (leb 2 s.count) h in
    leb-true 2 s.count j

module _ {n : ℕ} {s : GeomEncoder} (R : Ready n s) (h : 2 ≤ s.count) where
  pub out_used : 2 ≤ s.used
  out_used = omega (arith, R.counted)

  pub popped_ready : Ready n (popped s)
  popped_ready = record { few = omega (arith, R.few); counted = omega (arith, R.counted, out_used); good = R.good; at0 = R.at0; at1 = R.at0 }
