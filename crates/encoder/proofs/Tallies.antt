-- Laws of the counts: four that fit, as facts and back.
use mathlib.Core.Path.{◌≡◌}
use mathlib.Core.Bool.{true, ◌&&◌}
use Prim.Native.Nat.{◌≤◌}
use borrow.Author.Tests.{le-leb, leb-true}
use lib.Dec.{leb}
use Rattle.promise.proofs.Joined.{both}
use Rattle.encoder.specs.declared.tally.Tally.{Tally}
use Rattle.encoder.specs.Tallies.{max_tally, counts_fit}

pub record Counts (t : Tally) : Type 0 where
  pub taken : t.taken ≤ max_tally
  pub bounds : t.boundary ≤ max_tally
  pub skips : t.skipped ≤ max_tally
  pub outs : t.taken_out ≤ max_tally

pub counts_facts : (t : Tally) → counts_fit t ≡ true → Counts t
counts_facts t e =
    let a = leb t.taken max_tally in
    let b = leb t.boundary max_tally in
    let c = leb t.skipped max_tally in
    let (f, outs) = both (a && b && c) (leb t.taken_out max_tally) e in
    let (g, skips) = both (a && b) c f in
    let (taken, bounds) = both a b g in
    record {
      taken = leb-true t.taken max_tally taken;
      bounds = leb-true t.boundary max_tally bounds;
      skips = leb-true t.skipped max_tally skips;
      outs = leb-true t.taken_out max_tally outs;
    }

pub counts_fit_lem : (t : Tally) → Counts t → counts_fit t ≡ true
counts_fit_lem t k = rw (le-leb t.taken max_tally k.taken, le-leb t.boundary max_tally k.bounds, le-leb t.skipped max_tally k.skips, le-leb t.taken_out max_tally k.outs)
