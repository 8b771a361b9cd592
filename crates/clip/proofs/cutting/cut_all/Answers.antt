-- `clip::cutting::cut_all` meets its contract: the four cuts are the definition's, each cut leaves the ends within the limit for the next, and the overlap test of the definition changes no answer.
use borrow.Author.Rules.{rules}
use mathlib.Core.Path.{◌≡◌}
use mir.Syntax.{w32}
use Rattle.whole.proofs.Machine.{Back, back}
use Rattle.clip.specs.declared.Seg.{Seg}
use Rattle.clip.specs.declared.BBox.{BBox}
use Rattle.clip.specs.declared.Edge.TheVariants.{XMin, XMax, YMin, YMax}
use Rattle.clip.specs.Cutting.{given}
use Rattle.clip.specs.Numbers.{cornered}
use Rattle.clip.proofs.Ends.{swap_box}
use Rattle.clip.proofs.Cuts.{Coords, cut_low, cut_high, swap_good, swapped_coords, low_coords, high_coords, four_cuts}
use Rattle.clip.proofs.cutting.cut_all.Goals as goal
use Rattle.clip.proofs.cutting.cut_all.Tie as tie
use Rattle.clip.proofs.cutting.cut_all.Reads as contract
use Rattle.clip.proofs.cutting.cut_all.Lts as places

-- the places on the way that the lemmas below speak of
abbrev Start : Type 0
Start = places.Start tie.the-claims contract.Pre contract.Post tie.handed_clauses

abbrev After-cut_low-c1 : Type 0
After-cut_low-c1 = places.After-cut_low tie.the-claims contract.Pre contract.Post tie.handed_clauses

abbrev After-cut_high-c2 : Type 0
After-cut_high-c2 = places.After-cut_high tie.the-claims contract.Pre contract.Post tie.handed_clauses

abbrev After-swap : Type 0
After-swap = places.After-swap tie.the-claims contract.Pre contract.Post tie.handed_clauses

abbrev After-cut_low-c3 : Type 0
After-cut_low-c3 = places.After-cut_low2 tie.the-claims contract.Pre contract.Post tie.handed_clauses

abbrev After-cut_high : Type 0
After-cut_high = places.After-cut_high2 tie.the-claims contract.Pre contract.Post tie.handed_clauses

-- what the machine reads back from the bits of each value
module _ (s : Start) where
  x0 : Back w32 s.args.p0.x
  x0 = back {w = w32} (search rules depth 12)

  y0 : Back w32 s.args.p0.y
  y0 = back {w = w32} (search rules depth 12)

  x1 : Back w32 s.args.p1.x
  x1 = back {w = w32} (search rules depth 12)

  y1 : Back w32 s.args.p1.y
  y1 = back {w = w32} (search rules depth 12)

  left : Back w32 s.args.low.x
  left = back {w = w32} (search rules depth 12)

  bottom : Back w32 s.args.low.y
  bottom = back {w = w32} (search rules depth 12)

  right : Back w32 s.args.high.x
  right = back {w = w32} (search rules depth 12)

  top : Back w32 s.args.high.y
  top = back {w = w32} (search rules depth 12)

  abbrev seg : Seg
  seg = record { p0 = s.args.p0; p1 = s.args.p1 }

  abbrev box : BBox
  box = cornered s.args.low s.args.high

  within : Coords seg
  within = record { end0 = s.requires.coord; end1 = s.requires.coord_2 }

ruleset read = (x0, y0, x1, y1, left, right, bottom, top)

-- what each cut gave
cut1 : (c : After-cut_low-c1) → c.cut_low-c1.result ≡ cut_low XMin (box c.before.before.before.before.before.before.before) (given (seg c.before.before.before.before.before.before.before))
cut1 c = simp read at c.cut_low-c1.ensures

cut2 : (c : After-cut_high-c2) → c.cut_high-c2.result ≡ cut_high XMax (box c.before.before.before.before.before.before.before.before) c.cut_low-c1.result
cut2 c = simp read at c.cut_high-c2.ensures

cut3 : (c : After-cut_low-c3) → c.cut_low-c3.result ≡ cut_low YMin (swap_box (box c.before.before.before.before.before.before.before.before.before.before)) c.swap.result
cut3 c = simp read at c.cut_low-c3.ensures

cut4 : (c : After-cut_high) → c.cut_high.result ≡ cut_high YMax (swap_box (box c.before.before.before.before.before.before.before.before.before.before.before)) c.cut_low-c3.result
cut4 c = simp read at c.cut_high.ensures

-- each cut leaves the ends within the limit
after1 : (c : After-cut_low-c1) → Coords c.cut_low-c1.result.seg
after1 c = low_coords c.requires.good XMin (given (seg c.before.before.before.before.before.before.before)) c.cut_low-c1.result (within c.before.before.before.before.before.before.before) (cut1 c)

after2 : (c : After-cut_high-c2) → Coords c.cut_high-c2.result.seg
after2 c = high_coords c.requires.good XMax c.cut_low-c1.result c.cut_high-c2.result (after1 c.before) (cut2 c)

turned : (c : After-swap) → Coords c.swap.result.seg
turned c = swapped_coords c.swap.ensures (after2 c.before)

after3 : (c : After-cut_low-c3) → Coords c.cut_low-c3.result.seg
after3 c = low_coords (swap_good c.requires.good) YMin c.swap.result c.cut_low-c3.result (turned c.before) (cut3 c)

pub cut_high-c2-requires : goal.cut_high-c2-requires
cut_high-c2-requires c = record { coord = (after1 c).end0; coord_2 = (after1 c).end1 }

pub cut_low-c3-requires : goal.cut_low-c3-requires
cut_low-c3-requires c = record { coord = (turned c).end0; coord_2 = (turned c).end1 }

pub cut_high-requires : goal.cut_high-requires
cut_high-requires c = record { coord = (after3 c).end0; coord_2 = (after3 c).end1 }

pub returns : goal.returns
returns c =
    four_cuts c.requires.good (seg c.before.before.before.before.before.before.before.before.before.before.before.before) _ _ _ _ _ _ (cut1 c.before.before.before.before.before) (cut2 c.before.before.before.before) c.swap.ensures (cut3 c.before.before) (cut4 c.before) c.swap-2.ensures
