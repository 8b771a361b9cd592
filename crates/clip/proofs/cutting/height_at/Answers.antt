-- `clip::cutting::height_at` meets its contract: each sum and product fits 64 bits by the coordinates' sizes, and what is computed is the definition's rounding.
use mathlib.Core.Path.{◌≡◌, refl, ap}
use lib.IntN.{ℤ, pos, ◌+ℤ◌, ◌-ℤ◌, ◌*ℤ◌}
use mir.Syntax.{w32, w64}
use Rattle.whole.proofs.Machine.{Back, back, widened, fit_size}
use Rattle.clip.specs.Cutting.{height}
use Rattle.clip.proofs.Heights.{f_dy, f_den, f_at, f_num, f_2num, f_sum, f_2den, den_pos, size_height}
use Rattle.clip.proofs.cutting.height_at.Goals as goal
use Rattle.clip.proofs.cutting.height_at.Tie as tie
use Rattle.clip.proofs.cutting.height_at.Reads as contract
use Rattle.clip.proofs.cutting.height_at.Lts as places

-- the places on the way that the lemmas below speak of
abbrev Start : Type 0
Start = places.Start tie.the-claims contract.Pre contract.Post

abbrev After-floor_div-q : Type 0
After-floor_div-q = places.After-floor_div tie.the-claims contract.Pre contract.Post

-- what the machine reads back from the bits of each value on the way
module _ (s : Start) where
  y1 : Back w32 s.args.y1
  y1 = back {w = w32} s.ranges.y1

  y2 : Back w32 s.args.y2
  y2 = back {w = w32} s.ranges.y2

  x1 : Back w32 s.args.x1
  x1 = back {w = w32} s.ranges.x1

  x2 : Back w32 s.args.x2
  x2 = back {w = w32} s.ranges.x2

  x : Back w32 s.args.x
  x = back {w = w32} s.ranges.x

  y1w : Back w64 s.args.y1
  y1w = back {w = w64} (widened s.ranges.y1)

  y2w : Back w64 s.args.y2
  y2w = back {w = w64} (widened s.ranges.y2)

  x1w : Back w64 s.args.x1
  x1w = back {w = w64} (widened s.ranges.x1)

  x2w : Back w64 s.args.x2
  x2w = back {w = w64} (widened s.ranges.x2)

  xw : Back w64 s.args.x
  xw = back {w = w64} (widened s.ranges.x)

  dy : Back w64 (s.args.y2 -ℤ s.args.y1)
  dy = back {w = w64} (f_dy s.requires)

  den : Back w64 (s.args.x2 -ℤ s.args.x1)
  den = back {w = w64} (f_den s.requires)

  at : Back w64 (s.args.x -ℤ s.args.x1)
  at = back {w = w64} (f_at s.requires)

  num : Back w64 ((s.args.y2 -ℤ s.args.y1) *ℤ (s.args.x -ℤ s.args.x1))
  num = back {w = w64} (f_num s.requires)

  num2 : Back w64 (pos 2 *ℤ ((s.args.y2 -ℤ s.args.y1) *ℤ (s.args.x -ℤ s.args.x1)))
  num2 = back {w = w64} (f_2num s.requires)

  sum : Back w64 (pos 2 *ℤ ((s.args.y2 -ℤ s.args.y1) *ℤ (s.args.x -ℤ s.args.x1)) +ℤ (s.args.x2 -ℤ s.args.x1))
  sum = back {w = w64} (f_sum s.requires)

  den2 : Back w64 (pos 2 *ℤ (s.args.x2 -ℤ s.args.x1))
  den2 = back {w = w64} (f_2den s.requires)

  abbrev result : ℤ
  result = height s.args.x1 s.args.y1 s.args.x2 s.args.y2 s.args.x

ruleset read = (y1, y2, x1, x2, x, y1w, y2w, x1w, x2w, xw, dy, den, at, num, num2, sum, den2)

pub overflow_cast-dy : goal.overflow_cast-dy
overflow_cast-dy c = simp read (widened c.ranges.y2)

pub overflow_cast-dy-2 : goal.overflow_cast-dy-2
overflow_cast-dy-2 c = simp read (widened c.ranges.y1)

pub overflow_sub-dy : goal.overflow_sub-dy
overflow_sub-dy c = simp read (f_dy c.requires)

pub overflow_cast-den : goal.overflow_cast-den
overflow_cast-den c = simp read (widened c.ranges.x2)

pub overflow_cast-den-2 : goal.overflow_cast-den-2
overflow_cast-den-2 c = simp read (widened c.ranges.x1)

pub overflow_sub-den : goal.overflow_sub-den
overflow_sub-den c = simp read (f_den c.requires)

pub overflow_cast-num : goal.overflow_cast-num
overflow_cast-num c = simp read (widened c.ranges.x)

pub overflow_cast-num-2 : goal.overflow_cast-num-2
overflow_cast-num-2 c = simp read (widened c.ranges.x1)

pub overflow_sub-num : goal.overflow_sub-num
overflow_sub-num c = simp read (f_at c.requires)

pub overflow_mul-num : goal.overflow_mul-num
overflow_mul-num c = simp read (f_num c.requires)

pub overflow_mul-num-2 : goal.overflow_mul-num-2
overflow_mul-num-2 c = simp read (f_2num c.requires)

pub overflow_add-num : goal.overflow_add-num
overflow_add-num c = simp read (f_sum c.requires)

pub overflow_mul-den : goal.overflow_mul-den
overflow_mul-den c = simp read (f_2den c.requires)

pub floor_div-q-requires : goal.floor_div-q-requires
floor_div-q-requires c = simp read (den_pos c.requires)

-- what the call gave makes the result
module _ (c : After-floor_div-q) where
  made : c.args.y1 +ℤ c.floor_div-q.result ≡ result c.before
  made = ap (λ (z : ℤ). c.args.y1 +ℤ z) (simp read at c.floor_div-q.ensures)

  q : Back w64 c.floor_div-q.result
  q = back {w = w64} (record { sfits = c.floor_div-q.type_inv })

  r64 : Back w64 (result c.before)
  r64 = back {w = w64} (fit_size (size_height c.requires) tt)

  r32 : Back w32 (result c.before)
  r32 = back {w = w32} (fit_size (size_height c.requires) tt)

ruleset last = (read, q)

pub overflow_cast-result : goal.overflow_cast-result
overflow_cast-result c = simp last (widened c.ranges.y1)

pub overflow_add-result : goal.overflow_add-result
overflow_add-result c = simp last (rw (made c) (fit_size (size_height c.requires) tt))

pub overflow_cast-result-2 : goal.overflow_cast-result-2
overflow_cast-result-2 c = simp last (rw (made c, r64 c) (fit_size (size_height c.requires) tt))

pub returns : goal.returns
returns c = simp last (rw (made c, r64 c, r32 c) refl)
