-- Document 02, request (x): "six double coefficients kept together map x and y to a·x + b·y + c and d·x + e·y + f, products first, then sums from the left,
-- each operation rounded once"; a point mapped so and put on the grid, a list of points, and the answers of the calls.
use Rattle.std.specs.Prelude.{ℕ, ◌*◌, ◌/◌, cond, List, [], ◌∷◌, length, take, ℤ, Float}
use Rattle.std.specs.Float.{binary64}
use Rattle.std.specs.Float.Ieee.{add, mul}
use Rattle.promise.specs.Answers.{Written}
use Rattle.promise.specs.Laid.{lay}
use Rattle.number.specs.Least.{smaller}
use Rattle.refusal.specs.declared.Refusal.TheVariants.{Coord}
use Rattle.refusal.specs.Said.{Said, accepted, refused}
use Rattle.clip.specs.declared.Pt.{Pt}
use Rattle.clip.specs.Domain.{is_coord}
use Rattle.affine.specs.declared.Affine.{Affine}
use Rattle.std.specs.Prelude.{Result, Ok, Err}
use Rattle.refusal.specs.declared.Refusal.{Refusal}
use Rattle.affine.specs.Grid.{beyond, grid_of}

-- (a·x + b·y) + c: two products, their sum, then c
abbrev pub along : Float → Float → Float → Float → Float → Float
along a b c x y = add binary64 (add binary64 (mul binary64 a x) (mul binary64 b y)) c

-- the grid point, with a number beyond the limit for a coordinate that has none within it
abbrev pub surveyed : Affine → Float → Float → Pt
surveyed t x y = record { x = grid_of (along t.a t.b t.c x y); y = grid_of (along t.d t.e t.f x y) }

-- ---- one point: COORD, else the grid point
abbrev pub said_mapped : Result Pt Refusal → Said (List Pt)
said_mapped (Ok p) = accepted (p ∷ [])
said_mapped (Err r) = refused r []

unfoldable pub mapped : Affine → Float → Float → Said (List Pt)
mapped t x y = cond (is_coord (surveyed t x y)) (accepted (surveyed t x y ∷ [])) (refused Coord [])

-- ---- a list of them, "x and y by turns": the grid's list has the same length, so one that is odd stays odd
unfoldable pub grids_of : Affine → List Float → List ℤ
grids_of t [] = []
grids_of t (x ∷ []) = beyond ∷ []
grids_of t (x ∷ y ∷ l) = (surveyed t x y).x ∷ (surveyed t x y).y ∷ grids_of t l

-- as many whole points as the list has and the other one holds, laid at its front
abbrev pub fitting : List Float → List ℤ → ℕ
fitting points out = smaller (length points / 2) (length out / 2)

unfoldable pub mapped_all : Affine → List Float → List ℤ → Written ℕ (List ℤ)
mapped_all t points out = record { answer = fitting points out; memory = lay 0 (grids_of t (take (2 * fitting points out) points)) out }
