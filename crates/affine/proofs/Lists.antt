-- The grid's list of a list of points, for callers too: its length, its parts at whole points, lists one behind the other, and the point at a place.
use Rattle.std.proofs.Common.{◌≡◌, ℕ, zero, suc, ◌+◌, ◌*◌, ◌≤◌, List, [], ◌∷◌, ◌++◌, length, get_or, take, drop, ℤ, refl, ap, arith}
use lib.Ieee.{Float}
use Rattle.affine.specs.declared.Affine.{Affine}
use Rattle.affine.specs.Mapping.{surveyed, grids_of}

twice : (n : ℕ) → 2 * suc n ≡ suc (suc (2 * n))
twice n = omega arith

module _ (t : Affine) where
  -- as many numbers as the list has
  pub length_grids : (l : List Float) → length (grids_of t l) ≡ length l
  unfolding grids_of
  length_grids [] = refl
  length_grids (x ∷ []) = refl
  length_grids (x ∷ y ∷ l) = ap (λ (n : ℕ). suc (suc n)) (length_grids l)

  -- the first n points, and those behind them
  pub grids_take : (n : ℕ) (l : List Float) → grids_of t (take (2 * n) l) ≡ take (2 * n) (grids_of t l)
  unfolding grids_of
  grids_take zero l = refl
  grids_take (suc n) [] = rw (twice n)
  grids_take (suc n) (x ∷ []) = rw (twice n)
  grids_take (suc n) (x ∷ y ∷ l) = rw (twice n) (ap (λ (r : List ℤ). (surveyed t x y).x ∷ (surveyed t x y).y ∷ r) (grids_take n l))

  pub grids_drop : (n : ℕ) (l : List Float) → grids_of t (drop (2 * n) l) ≡ drop (2 * n) (grids_of t l)
  unfolding grids_of
  grids_drop zero l = refl
  grids_drop (suc n) [] = rw (twice n)
  grids_drop (suc n) (x ∷ []) = rw (twice n)
  grids_drop (suc n) (x ∷ y ∷ l) = rw (twice n) (grids_drop n l)

  -- a list behind n whole points
  pub grids_append : (n : ℕ) (l more : List Float) → length l ≡ 2 * n → grids_of t (l ++ more) ≡ grids_of t l ++ grids_of t more
  unfolding grids_of
  grids_append n [] more h = refl
  grids_append n (x ∷ []) more h = absurd (omega arith)
  grids_append zero (x ∷ y ∷ l) more h = absurd (omega arith)
  grids_append (suc n) (x ∷ y ∷ l) more h = ap (λ (r : List ℤ). (surveyed t x y).x ∷ (surveyed t x y).y ∷ r) (grids_append n l more (omega arith))

  -- the point at i
  pub grids_x : (i : ℕ) (l : List Float) (d : Float) (z : ℤ) → 2 * i + 2 ≤ length l → get_or (grids_of t l) (2 * i) z ≡ (surveyed t (get_or l (2 * i) d) (get_or l (2 * i + 1) d)).x
  unfolding grids_of
  grids_x i [] d z h = absurd (omega arith)
  grids_x i (x ∷ []) d z h = absurd (omega arith)
  grids_x zero (x ∷ y ∷ l) d z h = refl
  grids_x (suc i) (x ∷ y ∷ l) d z h =
      let e : suc (suc (2 * i)) + 1 ≡ suc (suc (2 * i + 1)) = omega arith in
      rw (twice i, e) (grids_x i l d z (omega arith))

  pub grids_y : (i : ℕ) (l : List Float) (d : Float) (z : ℤ) → 2 * i + 2 ≤ length l → get_or (grids_of t l) (2 * i + 1) z ≡ (surveyed t (get_or l (2 * i) d) (get_or l (2 * i + 1) d)).y
  unfolding grids_of
  grids_y i [] d z h = absurd (omega arith)
  grids_y i (x ∷ []) d z h = absurd (omega arith)
  grids_y zero (x ∷ y ∷ l) d z h = refl
  grids_y (suc i) (x ∷ y ∷ l) d z h =
      let e : suc (suc (2 * i)) + 1 ≡ suc (suc (2 * i + 1)) = omega arith in
      rw (twice i, e) (grids_y i l d z (omega arith))
