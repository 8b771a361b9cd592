-- Points mapped and laid where they belong, as `map_plain` promises: none, one that is stored, and some behind others.
use Rattle.std.proofs.Common.{◌≡◌, ℕ, suc, ◌+◌, ◌-◌, ◌*◌, ◌/◌, ◌%◌, ◌≤◌, List, ◌∷◌, ◌++◌, length, get_or, take, drop, set, ℤ, sym, ap, ◌∙◌, arith, length-drop, length-take-le, drop-cons, drop-drop, take-add}
use lib.Ieee.{Float}
use Rattle.promise.specs.Answers.{Gives}
use Rattle.promise.specs.Laid.{lay}
use Rattle.promise.proofs.Laying.{lay_nothing, length_lay, lay_next}
use Rattle.promise.proofs.Stores.{two_stores}
use Rattle.number.proofs.Least.{smaller_le}
use Rattle.affine.specs.declared.Affine.{Affine}
use Rattle.affine.specs.Mapping.{surveyed, grids_of, fitting, mapped_all}
use Rattle.affine.specs.Facts.{MapsPlain}
use Rattle.affine.proofs.Lists.{length_grids, grids_append}

-- the grid's numbers from `from` up to r
abbrev run : Affine → List Float → ℕ → ℕ → List ℤ
run t points from r = grids_of t (take (r - from) (drop from points))

module _ (t : Affine) (points : List Float) where
  part_long : (from r : ℕ) → from ≤ r → r ≤ length points → length (take (r - from) (drop from points)) ≡ r - from
  part_long from r h k = length-take-le (r - from) (drop from points) (omega (arith, length-drop from points))

  run_long : (from r : ℕ) → from ≤ r → r ≤ length points → length (run t points from r) ≡ r - from
  run_long from r h k = length_grids t (take (r - from) (drop from points)) ∙ part_long from r h k

  -- up to i, a place between two points, and from there on
  run_more : (from i r : ℕ) → from ≤ i → i ≤ r → r ≤ length points → (i - from) % 2 ≡ 0 → run t points from i ++ run t points i r ≡ run t points from r
  run_more from i r h k l w =
      let rest : List Float = drop from points in
      let e : (i - from) + (r - i) ≡ r - from = omega arith in
      let f : from + (i - from) ≡ i = omega arith in
      let d : drop (i - from) rest ≡ drop i points = drop-drop (i - from) from points ∙ ap (λ (n : ℕ). drop n points) f in
      let long : length (take (i - from) rest) ≡ i - from = part_long from i h (omega arith) in
      sym
      (ap (λ (n : ℕ). grids_of t (take n rest)) (sym e)
      ∙ ap (grids_of t) (take-add (i - from) (r - i) rest)
      ∙ grids_append t ((i - from) / 2) (take (i - from) rest) (take (r - i) (drop (i - from) rest)) (omega arith)
      ∙ ap (λ (q : List Float). run t points from i ++ grids_of t (take (r - i) q)) d)

-- ---- up to `to`, of which both lists hold as many numbers
module _ {t : Affine} {points : List Float} {to : ℕ} {out : List ℤ} (inside : to ≤ length points) (room : to ≤ length out) where
  pub maps_none : {from : ℕ} → from ≤ to → MapsPlain t points from to out from out
  unfolding grids_of
  maps_none {from} h = record {
    ahead = omega arith;
    upto = h;
    whole = omega arith;
    list = let e : from - from ≡ 0 = omega arith in rw e (sym (lay_nothing from out));
  }

  pub maps_one : {i : ℕ} {m n : ℤ} (d : Float) → i + 2 ≤ to → m ≡ (surveyed t (get_or points i d) (get_or points (i + 1) d)).x
      → n ≡ (surveyed t (get_or points i d) (get_or points (i + 1) d)).y → MapsPlain t points i to out (i + 2) (set (set out i m) (i + 1) n)
  unfolding grids_of
  maps_one {i} {m} {n} d h p q =
      let e : i + 2 - i ≡ 2 = omega arith in
      let f : suc i ≡ i + 1 = omega arith in
      let g : drop i points ≡ get_or points i d ∷ get_or points (i + 1) d ∷ drop (suc (i + 1)) points =
      drop-cons points i d (omega arith) ∙ ap (λ (k : ℕ). get_or points i d ∷ drop k points) f
      ∙ ap (λ (r : List Float). get_or points i d ∷ r) (drop-cons points (i + 1) d (omega arith)) in
      record {
        ahead = omega arith;
        upto = h;
        whole = omega arith;
        list = two_stores out i m n (omega arith) ∙ rw (e, g, p, q);
      }

  -- the length stays
  pub maps_long : {from r : ℕ} {l : List ℤ} → MapsPlain t points from to out r l → length l ≡ length out
  maps_long {from} {r} h = ap length h.list ∙ length_lay from (run t points from r) out (omega (arith, h.ahead, h.upto, run_long t points from r h.ahead (omega (arith, h.upto))))

  -- some behind others
  pub maps_more : {from i r : ℕ} {l k : List ℤ} → MapsPlain t points from to out i l → MapsPlain t points i to l r k → MapsPlain t points from to out r k
  maps_more {from} {i} {r} {l} h g =
      let n : length (run t points from i) ≡ i - from = run_long t points from i h.ahead (omega (arith, h.upto)) in
      let e : i ≡ from + length (run t points from i) = omega (arith, h.ahead) in
      record {
        ahead = omega (arith, h.ahead, g.ahead);
        upto = g.upto;
        whole = omega (arith, h.ahead, g.ahead, h.whole, g.whole);
        list =
            g.list ∙ ap (λ (j : ℕ). lay j (run t points i r) l) e ∙ ap (lay (from + length (run t points from i)) (run t points i r)) h.list
            ∙ lay_next from (run t points from i) (run t points i r) out (omega (arith, h.ahead, h.upto))
            ∙ ap (λ (q : List ℤ). lay from q out) (run_more t points from i r h.ahead g.ahead (omega (arith, g.upto)) h.whole);
      }

-- ---- a whole list, at the front
-- as many points as both lists hold
pub fits_points : (points : List Float) (out : List ℤ) (n : ℕ) → n ≡ fitting points out → n ≤ length points / 2
fits_points points out n e = rw e (smaller_le (length points / 2) (length out / 2)).0

pub fits_out : (points : List Float) (out : List ℤ) (n : ℕ) → n ≡ fitting points out → n ≤ length out / 2
fits_out points out n e = rw e (smaller_le (length points / 2) (length out / 2)).1

pub maps_all : {t : Affine} {points : List Float} {out l : List ℤ} {n i : ℕ} → n ≡ fitting points out → 2 * n ≤ i → MapsPlain t points 0 (2 * n) out i l → Gives (mapped_all t points out) n l
unfolding mapped_all
maps_all {t} {points} {out} {n = n} {i = i} e h g =
    let f : i - 0 ≡ 2 * n = omega (arith, g.upto) in
    record { answer = e; memory = g.list ∙ ap (λ (k : ℕ). lay 0 (grids_of t (take k points)) out) (f ∙ ap (λ (k : ℕ). 2 * k) e) }
