-- The points of a part, block by block: the grid points of a block are the part's next ones, and what is behind them is the rest of the part.
use mathlib.Core.Path.{◌≡◌, sym, ◌∙◌, ap}
use mathlib.Core.Bool.{Bool, true, false, cond}
use mathlib.Core.List.{List, ◌++◌}
use Prim.Native.Nat.{ℕ, ◌+◌, ◌-◌, ◌*◌, ◌/◌, ◌≤◌, ◌<◌}
use native.Mathlib.Omega.{arith}
use lib.Dec.{leb}
use lib.IntN.{ℤ}
use lib.Ieee.{Float}
use lib.ListN.{length, take, drop, length-drop}
use lib.Seq.{take-take, take-add, drop-drop, length-take-le}
use Rattle.promise.specs.Answers.{Gives}
use Rattle.promise.specs.Laid.{lay}
use Rattle.promise.proofs.Laying.{take_lay}
use Rattle.number.proofs.Least.{smaller_le}
use Rattle.refusal.specs.declared.Refusal.{Refusal}
use Rattle.clip.specs.declared.Pt.{Pt}
use Rattle.encoder.specs.declared.GeomEncoder.{GeomEncoder}
use Rattle.refusal.specs.declared.Refused.{Refused}
use Rattle.std.specs.Prelude.{Result, Ok, Err}
use Rattle.encoder.specs.Calls.{part_calls}
use Rattle.encoder.specs.Jobs.{points_of, part, go, added_run, outcome_of, end_of}
use Rattle.encoder.proofs.Turns.{Adding}
use Rattle.encoder.proofs.Runs.{run_on, run_off, run_within, run_sound, points_take, points_drop}
use Rattle.affine.specs.declared.Affine.{Affine}
use Rattle.affine.specs.Mapping.{grids_of, fitting, mapped_all}
use Rattle.affine.proofs.Lists.{length_grids, grids_take, grids_drop}

-- the first n points of a part, and the rest of it
part_split : (ps : List Pt) (i n to : ℕ) → i + n ≤ to → part ps i to ≡ take n (part ps i to) ++ part ps (i + n) to
part_split ps i n to h =
    let e : to - i ≡ n + (to - (i + n)) = omega arith in
    let f : n ≤ n + (to - (i + n)) = omega arith in
    rw e (take-add n (to - (i + n)) (drop i ps) ∙ (λ k. sym (take-take n (n + (to - (i + n))) (drop i ps) f) k ++ take (to - (i + n)) (drop-drop n i ps k)))

either_some : (c : Bool) (a b : ℕ) → 0 < a → 0 < b → 0 < cond c a b
either_some true a b h k = h
either_some false a b h k = k

-- a block: of the points from i up to `to`, as many as the list has room for
module _ (t : Affine) (l : List Float) (i to : ℕ) (h : i < to) (k : to ≤ length l / 2) (block : List ℤ) (room : 2 ≤ length block) where
  abbrev here : List Float
  here = take (2 * to - 2 * i) (drop (2 * i) l)

  here_long : length here ≡ 2 * (to - i)
  here_long = length-take-le (2 * to - 2 * i) (drop (2 * i) l) (omega (arith, length-drop (2 * i) l)) ∙ twice
    where
      twice : 2 * to - 2 * i ≡ 2 * (to - i)
      twice = omega arith

  module _ (n : ℕ) (b : List ℤ) (g : Gives (mapped_all t here block) n b) where
    count_is : n ≡ fitting here block
    unfolding mapped_all
    count_is = g.answer

    -- a block has a point, and none that is not of the part
    pub some : 0 < n
    some = rw count_is (either_some (leb (length here / 2) (length block / 2)) (length here / 2) (length block / 2) (omega (arith, here_long)) (omega arith))

    pub most : (n ≤ to - i) × (2 * n ≤ length block)
    most = let m = smaller_le (length here / 2) (length block / 2) in (omega (arith, count_is, m.0, here_long), omega (arith, count_is, m.1))

    grids_long : length (grids_of t (take (2 * n) here)) ≡ 2 * n
    grids_long = length_grids t (take (2 * n) here) ∙ length-take-le (2 * n) here (omega (arith, most.0, here_long))

    laid : take (2 * n) b ≡ grids_of t (take (2 * n) here)
    unfolding mapped_all
    laid =
        let w : b ≡ lay 0 (grids_of t (take (2 * n) here)) block = rw count_is g.memory in
        let z : 2 * n ≡ 0 + length (grids_of t (take (2 * n) here)) = omega (arith, grids_long) in
        ap (take (2 * n)) w ∙ ap (λ (m : ℕ). take m (lay 0 (grids_of t (take (2 * n) here)) block)) z ∙ take_lay 0 (grids_of t (take (2 * n) here)) block (omega (arith, grids_long, most.1))

    -- the numbers of the run, and its points
    pub run_long : length (take (2 * n) b) / 2 ≡ n
    run_long = let e : length (take (2 * n) b) ≡ 2 * n = ap length laid ∙ grids_long in omega arith

    run_points : points_of (take (2 * n) b) ≡ take n (part (points_of (grids_of t l)) i to)
    run_points =
        let e : 2 * to - 2 * i ≡ 2 * (to - i) = omega arith in
        let here-is : grids_of t here ≡ take (2 * (to - i)) (drop (2 * i) (grids_of t l)) = rw e (grids_take t (to - i) (drop (2 * i) l) ∙ ap (take (2 * (to - i))) (grids_drop t i l)) in
        ap points_of (laid ∙ grids_take t n here) ∙ points_take n (grids_of t here)
        ∙ ap (λ (x : List ℤ). take n (points_of x)) here-is ∙ ap (take n) (points_take (to - i) (drop (2 * i) (grids_of t l)) ∙ ap (take (to - i)) (points_drop i (grids_of t l)))

    split : part (points_of (grids_of t l)) i to ≡ points_of (take (2 * n) b) ++ part (points_of (grids_of t l)) (i + n) to
    split = part_split (points_of (grids_of t l)) i n to (omega (arith, most.0)) ∙ ap (λ (ps : List Pt). ps ++ part (points_of (grids_of t l)) (i + n) to) (sym run_points)

    -- ---- the run is added
    module _ (from : ℕ) (out₀ : List ℕ) (s : GeomEncoder) (out : List ℕ) (q : GeomEncoder) (I : Adding (grids_of t l) from to out₀ s out q i)
        (r : Result GeomEncoder (Refused ℕ)) (o : List ℕ) (w : Gives (added_run q (take (2 * n) b) out) (end_of (take (2 * n) b) r) o) where
      opened : go (part_calls (part (points_of (grids_of t l)) from to)) from s out₀ ≡ go (part_calls (points_of (take (2 * n) b) ++ part (points_of (grids_of t l)) (i + n) to)) i q out
      opened = I.rest ∙ ap (λ (ps : List Pt). go (part_calls ps) i q out) split

      pub block_on : (u : GeomEncoder) → r ≡ Ok u → length o ≡ length out → Adding (grids_of t l) from to out₀ s o u (i + n)
      block_on u e f = record {
        upto = omega (arith, most.0);
        long = f ∙ I.long;
        sound = run_sound (take (2 * n) b) q out u o I.sound (rw e at w);
        rest =
            opened ∙ run_on (take (2 * n) b) i q out (part (points_of (grids_of t l)) (i + n) to) r o w u e
            ∙ ap (λ (m : ℕ). go (part_calls (part (points_of (grids_of t l)) (i + n) to)) (i + m) u o) run_long;
      }

      pub block_off : (x : Refused ℕ) → r ≡ Err x → Gives (go (part_calls (part (points_of (grids_of t l)) from to)) from s out₀) (outcome_of to (Err (record { refusal = x.refusal; kept = i + x.kept }))) o
      block_off x e = rw opened (run_off (take (2 * n) b) i q out (part (points_of (grids_of t l)) (i + n) to) r o w to x e)

      pub off_within : (x : Refused ℕ) → r ≡ Err x → i + x.kept ≤ to
      off_within x e = omega (arith, run_within (take (2 * n) b) q out x o (rw e at w), run_long, most.0)
