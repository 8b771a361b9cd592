-- The turns of the two loops over words that go out as varints.
use Prim.Native.Nat.{ℕ, suc, ◌+◌, ◌-◌, ◌*◌, ◌≤◌, ◌<◌, zero-le}
use mathlib.Core.Path.{◌≡◌, refl, ap, ◌∙◌}
use mathlib.Core.List.{List, [], ◌∷◌, ◌++◌}
use native.Mathlib.Omega.{arith}
use lib.ListN.{length, get_or, drop, length-append, drop_of_length-le}
use lib.Seq.{drop-cons}
use borrow.Rule.Slice.PartMut.{mid_of, put_mid}
use Rattle.promise.specs.Answers.{Gives}
use Rattle.promise.specs.Widened.{Wide}
use Rattle.wire.specs.Varints.{varint}
use Rattle.wire.specs.Fields.{varints}
use Rattle.promise.specs.Puts.{put, Puts}
use Rattle.wire.proofs.Varints.{varint_five}
use Rattle.promise.proofs.Fronts.{put_fits}
use Rattle.promise.proofs.Running.{Run, run_start, run_inside, run_long, run_sum, run_turn, run_end}

next : (l : List ℕ) (j k : ℕ) → k ≡ suc j → j < length l → drop j l ≡ get_or l j 0 ∷ drop k l
next l j k e h = rw e (drop-cons l j 0 h)

-- the next number, and those behind it
one : (ws : List ℕ) (i n : ℕ) → i < length ws → n ≡ get_or ws i 0 → varints (drop i ws) ≡ varint n ++ varints (drop (i + 1) ws)
one ws i n h e = ap varints (next ws i (i + 1) (omega arith) h) ∙ rw e refl

none : (ws : List ℕ) (i : ℕ) → length ws ≤ i → varints (drop i ws) ≡ []
none ws i h = ap varints (drop_of_length-le ws {i = i} h)

-- ---- their size: five bytes at most for each word
pub record Sizing (ws : List ℕ) (i size : ℕ) : Type 0 where
  pub at : i ≤ length ws
  pub few : size ≤ i * 5
  pub rest : length (varints ws) ≡ size + length (varints (drop i ws))

pub sizing_start : (ws : List ℕ) → Sizing ws 0 0
sizing_start ws = record { at = zero-le; few = zero-le; rest = omega arith }

module _ (ws : List ℕ) (i size : ℕ) (I : Sizing ws i size) where
  module _ (h : i < length ws) (n : ℕ) (w : Wide (get_or ws i 0) n) (k : ℕ) (q : k ≡ length (varint n)) where
    pub sizing_few : size + k ≤ (i + 1) * 5
    sizing_few = omega (arith, I.few, q, varint_five n w.small)

    pub sizing_turn : Sizing ws (i + 1) (size + k)
    sizing_turn =
        let l = ap length (one ws i n h w.same) ∙ length-append (varint n) (varints (drop (i + 1) ws)) in
        record { at = omega arith; few = sizing_few; rest = omega (arith, I.rest, l, q) }

  pub sizing_end : length ws ≤ i → size ≡ length (varints ws)
  sizing_end h = omega (arith, I.rest, ap length (none ws i h))

-- ---- their bytes
pub record Packing (ws out₀ out : List ℕ) (i at : ℕ) : Type 0 where
  pub within : i ≤ length ws
  pub run : Run (varints ws) (varints (drop i ws)) out₀ out at

pub packing_start : (ws out : List ℕ) → length (varints ws) ≤ length out → Packing ws out out 0 0
packing_start ws out h = record { within = zero-le; run = run_start (varints ws) out h }

module _ (ws out₀ out : List ℕ) (i at : ℕ) (I : Packing ws out₀ out i at) where
  pub packing_inside : at ≤ length out
  packing_inside = run_inside I.run

  pub packing_long : length out ≡ length out₀
  packing_long = run_long I.run

  module _ (h : i < length ws) (n : ℕ) (w : Wide (get_or ws i 0) n) (k : ℕ) (ys : List ℕ) (g : Gives (put (varint n) (mid_of at (length out - at) out)) k ys) where
    pub packing_sum : at + k ≤ length out₀
    packing_sum = run_sum I.run (varint n) (varints (drop (i + 1) ws)) (one ws i n h w.same) g

    pub packing_turn : Packing ws out₀ (put_mid at (length out - at) out ys) (i + 1) (at + k)
    packing_turn = record { within = omega arith; run = run_turn I.run (varint n) (varints (drop (i + 1) ws)) (one ws i n h w.same) g }

  pub packing_end : length ws ≤ i → Puts (varints ws) out₀ at out
  packing_end h = put_fits (varints ws) out₀ I.run.room (run_end I.run (none ws i h))
