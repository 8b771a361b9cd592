-- The pairs of one command from a pen on: none, or the first and then the others.
use Prim.Native.Nat.{ℕ, zero, suc, ◌+◌, ◌-◌, ◌*◌, ◌<◌}
use mathlib.Core.Path.{◌≡◌, refl}
use mathlib.Core.Bool.{cond}
use mathlib.Core.List.{List, [], ◌∷◌}
use native.Mathlib.Omega.{arith}
use lib.ListN.{length, get_or, drop}
use lib.Seq.{drop-cons}
use Rattle.refusal.specs.declared.Refusal.TheVariants.{Step}
use Rattle.refusal.specs.Said.{plain}
use Rattle.decoder.specs.declared.pen.Pen.{Pen}
use Rattle.decoder.specs.Vertices.{traced, faulty, vertex, onto}
use Rattle.decoder.specs.ReadingWords.{within, drawn}
use Rattle.decoder.specs.Stepping.{cursor_of, Stands, pairs_of}
use Rattle.decoder.specs.Passing.{led_to, behind}

-- ---- the element at j, and those from k = j + 1 on
pub from_here : (l : List ℕ) (j k : ℕ) → k ≡ suc j → j < length l → drop j l ≡ get_or l j 0 ∷ drop k l
from_here l j k e h = rw e (drop-cons l j 0 h)

pub pairs_none : (pen : Pen) (ws : List ℕ) → pen.left ≡ 0 → pairs_of pen ws ≡ traced [] (cursor_of pen)
unfolding drawn
pairs_none pen ws z = rw z

module _ (pen : Pen) (ws : List ℕ) (n : pen.left ≡ 0 → ⊥) (S : Stands pen ws) where
  one_more : pen.left ≡ suc (pen.left - 1)
  one_more = by pen.left n
    where
      by : (k : ℕ) → (k ≡ 0 → ⊥) → k ≡ suc (k - 1)
      by zero n = absurd (n refl)
      by (suc k) n = omega arith

  pub behind_stands : Stands (behind pen ws) ws
  behind_stands = record { there = omega (arith, one_more, S.there) }

  pub behind_same : pen.at + 2 * pen.left ≡ (behind pen ws).at + 2 * (behind pen ws).left
  behind_same = omega (arith, one_more)

  pub pair_here : drop pen.at ws ≡ get_or ws pen.at 0 ∷ get_or ws (pen.at + 1) 0 ∷ drop (pen.at + 2) ws
  pair_here =
      let one : pen.at < length ws = omega (arith, one_more, S.there) in
      let two : pen.at + 1 < length ws = omega (arith, one_more, S.there) in
      rw (from_here ws pen.at (pen.at + 1) (omega arith) one, from_here ws (pen.at + 1) (pen.at + 2) (omega arith) two)

  pub pairs_one : pairs_of pen ws ≡ cond (within (led_to pen ws)) (onto (vertex pen.id (led_to pen ws) ∷ []) (pairs_of (behind pen ws) ws)) (faulty (plain Step))
  unfolding drawn
  pairs_one = let e : 2 * pen.left ≡ suc (suc (2 * (pen.left - 1))) = omega (arith, one_more) in rw (e, pair_here)
