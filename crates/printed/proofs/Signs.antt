-- A signed number's sign and size, and the row of them: how long a piece is, and what is still to come.
use mathlib.Core.Path.{◌≡◌, refl, ◌∙◌}
use mathlib.Core.List.{List, [], ◌∷◌, ◌++◌}
use Prim.Native.Nat.{ℕ, suc, ◌+◌, ◌*◌, ◌<◌, ◌≤◌}
use native.Mathlib.Numerals.{add-one}
use native.Mathlib.Omega.{arith}
use borrow.Author.Tests.{le-leb}
use lib.Dec.{T}
use lib.IntN.{ℤ, pos, negsuc, nat_abs, ◌-ℤ◌}
use lib.Signed.{◌≤ℤ◌, ◌<ℤ◌, non_neg}
use lib.ListN.{length, drop, get_or, length-append, drop_of_length-le}
use lib.Seq.{drop-cons}
use mir.Syntax.{w64}
use mir.Val.{SFits, Fits}
use Rattle.promise.specs.Answers.{Gives}
use Rattle.printed.specs.Lending.{appended}
use Rattle.promise.specs.Laid.{lay}
use Rattle.promise.proofs.Laying.{lay_next}
use Rattle.whole.proofs.Parts.{zarith, -parts}
use Rattle.printed.specs.Decimal.{ended}
use Rattle.printed.specs.Printed.{shown}
use Rattle.printed.specs.Row.{signed_ended, behind, row_from, row_text, row_room}
use Rattle.printed.proofs.Decimals.{ended_short}

-- ---- a number with its sign
module _ {z : ℤ} (end at size : ℕ) (text l m : List ℕ) (r : ℕ) (e : size ≡ nat_abs z) where
  pub minus_laid : z <ℤ pos 0 → at + 22 ≤ length text → l ≡ lay at (45 ∷ []) text
      → Gives (appended (ended size end) (at + 1) l) r m
      → Gives (appended (signed_ended z end) at text) r m
  unfolding signed_ended
  minus_laid h k g w = by z e h
    where
      by : (y : ℤ) → size ≡ nat_abs y → y <ℤ pos 0 → Gives (appended (signed_ended y end) at text) r m
      by (pos n) d b = absurd (omega zarith)
      by (negsuc n) d b = rw (← d) (record { answer = w.answer ∙ omega arith; memory = w.memory ∙ rw g (lay_next at (45 ∷ []) (ended size end) text (omega arith)) })

  pub plus_laid : pos 0 ≤ℤ z → Gives (appended (ended size end) at text) r m
      → Gives (appended (signed_ended z end) at text) r m
  unfolding signed_ended
  plus_laid h w = by z e h
    where
      by : (y : ℤ) → size ≡ nat_abs y → pos 0 ≤ℤ y → Gives (appended (signed_ended y end) at text) r m
      by (pos n) d b = rw (← d) w
      by (negsuc n) d b = absurd (omega zarith)

pub signed_short : (z : ℤ) (end : ℕ) → length (signed_ended z end) ≤ 22
unfolding signed_ended
signed_short (pos n) end = omega (arith, ended_short n end)
signed_short (negsuc n) end = omega (arith, ended_short (suc n) end)

-- ---- the row
pub row_turn : (zs : List ℤ) (i end : ℕ) → i < length zs → end ≡ behind i (length zs)
    → row_from (length zs) i (drop i zs) ≡ signed_ended (get_or zs i (pos 0)) end ++ row_from (length zs) (i + 1) (drop (i + 1) zs)
row_turn zs i end h e = rw (drop-cons zs i (pos 0) h, e, add-one i)

pub row_done : (zs : List ℤ) (i : ℕ) → length zs ≤ i → row_from (length zs) i (drop i zs) ≡ []
row_done zs i h = rw (drop_of_length-le zs h)

pub row_shown : (zs : List ℤ) (text : List ℕ) (r : ℕ) (l : List ℕ) → row_room zs ≤ length text
    → Gives (appended (row_text zs) 0 text) r l → Gives (shown (row_room zs) (row_text zs) text) r l
row_shown zs text r l h g = rw (le-leb (row_room zs) (length text) h) (record { answer = g.answer ∙ omega arith; memory = g.memory })
