-- The parts of a list that are lent, where the list is long enough and where it is not; and how many bytes are printed.
use mathlib.Core.Path.{◌≡◌, refl, sym, ◌∙◌}
use mathlib.Core.Bool.{Bool, true, false, cond}
use mathlib.Core.List.{List, [], ◌∷◌}
use Prim.Native.Nat.{ℕ, zero, suc, ◌+◌, ◌-◌, ◌<◌, ◌≤◌}
use native.Mathlib.Omega.{arith}
use native.Mathlib.Decide.{dec_lt}
use lib.Dec.{leb}
use lib.ListN.{length, get_or, take, drop, drop_of_length-le}
use Rattle.promise.specs.Answers.{Gives}
use Rattle.printed.specs.Printed.{shown, words_room, words_text, refused_room, refused_text}
use Rattle.printed.specs.Tiles.{tile_room, tile_text}
use Rattle.replay.specs.Printing.{printed}
use Rattle.replay.specs.Records.{Past, past_of, body_of}

pub number_past : (l : List ℕ) (i : ℕ) → length l ≤ i → get_or l i 0 ≡ 0
number_past [] i h = refl
number_past (x ∷ l) zero h = absurd (omega arith)
number_past (x ∷ l) (suc i) h = number_past l i (omega arith)

take_none : (n : ℕ) → take {A = ℕ} n [] ≡ []
take_none zero = refl
take_none (suc n) = refl

pub body_nowhere : (cases : List ℕ) (at r : ℕ) → Past cases at r → r ≤ at → [] ≡ body_of cases at
unfolding body_of
body_nowhere cases at r p h = rw (drop_of_length-le cases {i = at + 1} (past (dec_lt at (length cases)))) (sym (take_none (past_of cases at - (at + 1))))
  where
    past : Dec (at < length cases) → length cases ≤ at + 1
    past (yes l) = absurd (omega (arith, p.on l))
    past (no l) = omega arith

pub body_there : (cases : List ℕ) (at r : ℕ) → Past cases at r → take (r - (at + 1)) (drop (at + 1) cases) ≡ body_of cases at
unfolding body_of
body_there cases at r p = rw p.is

-- ---- what a text shows is printed
pub shown_count : (room : ℕ) (bytes : List ℕ) (text : List ℕ) {l : List ℕ} {r : ℕ} (limit : ℕ) → Gives (shown room bytes text) r l → length text ≡ limit → r ≡ printed room bytes limit
unfolding printed
shown_count room bytes text {l} {r} limit g e = by (leb room limit) (rw (← e) refl) g
  where
    by : (t : Bool) → leb room (length text) ≡ t → Gives (shown room bytes text) r l → r ≡ cond t (length bytes) 0
    by true d h = rw d at h.answer
    by false d h = rw d at h.answer

module _ (text : List ℕ) {l : List ℕ} {r : ℕ} (limit : ℕ) where
  pub words_count : (ws vs : List ℕ) → Gives (shown (words_room ws) (words_text ws) text) r l → ws ≡ vs → length text ≡ limit → r ≡ printed (words_room vs) (words_text vs) limit
  words_count ws vs g e h = rw (← e) (shown_count (words_room ws) (words_text ws) text limit g h)

  pub refused_count : (n m accepted : ℕ) → Gives (shown refused_room (refused_text n accepted) text) r l → n ≡ m → length text ≡ limit → r ≡ printed refused_room (refused_text m accepted) limit
  refused_count n m accepted g e h = rw (← e) (shown_count refused_room (refused_text n accepted) text limit g h)

  pub tile_count : (os ps bs cs : List ℕ) → Gives (shown (tile_room os bs) (tile_text os bs) text) r l → os ≡ ps → bs ≡ cs → length text ≡ limit → r ≡ printed (tile_room ps cs) (tile_text ps cs) limit
  tile_count os ps bs cs g e d h = rw (← e, ← d) (shown_count (tile_room os bs) (tile_text os bs) text limit g h)
