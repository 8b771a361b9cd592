-- The loop over the words: what is still to come of the column; and pieces laid at the front of a text.
use mathlib.Core.Path.{◌≡◌, refl, sym, ◌∙◌, ap}
use mathlib.Core.List.{List, [], ◌∷◌, ◌++◌}
use Prim.Native.Nat.{ℕ, ◌+◌, ◌*◌, ◌<◌, ◌≤◌}
use native.Mathlib.Numerals.{add-one}
use native.Mathlib.Omega.{arith}
use lib.ListN.{length, take, drop, get_or, length-append, drop_of_length-le}
use lib.Seq.{drop-cons}
use Rattle.promise.specs.Answers.{Gives}
use Rattle.printed.specs.Lending.{appended}
use Rattle.promise.specs.Laid.{lay}
use Rattle.promise.specs.Puts.{Puts}
use Rattle.promise.proofs.Fronts.{puts_start, puts_append, puts_next}
use Rattle.promise.proofs.Laying.{take_lay, length_lay}
use Rattle.printed.specs.Decimal.{ended}
use borrow.Author.Tests.{le-leb, lt-leb}
use Rattle.printed.specs.Printed.{Told, newline, column, shown, words_head, words_text, words_room, refused_head, at_head, refused_text, refused_room, space}
use Rattle.printed.proofs.Decimals.{ended_short}
use Rattle.printed.proofs.Pieces.{Pieces}

-- what is laid after i words; what is to come is the column of the rest
abbrev pub Column : List ℕ → ℕ → List ℕ → List ℕ → ℕ → ℕ → Type 0
Column ws at text₀ text next i = Pieces 21 (length ws) at (column ws) text₀ text next i (column (drop i ws))

pub column_turn : (ws : List ℕ) (i w : ℕ) → i < length ws → w ≡ get_or ws i 0 → column (drop i ws) ≡ ended w newline ++ column (drop (i + 1) ws)
column_turn ws i w h e = rw (drop-cons ws i 0 h, ← e, add-one i)

pub column_done : (ws : List ℕ) (i : ℕ) → length ws ≤ i → column (drop i ws) ≡ []
column_done ws i h = rw (drop_of_length-le ws h)

-- ---- pieces shown at the front of a text
pub front_shown : (room : ℕ) {bytes text : List ℕ} {r : ℕ} {l : List ℕ} → room ≤ length text → Puts bytes text r l → Gives (shown room bytes text) r l
front_shown room {bytes} {text} h f = rw (le-leb room (length text) h) (record { answer = f.count_is; memory = f.list_is })

pub not_shown : (room : ℕ) (bytes text : List ℕ) → length text < room → Gives (shown room bytes text) 0 text
not_shown room bytes text h = rw (lt-leb room (length text) h) (record { answer = refl; memory = refl })

-- ---- the two answers
column_short : (ws : List ℕ) → length (column ws) ≤ 21 * length ws
column_short [] = omega arith
column_short (w ∷ ws) = simp length-append (omega (arith, column_short ws, simp length-append at (ended_short w newline)))

module _ (text l1 l2 l3 : List ℕ) (r2 : ℕ) where
  pub words_shown : (r3 : ℕ) (ws : List ℕ) → words_room ws ≤ length text → l1 ≡ lay 0 words_head text
      → Gives (appended (ended (length ws) newline) 6 l1) r2 l2
      → Gives (appended (column ws) r2 l2) r3 l3 → Gives (shown (words_room ws) (words_text ws) text) r3 l3
  words_shown r3 ws h e g k =
      let a = ended_short (length ws) newline in
      let f1 = puts_start words_head text l1 e in
      let f2 = puts_next f1 (ended (length ws) newline) (omega arith) r2 l2 g in
      front_shown (words_room ws) h (puts_next f2 (column ws) (simp length-append (omega (arith, column_short ws, simp length-append at a))) r3 l3 k)

  pub refused_shown : (l4 : List ℕ) (r4 number points : ℕ) → refused_room ≤ length text → l1 ≡ lay 0 refused_head text
      → Gives (appended (ended number space) 8 l1) r2 l2 → l3 ≡ lay r2 at_head l2
      → Gives (appended (ended points newline) (r2 + 3) l3) r4 l4
      → Gives (shown refused_room (refused_text number points) text) r4 l4
  refused_shown l4 r4 number points h e g a k =
      let b = ended_short number space in
      let d = ended_short points newline in
      let f1 = puts_start refused_head text l1 e in
      let f2 = puts_next f1 (ended number space) (omega arith) r2 l2 g in
      let f3 = puts_append f2 at_head (simp length-append (omega (arith, simp length-append at b))) l3 a in
      front_shown refused_room h (puts_next f3 (ended points newline) (simp length-append (omega (arith, simp length-append at b, simp length-append at d))) r4 l4 k)

-- ---- what the room is for: the bytes never take more
pub words_short : (ws : List ℕ) → length (words_text ws) ≤ words_room ws
words_short ws = simp length-append (omega (arith, simp length-append at (ended_short (length ws) newline), column_short ws))

pub refused_short : (number points : ℕ) → length (refused_text number points) ≤ refused_room
refused_short number points = simp length-append (omega (arith, simp length-append at (ended_short number space), simp length-append at (ended_short points newline)))

-- what is shown in a text that has the room, and whose bytes fit, is told
pub told : (room : ℕ) (bytes text : List ℕ) (r : ℕ) (l : List ℕ) → room ≤ length text → length bytes ≤ room → Gives (shown room bytes text) r l → Told bytes r l
told room bytes text r l h k g =
    let e = rw (le-leb room (length text) h) at g in
    let z : length bytes ≡ 0 + length bytes = omega arith in
    let f : 0 + length bytes ≤ length text = omega arith in
    record {
      count = e.answer;
      inside = rw (e.answer, e.memory, length_lay 0 bytes text f) (omega arith);
      front = rw (e.answer, e.memory) (ap (λ (n : ℕ). take n (lay 0 bytes text)) z ∙ take_lay 0 bytes text f);
    }
