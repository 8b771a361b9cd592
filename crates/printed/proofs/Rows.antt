-- The lines of outcomes and of bytes: how long a piece is, and what is still to come.
use mathlib.Core.Path.{◌≡◌, refl, ◌∙◌}
use mathlib.Core.Bool.{Bool, true, false, cond}
use mathlib.Core.List.{List, [], ◌∷◌, ◌++◌}
use Prim.Native.Nat.{ℕ, suc, ◌+◌, ◌*◌, ◌-◌, ◌/◌, ◌%◌, ◌<◌, ◌≤◌}
use native.Mathlib.Numerals.{add-one}
use native.Mathlib.Omega.{arith}
use borrow.Author.Tests.{ne_eqb}
use lib.Dec.{eqb}
use lib.ListN.{length, drop, get_or, length-append, drop_of_length-le}
use lib.Seq.{drop-cons}
use Rattle.promise.specs.Answers.{Gives}
use Rattle.printed.specs.Lending.{appended}
use Rattle.promise.specs.Laid.{lay}
use Rattle.promise.proofs.Laying.{lay_next}
use Rattle.printed.specs.Decimal.{ended}
use Rattle.printed.specs.Printed.{newline, refused_head, shown}
use Rattle.printed.specs.Tiles.{ok_line, outcome_line, outcome_lines, bytes_head, hex_digit, hex_byte, ends_line, hex_from, hex_lines, tile_text, tile_room}
use Rattle.printed.proofs.Decimals.{ended_short}
use Rattle.promise.specs.Puts.{Puts}
use Rattle.promise.proofs.Fronts.{puts_start, puts_append, puts_next}
use Rattle.printed.proofs.Columns.{front_shown}

-- ---- outcomes
pub outcome_short : (n : ℕ) → length (outcome_line n) ≤ 29
outcome_short n = by (eqb n 0)
  where
    by : (t : Bool) → length (cond t ok_line (refused_head ++ ended n newline)) ≤ 29
    by true = omega arith
    by false = simp length-append (omega (arith, simp length-append at (ended_short n newline)))

pub outcomes_turn : (os : List ℕ) (i : ℕ) → i < length os → outcome_lines (drop i os) ≡ outcome_line (get_or os i 0) ++ outcome_lines (drop (i + 1) os)
outcomes_turn os i h = rw (drop-cons os i 0 h, add-one i)

pub outcomes_done : (os : List ℕ) (i : ℕ) → length os ≤ i → outcome_lines (drop i os) ≡ []
outcomes_done os i h = rw (drop_of_length-le os h)

module _ (n at : ℕ) (text l : List ℕ) where
  pub ok_laid : n ≡ 0 → l ≡ lay at ok_line text → Gives (appended (outcome_line n) at text) (at + 3) l
  ok_laid e g = rw e (record { answer = refl; memory = g })

  pub refused_laid : (n ≡ 0 → ⊥) → at + 29 ≤ length text → l ≡ lay at refused_head text → (r : ℕ) (m : List ℕ)
      → Gives (appended (ended n newline) (at + 8) l) r m
      → Gives (appended (outcome_line n) at text) r m
  refused_laid e h g r m k =
      rw (ne_eqb n 0 e) (record {
        answer = k.answer ∙ simp length-append (omega arith);
        memory = k.memory ∙ rw g (lay_next at refused_head (ended n newline) text (omega arith));
      })

-- ---- bytes
pub hex_short : (b : ℕ) (ends : Bool) → length (hex_byte b ends) ≤ 3
hex_short b true = omega arith
hex_short b false = omega arith

pub hex_turn : (bs : List ℕ) (i : ℕ) (ends : Bool) → i < length bs → ends ≡ ends_line i (length bs)
    → hex_from (length bs) i (drop i bs) ≡ hex_byte (get_or bs i 0) ends ++ hex_from (length bs) (i + 1) (drop (i + 1) bs)
hex_turn bs i ends h e = rw (drop-cons bs i 0 h, e, add-one i)

pub hex_done : (bs : List ℕ) (i : ℕ) → length bs ≤ i → hex_from (length bs) i (drop i bs) ≡ []
hex_done bs i h = rw (drop_of_length-le bs h)

module _ (b at x y : ℕ) (text l : List ℕ) (p : x ≡ hex_digit (b / 16)) (q : y ≡ hex_digit (b % 16)) (g : l ≡ lay at (x ∷ y ∷ []) text) where
  pub byte_laid : Gives (appended (hex_byte b false) at text) (at + 2) l
  byte_laid = rw (← p, ← q) (record { answer = refl; memory = g })

  pub byte_ended : at + 3 ≤ length text → (m : List ℕ) → m ≡ lay (at + 2) (newline ∷ []) l
      → Gives (appended (hex_byte b true) at text) (at + 3) m
  byte_ended h m k = rw (← p, ← q) (record { answer = refl; memory = k ∙ rw g (lay_next at (x ∷ y ∷ []) (newline ∷ []) text (omega arith)) })

-- ---- what the room is for: the bytes never take more
pub outcomes_long : (os : List ℕ) → length (outcome_lines os) ≤ 29 * length os
outcomes_long [] = omega arith
outcomes_long (n ∷ os) = rw (length-append (outcome_line n) (outcome_lines os)) (omega (arith, outcome_short n, outcomes_long os))

pub hex_long : (n i : ℕ) (bs : List ℕ) → length (hex_from n i bs) ≤ 3 * length bs
hex_long n i [] = omega arith
hex_long n i (b ∷ bs) = rw (length-append (hex_byte b (ends_line i n)) (hex_from n (suc i) bs)) (omega (arith, hex_short b (ends_line i n), hex_long n (suc i) bs))

pub tile_short : (os bs : List ℕ) → length (tile_text os bs) ≤ tile_room os bs
tile_short os bs = simp length-append (omega (arith, simp length-append at (ended_short (length bs) newline), outcomes_long os, hex_long (length bs) 0 bs))

-- ---- the whole answer
pub tile_shown : (text l1 l2 l3 l4 : List ℕ) (r1 r3 r4 : ℕ) (os bs : List ℕ) → tile_room os bs ≤ length text
    → Gives (appended (outcome_lines os) 0 text) r1 l1 → l2 ≡ lay r1 bytes_head l1
    → Gives (appended (ended (length bs) newline) (r1 + 6) l2) r3 l3
    → Gives (appended (hex_lines bs) r3 l3) r4 l4 → Gives (shown (tile_room os bs) (tile_text os bs) text) r4 l4
tile_shown text l1 l2 l3 l4 r1 r3 r4 os bs h g1 e2 g3 g4 =
    let a = ended_short (length bs) newline in
    let o = outcomes_long os in
    let x = hex_long (length bs) 0 bs in
    let z : r1 ≡ length (outcome_lines os) = omega (arith, g1.answer) in
    let f1 : Puts (outcome_lines os) text r1 l1 = rw z (puts_start (outcome_lines os) text l1 g1.memory) in
    let f2 = puts_append f1 bytes_head (omega arith) l2 e2 in
    let f3 = puts_next f2 (ended (length bs) newline) (simp length-append (omega (arith, simp length-append at a))) r3 l3 g3 in
    front_shown (tile_room os bs) h (puts_next f3 (hex_lines bs) (simp length-append (omega (arith, simp length-append at a))) r4 l4 g4)
