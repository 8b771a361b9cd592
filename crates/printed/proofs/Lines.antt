-- The lines of counts: a line is its name and its number, and the five stand one behind the other.
use mathlib.Core.Path.{◌≡◌, ◌∙◌}
use mathlib.Core.List.{List, ◌++◌}
use Prim.Native.Nat.{ℕ, ◌+◌, ◌≤◌}
use native.Mathlib.Omega.{arith}
use lib.ListN.{length, length-append}
use Rattle.promise.specs.Answers.{Gives}
use Rattle.promise.specs.Laid.{lay}
use Rattle.promise.proofs.Fronts.{puts_none, puts_next}
use Rattle.promise.proofs.Laying.{lay_next}
use Rattle.printed.specs.Decimal.{ended}
use Rattle.printed.specs.Lending.{appended}
use Rattle.printed.specs.Printed.{newline, shown}
use Rattle.printed.specs.Losses.{taken_head, boundary_head, skipped_head, out_head, vertices_head, headed, losses_text, losses_room}
use Rattle.printed.proofs.Decimals.{ended_short}
use Rattle.printed.proofs.Columns.{front_shown}

-- ---- a line
pub line_short : (head : List ℕ) (n : ℕ) → length (headed head n) ≤ length head + 21
line_short head n = rw (length-append head (ended n newline)) (omega (arith, ended_short n newline))

pub line_laid : (head : List ℕ) (n at r : ℕ) (text l m : List ℕ) → at + length head + 21 ≤ length text → l ≡ lay at head text
    → Gives (appended (ended n newline) (at + length head) l) r m → Gives (appended (headed head n) at text) r m
line_laid head n at r text l m h e g = record {
  answer = g.answer ∙ rw (length-append head (ended n newline)) (omega arith);
  memory = g.memory ∙ rw e (lay_next at head (ended n newline) text (omega arith));
}

-- ---- five lines, one behind the other
module _ (k l m n o : List ℕ) (p : length k ≤ 27) (q : length l ≤ 30) (r : length m ≤ 29) (s : length n ≤ 31) (t : length o ≤ 30) where
  five_short : length (k ++ l ++ m ++ n ++ o) ≤ losses_room
  five_short = simp length-append (omega arith)

  five_shown : (text l1 l2 l3 l4 l5 : List ℕ) (r1 r2 r3 r4 r5 : ℕ) → losses_room ≤ length text
      → Gives (appended k 0 text) r1 l1 → Gives (appended l r1 l1) r2 l2 → Gives (appended m r2 l2) r3 l3 → Gives (appended n r3 l3) r4 l4 → Gives (appended o r4 l4) r5 l5
      → Gives (shown losses_room (k ++ l ++ m ++ n ++ o) text) r5 l5
  five_shown text l1 l2 l3 l4 l5 r1 r2 r3 r4 r5 h g1 g2 g3 g4 g5 =
      let f1 = puts_next (puts_none text) k (omega arith) r1 l1 g1 in
      let f2 = puts_next f1 l (omega arith) r2 l2 g2 in
      let f3 = puts_next f2 m (simp length-append (omega arith)) r3 l3 g3 in
      let f4 = puts_next f3 n (simp length-append (omega arith)) r4 l4 g4 in
      front_shown losses_room h (puts_next f4 o (simp length-append (omega arith)) r5 l5 g5)

-- ---- the answer
module _ (a b c d e : ℕ) where
  pub losses_short : length (losses_text a b c d e) ≤ losses_room
  losses_short =
      five_short (headed taken_head a) (headed boundary_head b) (headed skipped_head c) (headed out_head d) (headed vertices_head e)
      (line_short taken_head a) (line_short boundary_head b) (line_short skipped_head c) (line_short out_head d) (line_short vertices_head e)

  pub losses_shown : (text l1 l2 l3 l4 l5 : List ℕ) (r1 r2 r3 r4 r5 : ℕ) → losses_room ≤ length text
      → Gives (appended (headed taken_head a) 0 text) r1 l1 → Gives (appended (headed boundary_head b) r1 l1) r2 l2 → Gives (appended (headed skipped_head c) r2 l2) r3 l3
      → Gives (appended (headed out_head d) r3 l3) r4 l4 → Gives (appended (headed vertices_head e) r4 l4) r5 l5
      → Gives (shown losses_room (losses_text a b c d e) text) r5 l5
  losses_shown =
      five_shown (headed taken_head a) (headed boundary_head b) (headed skipped_head c) (headed out_head d) (headed vertices_head e)
      (line_short taken_head a) (line_short boundary_head b) (line_short skipped_head c) (line_short out_head d) (line_short vertices_head e)
