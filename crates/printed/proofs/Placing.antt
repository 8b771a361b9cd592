-- A refusal's line: with its place where it has one, else by itself.
use mathlib.Core.Path.{◌≡◌}
use mathlib.Core.Bool.{Bool, true, false, cond}
use mathlib.Core.List.{List, ◌++◌}
use Prim.Native.Nat.{ℕ, ◌≤◌}
use native.Mathlib.Omega.{arith}
use lib.ListN.{length, length-append}
use Rattle.promise.specs.Answers.{Gives}
use Rattle.promise.specs.Laid.{lay}
use Rattle.promise.proofs.Fronts.{puts_start, puts_next}
use Rattle.printed.specs.Decimal.{ended}
use Rattle.printed.specs.Lending.{appended}
use Rattle.printed.specs.Printed.{newline, shown, refused_head, refused_text, refused_room}
use Rattle.printed.specs.Faults.{has_place, fault_text}
use Rattle.printed.proofs.Decimals.{ended_short}
use Rattle.printed.proofs.Columns.{front_shown, refused_short}

module _ (number place : ℕ) (text : List ℕ) where
  pub placed_shown : {b : Bool} → b ≡ has_place number → b ≡ true → {r : ℕ} {l : List ℕ}
      → Gives (shown refused_room (refused_text number place) text) r l → Gives (shown refused_room (fault_text number place) text) r l
  unfolding fault_text
  placed_shown e t g = let h : has_place number ≡ true = rw (← e) t in rw h g

  pub plain_shown : {b : Bool} → b ≡ has_place number → b ≡ false → (l : List ℕ) (r : ℕ) (m : List ℕ) → refused_room ≤ length text → l ≡ lay 0 refused_head text
      → Gives (appended (ended number newline) 8 l) r m → Gives (shown refused_room (fault_text number place) text) r m
  unfolding fault_text
  plain_shown e f l r m h g k =
      let n : has_place number ≡ false = rw (← e) f in
      let a = ended_short number newline in
      rw n (front_shown refused_room h (puts_next (puts_start refused_head text l g) (ended number newline) (omega arith) r m k))

-- what the room is for: the bytes never take more
pub fault_short : (number place : ℕ) → length (fault_text number place) ≤ refused_room
unfolding fault_text
fault_short number place = by (has_place number)
  where
    by : (t : Bool) → length (cond t (refused_text number place) (refused_head ++ ended number newline)) ≤ refused_room
    by true = refused_short number place
    by false = simp length-append (omega (arith, simp length-append at (ended_short number newline)))
