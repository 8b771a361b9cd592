-- A list lent to a call: at entry and at exit. What a call promises of the lists lent to it is one definition applied to the call's own.
use Rattle.std.specs.Prelude.{ℕ, List}
use denote.Triple.Both.{Both}
use Rattle.std.specs.Borrow.{Bor, MutBor}

abbrev pub LentOf : Type 0 → Type 0
LentOf A = Both (Bor (List A)) (Bor (List A))

abbrev pub Lent : Type 0
Lent = LentOf ℕ

-- a list that is lent to be changed, as one that is lent: what it holds at entry and at exit
abbrev pub mutable : {A : Type 0} → Both (MutBor (List A)) (MutBor (List A)) → LentOf A
mutable x = record {
  entry = record { ref_ptr = x.entry.ref_ptr; now = x.entry.now };
  exit = record { ref_ptr = x.exit.ref_ptr; now = x.exit.now };
}
