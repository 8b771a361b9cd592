-- `noted` at each return of `note`.
use Prim.Native.Nat.{ℕ}
use mathlib.Core.Path.{◌≡◌}
use mathlib.Core.Bool.{Bool, true, false, not}
use mathlib.Core.List.{List}
use lib.ListN.{length}
use borrow.Author.Tests.{not-true, not-false}
use Rattle.std.specs.Prelude.{Option, Some, None}
use Rattle.index.specs.Chains.{serves, pushed}
use Rattle.layer.specs.Lookup.{noted}

module _ (l : List ℕ) (room : ℕ) (f : Option ℕ) (n h : ℕ) (t : Bool) (g : t ≡ serves (length l) room) where
  pub note_none : not t ≡ true → l ≡ noted l room f n h
  note_none k = rw (← g, not-true t k)

  pub note_old : not t ≡ false → (j : ℕ) → f ≡ Some j → l ≡ noted l room f n h
  note_old k j e = rw (← g, not-false t k, e)

  pub note_new : not t ≡ false → f ≡ None → (l₂ : List ℕ) → l₂ ≡ pushed l n h → l₂ ≡ noted l room f n h
  note_new k e l₂ p = rw (← g, not-false t k, e) p
