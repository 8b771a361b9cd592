-- `laid_in` by whether the run fits, for the functions that lay it and for their callers.
use Prim.Native.Nat.{ℕ, ◌+◌, ◌≤◌}
use mathlib.Core.Path.{◌≡◌, sym, ◌∙◌}
use mathlib.Core.Bool.{Bool, true, false, not}
use mathlib.Core.List.{List}
use lib.ListN.{length}
use lib.Dec.{leb}
use borrow.Author.Tests.{le-leb, leb-true, not-true, not-false}
use Rattle.promise.specs.Laid.{lay}
use Rattle.runs.specs.Fitting.{laid_in}

module _ {E : Type 0} (at : ℕ) (run l : List E) where
  pub laid_fits : at + length run ≤ length l → (l₂ : List E) → l₂ ≡ laid_in at run l → l₂ ≡ lay at run l
  laid_fits h l₂ e = rw (le-leb (at + length run) (length l) h) at e

  pub laid_is : at + length run ≤ length l → (l₂ : List E) → l₂ ≡ lay at run l → l₂ ≡ laid_in at run l
  laid_is h l₂ e = rw (le-leb (at + length run) (length l) h) e

  module _ (t : Bool) (g : t ≡ leb (at + length run) (length l)) where
    pub laid_not : not t ≡ true → l ≡ laid_in at run l
    laid_not h = rw (← g, not-true t h)

    pub laid_room : not t ≡ false → at + length run ≤ length l
    laid_room h = leb-true (at + length run) (length l) (sym g ∙ not-false t h)
