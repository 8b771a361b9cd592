-- A loop that lays a run element by element: its invariant, and the laws of its start, its turn and its end. Once for every element type and every such loop.
use mathlib.Core.Path.{◌≡◌, refl, sym, ◌∙◌}
use mathlib.Core.List.{List}
use Prim.Native.Nat.{ℕ, ◌+◌, ◌<◌, ◌≤◌}
use native.Mathlib.Numerals.{add-one}
use native.Mathlib.Omega.{arith}
use lib.ListN.{length, take, get_or, set, length-set}
use lib.Seq.{take_all}
use Rattle.promise.specs.Laid.{lay}
use Rattle.promise.proofs.Laying.{lay_nothing, lay_store}

-- of the run, which fits at its place of l₀, the first i elements are laid
pub record Copied {E : Type 0} (run : List E) (at : ℕ) (l₀ l : List E) (i : ℕ) : Type 0 where
  pub few : i ≤ length run
  pub fits : at + length run ≤ length l₀
  pub long : length l ≡ length l₀
  pub laid : l ≡ lay at (take i run) l₀

module _ {E : Type 0} {run : List E} {at : ℕ} {l₀ : List E} where
  pub copy_start : at + length run ≤ length l₀ → Copied run at l₀ l₀ 0
  copy_start h = record { few = omega arith; fits = h; long = refl; laid = sym (lay_nothing at l₀) }

  module _ {l : List E} {i : ℕ} (c : Copied run at l₀ l i) where
    pub copy_turn : (j : ℕ) (v d : E) → j ≡ at + i → v ≡ get_or run i d → i < length run → Copied run at l₀ (set l j v) (i + 1)
    copy_turn j v d e f h = record {
      few = omega arith;
      fits = c.fits;
      long = length-set l j v ∙ c.long;
      laid = rw (e, f, c.laid) (lay_store at i (i + 1) run l₀ d h c.fits (add-one i));
    }

    pub copy_done : length run ≤ i → l ≡ lay at run l₀
    copy_done h = let e : take i run ≡ run = take_all i run h in rw e at c.laid
