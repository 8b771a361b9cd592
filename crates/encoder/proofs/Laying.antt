-- A store is a word laid, where there is room.
--     fitting_long    for callers: a run that fits leaves the list as long as it was
use Rattle.std.specs.Prelude.{Option, Some, None}
use mathlib.Core.Path.{◌≡◌, sym, ◌∙◌, ap}
use mathlib.Core.List.{List, [], ◌∷◌}
use Prim.Native.Nat.{ℕ, ◌<◌}
use native.Mathlib.Omega.{arith}
use lib.ListN.{length, set}
use Rattle.promise.specs.Laid.{lay}
use Rattle.promise.proofs.Laying.{lay_one, lay_nothing, length_lay}
use Rattle.encoder.specs.Pushed.{word_of}
use Rattle.encoder.specs.Ends.{Fitting}

pub fitting_long : (at : ℕ) (run l : List ℕ) → Fitting at run (length l) → length (lay at run l) ≡ length l
fitting_long at [] l F = ap length (lay_nothing at l)
fitting_long at (w ∷ ws) l F = length_lay at (w ∷ ws) l (F.fits (omega arith))

-- ---- a word, by its cases
module _ (at : ℕ) (word : Option ℕ) (l : List ℕ) where
  module _ (F : Fitting at (word_of word) (length l)) (w : ℕ) (e : word ≡ Some w) where
    pub word_in : at < length l
    word_in = let G : Fitting at (w ∷ []) (length l) = rw e at F in omega (arith, G.fits (omega arith))

-- ---- the end of a part: a and b are the list after the first word and after the second
module _ (place used : ℕ) (counted close : List ℕ) (v w : Option ℕ) (l a : List ℕ) (e : word_of v ≡ counted) (f : word_of w ≡ close) where
  pub first_fits : Fitting place counted (length l) → Fitting place (word_of v) (length l)
  first_fits F = rw e F

  module _ (g : a ≡ lay place (word_of v) l) where
    pub second_fits : Fitting place counted (length l) → Fitting used close (length l) → Fitting used (word_of w) (length a)
    second_fits F G =
        let n : length a ≡ length l = ap length g ∙ fitting_long place (word_of v) l (first_fits F) in
        rw (f, n) G
