-- Steps along a list.
use Prim.Native.Nat.{ℕ, suc, ◌<◌}
use mathlib.Core.Path.{◌≡◌}
use mathlib.Core.List.{List, ◌∷◌}
use lib.ListN.{length, get_or, drop}
use lib.Seq.{drop-cons}

pub next : (l : List ℕ) (j k : ℕ) → k ≡ suc j → j < length l → drop j l ≡ get_or l j 0 ∷ drop k l
next l j k e h = rw e (drop-cons l j 0 h)
