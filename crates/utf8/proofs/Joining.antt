-- Texts that are UTF-8, one behind the other, are UTF-8: a writer that puts them together need not look again.
use Prim.Native.Nat.{ℕ}
use mathlib.Core.Path.{◌≡◌}
use mathlib.Core.Bool.{Bool, true, false, cond}
use mathlib.Core.List.{List, [], ◌∷◌, ◌++◌}
use Rattle.promise.proofs.Joined.{never}
use Rattle.utf8.specs.Utf8.{Range, Row, within, rows, by_row, awaits, is_utf8}

either : (t : Bool) {w x y z : Bool} → (w ≡ true → y ≡ true) → (x ≡ true → z ≡ true) → cond t w x ≡ true → cond t y z ≡ true
either true f g h = f h
either false f g h = g h

module _ (bs : List ℕ) (e : is_utf8 bs ≡ true) where
  by_first : (qs : List Row) (a : ℕ) (xs : List ℕ) → ((rs : List Range) → awaits rs xs ≡ true → awaits rs (xs ++ bs) ≡ true) → by_row qs a (λ rs. awaits rs xs) ≡ true → by_row qs a (λ rs. awaits rs (xs ++ bs)) ≡ true
  by_first [] a xs f h = h
  by_first (q ∷ qs) a xs f h = either (within q.first a) (f q.behind) (by_first qs a xs f) h

  behind : (rs : List Range) (xs : List ℕ) → awaits rs xs ≡ true → awaits rs (xs ++ bs) ≡ true
  behind [] [] h = e
  behind (r ∷ rs) [] h = never h
  behind [] (a ∷ xs) h = by_first rows a xs (λ rs g. behind rs xs g) h
  behind (r ∷ rs) (a ∷ xs) h = either (within r a) (behind rs xs) (λ g. g) h

pub joined : (xs bs : List ℕ) → is_utf8 xs ≡ true → is_utf8 bs ≡ true → is_utf8 (xs ++ bs) ≡ true
joined xs bs f e = behind bs e [] xs f
