-- A run of the texts that is compared with the key is what `same_text` says of it.
use Prim.Native.Nat.{ℕ, ◌+◌, ◌-◌, ◌≤◌}
use mathlib.Core.Path.{◌≡◌, refl}
use mathlib.Core.Bool.{Bool, true, false, cond, ◌&&◌}
use mathlib.Core.List.{List, [], ◌∷◌}
use native.Mathlib.Omega.{arith}
use lib.ListN.{length, take, drop}
use lib.Dec.{eqb}
use borrow.Author.Tests.{le-leb, eq-eqb}
use Rattle.std.specs.Cmp.Lexicographic.{pointwise}
use Rattle.table.specs.Texts.{begins, same_text}

begins_is : (l key : List ℕ) → pointwise eqb (take (length key) l) key ≡ begins l key
begins_is [] [] = refl
begins_is [] (b ∷ key) = refl
begins_is (x ∷ l) [] = refl
begins_is (x ∷ l) (b ∷ key) = rw (begins_is l key) (by (eqb x b) (begins l key))
  where
    by : (x y : Bool) → (x && y) ≡ cond x y false
    by true y = refl
    by false y = refl

module _ (texts : List ℕ) (start len : ℕ) (key : List ℕ) where
  pub text_is : len ≡ length key → start ≤ length texts → len ≤ length texts - start → pointwise eqb (take len (drop start texts)) key ≡ same_text texts start len key
  text_is e a h = rw (le-leb (start + len) (length texts) (omega arith), eq-eqb len (length key) e, e) (begins_is (drop start texts) key)
