-- `same_content`, `same_value` and `value_ok` at returns of the functions that compute them, over plain lists and numbers.
use Prim.Native.Nat.{ℕ, ◌+◌}
use mathlib.Core.Path.{◌≡◌}
use mathlib.Core.Bool.{Bool, false, ◌&&◌}
use mathlib.Core.List.{List}
use lib.Dec.{leb, eqb}
use borrow.Author.Tests.{eq-eqb}
use Rattle.table.specs.declared.Value.{Value}
use Rattle.promise.specs.Widened.{Wide}
use Rattle.table.specs.Texts.{same_text}
use Rattle.table.specs.Values.{is_zero, same_content, same_value, value_ok}

-- ---- `same_content`
module _ (kind low high low₂ high₂ : ℕ) where
  pub zeros : (a b : Bool) → (eqb low low₂ && eqb high high₂) ≡ false → a ≡ is_zero kind low high → b ≡ is_zero kind low₂ high₂ → (a && b) ≡ same_content kind low high low₂ high₂
  zeros a b h p q = rw (h, p, q)

-- ---- `same_value`
module _ (ts : List ℕ) (kind low high : ℕ) (v : Value) (t : List ℕ) where
  pub same_texts : kind ≡ v.kind → kind ≡ 1 → (start len : ℕ) → Wide low start → Wide high len → (b : Bool) → b ≡ same_text ts start len t → b ≡ same_value ts kind low high v t
  same_texts e k start len a z b g = rw (eq-eqb _ _ e, eq-eqb _ _ k, ← a.same, ← z.same) g

-- ---- `value_ok`
module _ (bytes kind low high : ℕ) where
  pub text_ok : kind ≡ 1 → (start len : ℕ) → Wide low start → Wide high len → (b : Bool) → b ≡ leb (start + len) bytes → b ≡ value_ok bytes kind low high
  text_ok k start len a z b g = rw (eq-eqb _ _ k, ← a.same, ← z.same) g
