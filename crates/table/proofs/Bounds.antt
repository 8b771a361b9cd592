-- What is found is among the entries: its index is below their number.
use Prim.Native.Nat.{ℕ, suc, ◌+◌, ◌*◌, ◌<◌}
use mathlib.Core.Path.{◌≡◌}
use mathlib.Core.Bool.{Bool, true, false, cond}
use mathlib.Core.List.{List, [], ◌∷◌}
use native.Mathlib.Omega.{arith}
use lib.ListN.{length}
use Rattle.std.specs.Prelude.{Option, Some}
use Rattle.table.specs.declared.Value.{Value}
use Rattle.table.specs.Texts.{same_text}
use Rattle.table.specs.Keys.{find_key}
use Rattle.table.specs.Values.{same_value, find_value}

key_or : (t : Bool) (j i n : ℕ) (f : Option ℕ) → (f ≡ Some i → i * 2 < suc j * 2 + n) → cond t (Some j) f ≡ Some i → i * 2 < j * 2 + suc (suc n)
key_or true j i n f g e = let q : j ≡ i = cc in omega arith
key_or false j i n f g e = omega (arith, g e)

pub key_below : (j : ℕ) (l ts key : List ℕ) (i : ℕ) → find_key j l ts key ≡ Some i → i * 2 < j * 2 + length l
key_below j [] ts key i e = absurd (let z : ◌≡◌ {A = ℕ} 0 1 = cc in omega arith)
key_below j (w ∷ []) ts key i e = absurd (let z : ◌≡◌ {A = ℕ} 0 1 = cc in omega arith)
key_below j (a ∷ b ∷ l) ts key i e = key_or (same_text ts a b key) j i (length l) (find_key (suc j) l ts key) (key_below (suc j) l ts key i) e

value_or : (t : Bool) (j i n : ℕ) (f : Option ℕ) → (f ≡ Some i → i * 3 < suc j * 3 + n) → cond t (Some j) f ≡ Some i → i * 3 < j * 3 + suc (suc (suc n))
value_or true j i n f g e = let q : j ≡ i = cc in omega arith
value_or false j i n f g e = omega (arith, g e)

pub value_below : (j : ℕ) (vs ts : List ℕ) (v : Value) (t : List ℕ) (i : ℕ) → find_value j vs ts v t ≡ Some i → i * 3 < j * 3 + length vs
value_below j [] ts v t i e = absurd (let z : ◌≡◌ {A = ℕ} 0 1 = cc in omega arith)
value_below j (a ∷ []) ts v t i e = absurd (let z : ◌≡◌ {A = ℕ} 0 1 = cc in omega arith)
value_below j (a ∷ b ∷ []) ts v t i e = absurd (let z : ◌≡◌ {A = ℕ} 0 1 = cc in omega arith)
value_below j (a ∷ b ∷ c ∷ vs) ts v t i e = value_or (same_value ts a b c v t) j i (length vs) (find_value (suc j) vs ts v t) (value_below (suc j) vs ts v t i) e
