-- What the reading message by message says of a tile, and the place of its fault, are the check's answer.
use Prim.Native.Nat.{ℕ}
use mathlib.Core.Path.{◌≡◌, refl, ap}
use mathlib.Core.Bool.{Bool, true, false, cond}
use mathlib.Core.List.{List}
use native.Mathlib.Omega.{arith}
use lib.ListN.{length}
use Rattle.std.specs.Prelude.{Some, None, Ok, Err}
use Rattle.refusal.specs.declared.Refusal.TheVariants.{Wire}
use Rattle.refusal.specs.Said.{placed}
use Rattle.messages.specs.Tiles.{is_good, Verdict, good, fault, Judges, Answers}
use Rattle.messages.specs.Meaning.{layer_fields}
use Rattle.scanning.specs.Places.{place_in}
use Rattle.tile_check.specs.Layers.{layers_of}
use Rattle.tile_check.specs.Checking.{checked}

module _ (src : List ℕ) where
  -- a tile of so many layers is good, and these are its layers
  pub check_good : (n : ℕ) → Some n ≡ layers_of src → Answers src (checked src) (Ok n)
  unfolding layers_of
  check_good n e = by (is_good src) refl e
    where
      by : (b : Bool) → is_good src ≡ b → Some n ≡ cond b (Some (length (layer_fields src))) None → Answers src (checked src) (Ok n)
      by true g e = let m : n ≡ length (layer_fields src) = cc in record { verdict = good; judged = g; is = ap Ok m }
      by false g e = absurd (let z : ◌≡◌ {A = ℕ} 0 1 = cc in omega arith)

  -- a tile that cannot be read is not good, and so its place is that of a fault
  pub check_not : None ≡ layers_of src → (place : ℕ) → Answers src (place_in src) place → Answers src (checked src) (Err (placed Wire place))
  unfolding layers_of
  check_not e place a = by a.verdict a.judged a.is
    where
      not_good : is_good src ≡ true → ⊥
      not_good g = let z : None ≡ Some (length (layer_fields src)) = rw g at e in let y : ◌≡◌ {A = ℕ} 0 1 = cc in omega arith

      by : (v : Verdict) → Judges src v → place ≡ place_in src v → Answers src (checked src) (Err (placed Wire place))
      by good j e = absurd (not_good j)
      by (fault p) j e = record { verdict = fault p; judged = j; is = ap (λ (q : ℕ). Err (placed Wire q)) e }
