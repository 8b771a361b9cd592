-- Worked examples: an extent of 4096, then one operation.
use mathlib.Core.Path.{◌≡◌, refl}
use mathlib.Core.Bool.{true, false}
use mathlib.Core.List.{[], ◌∷◌}
use Rattle.std.specs.Prelude.{Some, None}
use Rattle.script.specs.declared.Op.TheVariants.{Create, Tag}
use Rattle.script.specs.declared.Value.TheVariants.{Bool as BoolValue}
use Rattle.script.specs.Script.{part, creates, valued, tags, bool_at, operation}

-- a layer "a" of extent 4096; the same, strict
creates_a : operation (4096 ∷ 1 ∷ 4096 ∷ 1 ∷ 97 ∷ []) 1 ≡ Some (Create 4096 (part 4 1) false, 5)
unfolding operation creates
creates_a = refl

strict_a : operation (4096 ∷ 8 ∷ 4096 ∷ 1 ∷ 97 ∷ []) 1 ≡ Some (Create 4096 (part 4 1) true, 5)
unfolding operation creates
strict_a = refl

-- the same name with a filling byte of 1
filled_up : operation (4096 ∷ 1 ∷ 4096 ∷ 1 ∷ 353 ∷ []) 1 ≡ None
unfolding operation creates
filled_up = refl

-- key "a", a bool that is true; a bool of 2
tags_true : operation (4096 ∷ 4 ∷ 1 ∷ 97 ∷ 7 ∷ 1 ∷ []) 1 ≡ Some (Tag (part 3 1) (BoolValue true), 6)
unfolding operation tags valued bool_at
tags_true = refl

no_bool : operation (4096 ∷ 4 ∷ 1 ∷ 97 ∷ 7 ∷ 2 ∷ []) 1 ≡ None
unfolding operation tags valued bool_at
no_bool = refl
