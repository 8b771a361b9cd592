-- How many layers a good tile has.
use Rattle.std.specs.Prelude.{ℕ, cond, List, length, Option, Some, None}
use Rattle.messages.specs.Tiles.{is_good}
use Rattle.messages.specs.Meaning.{layer_fields}

unfoldable pub layers_of : List ℕ → Option ℕ
layers_of src = cond (is_good src) (Some (length (layer_fields src))) None
