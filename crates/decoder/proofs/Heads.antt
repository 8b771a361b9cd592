-- What a command word asks for, by what `CommandInt::decode` says of it.
use Prim.Native.Nat.{ℕ}
use mathlib.Core.Path.{◌≡◌, refl, ◌∙◌}
use mathlib.Core.Bool.{Bool, true, false, cond, not}
use lib.Dec.{eqb}
use Rattle.refusal.specs.declared.Refusal.{Refusal}
use Rattle.words.specs.declared.command.Command.TheVariants.{MoveTo, LineTo, ClosePath}
use Rattle.words.specs.declared.command.CommandInt.{CommandInt}
use Rattle.words.specs.Commands.{decoded, said_command}
use Rattle.words.proofs.Commands.{decoded_none, decoded_some}
use Rattle.decoder.specs.declared.pen.Head.{Head}
use Rattle.decoder.specs.declared.pen.Head.TheVariants.{Draw, Close, Miscounted, Unknown}
use Rattle.decoder.specs.Passing.{head_of}
use Rattle.std.specs.Prelude.{Result, Ok, Err}

turned : (b : Bool) → cond b Close Miscounted ≡ cond (not b) Miscounted Close
turned true = refl
turned false = refl

module _ (word : ℕ) (r : Result CommandInt Refusal) (said : said_command r ≡ decoded word) where
  -- ---- each `return` of head_of
  pub head_unknown : (k : Refusal) → r ≡ Err k → Unknown ≡ head_of word
  head_unknown k e = rw (decoded_none word r said k e)

  module _ (c : CommandInt) (e : r ≡ Ok c) where
    pub head_close : c.id ≡ ClosePath → (h : Head) → h ≡ cond (eqb c.count 1) Close Miscounted → h ≡ head_of word
    head_close f h g = let (t, i, n) = decoded_some word r said c e in rw (t, ← i, f, ← n) (g ∙ turned (eqb c.count 1))

    pub head_move : c.id ≡ MoveTo → (h : Head) → h ≡ cond (eqb c.count 0) Miscounted (Draw 1 c.count) → h ≡ head_of word
    head_move f h g = let (t, i, n) = decoded_some word r said c e in rw (t, ← i, f, ← n) g

    pub head_line : c.id ≡ LineTo → (h : Head) → h ≡ cond (eqb c.count 0) Miscounted (Draw 2 c.count) → h ≡ head_of word
    head_line f h g = let (t, i, n) = decoded_some word r said c e in rw (t, ← i, f, ← n) g
