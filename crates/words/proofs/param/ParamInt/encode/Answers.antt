-- At 64 bits neither form overflows, and either fits a word, at the least i32 too.
use lib.IntN.{pos, negsuc, ◌-ℤ◌, ◌*ℤ◌}
use mir.Syntax.{w32, w64}
use mir.Val.{SFits}
use mir.Facts.{sfits_lit}
use borrow.Author.Rules.{rules}
use Rattle.whole.proofs.Machine.{Back, back, widened, le_true, le_false}
use Rattle.words.proofs.Params.{IsWord, twice, minus_twice, one_less, even_is, odd_is}
use Rattle.words.proofs.param.ParamInt.encode.Goals as goal
use Rattle.words.proofs.param.ParamInt.encode.Reads as reads
use Rattle.words.proofs.param.ParamInt.encode.Lts as lts

-- the places on the way that the lemmas below speak of
abbrev Start : Type 0
Start = lts.Start reads.Pre reads.Post

abbrev Then-n-ge0 : Type 0
Then-n-ge0 = lts.Then1 reads.Pre reads.Post

abbrev Else-n-ge0 : Type 0
Else-n-ge0 = lts.Else1 reads.Pre reads.Post

-- the value, and what the machine reads back from the bits of each number on the way
module _ (s : Start) where
  fit : SFits w32 s.args.self.value
  fit = search rules

  value : Back w32 s.args.self.value
  value = back fit

  wide : Back w64 s.args.self.value
  wide = back (widened fit)

  even : Back w64 (pos 2 *ℤ s.args.self.value)
  even = back (twice fit)

  odd : Back w64 (negsuc 1 *ℤ s.args.self.value)
  odd = back (minus_twice fit)

  less : Back w64 (negsuc 1 *ℤ s.args.self.value -ℤ pos 1)
  less = back (one_less fit)

ruleset read = (value, wide, even, odd, less)

above : (c : Then-n-ge0) → IsWord c.args.self.value (pos 2 *ℤ c.args.self.value)
above c =
    let f = fit c.before.before.before in
    even_is f (le_true w64 (sfits_lit tt) (widened f) (simp value at c.if-n-ge0.true))

below : (c : Else-n-ge0) → IsWord c.args.self.value (negsuc 1 *ℤ c.args.self.value -ℤ pos 1)
below c =
    let f = fit c.before.before.before in
    odd_is f (le_false w64 (sfits_lit tt) (widened f) (simp value at c.if-n-ge0.false))

pub returns-then-n-ge0 : goal.returns-then-n-ge0
returns-then-n-ge0 c = simp read (above c).is

pub returns-else-n-ge0 : goal.returns-else-n-ge0
returns-else-n-ge0 c = simp read (below c).is
