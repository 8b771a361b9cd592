-- `affine::grid_of` meets its contract: the nearest whole number within the limit, else the one beyond.
use Rattle.std.proofs.Common.{◌≡◌, true, false, T, sym, ◌∙◌, subst}
use Rattle.whole.proofs.Machine.{back}
use Rattle.clip.specs.Domain.{within}
use Rattle.affine.specs.Grid.{whole_of}
use Rattle.affine.proofs.Answers.{on_grid, off_grid}
use mir.Syntax.{w32}
use Rattle.affine.proofs.grid_of.Goals as goal
use Rattle.affine.proofs.grid_of.Tie as tie
use Rattle.affine.proofs.grid_of.Reads as contract
use Rattle.affine.proofs.grid_of.Lts as places

-- the places on the way that the lemmas below speak of
abbrev Then-is_on_grid : Type 0
Then-is_on_grid = places.Then1 tie.the-claims contract.Pre contract.Post

abbrev Else-is_on_grid : Type 0
Else-is_on_grid = places.Else1 tie.the-claims contract.Pre contract.Post

-- what the test has told
on : (c : Then-is_on_grid) → within (whole_of c.args.x) ≡ true
on c = sym c.is_on_grid.ensures ∙ c.if-is_on_grid.true

off : (c : Else-is_on_grid) → within (whole_of c.args.x) ≡ false
off c = sym c.is_on_grid.ensures ∙ c.if-is_on_grid.false

pub whole_of-requires : goal.whole_of-requires
whole_of-requires c = subst T (sym (on c)) tt

pub returns-then-is_on_grid : goal.returns-then-is_on_grid
returns-then-is_on_grid c = back {w = w32} (record { sfits = c.whole_of.type_inv }) ∙ c.whole_of.ensures ∙ on_grid c.args.x (on c.before)

pub returns : goal.returns
returns c = off_grid c.args.x (off c)
