-- The count's line and the vertices' are laid one behind the other; with fewer bytes than they may take, or where an id has more digits, nothing is.
use Prim.Native.Nat.{◌/◌}
use mathlib.Core.Path.{◌≡◌, sym, ◌∙◌}
use mathlib.Core.Bool.{true}
use native.Mathlib.Omega.{arith}
use borrow.Author.Tests.{not-true, not-false}
use lib.ListN.{length}
use Rattle.printed.specs.Losses.{vertices_head}
use Rattle.printed.specs.Vertices.{digit_ids}
use Rattle.printed.proofs.Lines.{line_short}
use Rattle.printed.proofs.Triples.{vertices_not, vertices_no_digit, vertices_inside, vertices_shown_lem}
use borrow.Author.Rules.{rules}
use Rattle.printed.proofs.vertices.show_vertices.Goals as goal
use Rattle.printed.proofs.vertices.show_vertices.Tie as tie
use Rattle.printed.proofs.vertices.show_vertices.Reads as contract
use Rattle.printed.proofs.vertices.show_vertices.Lts as places

-- the places on the way that the lemmas below speak of
abbrev Else-not-digit_ids : Type 0
Else-not-digit_ids = places.Else3 tie.the-claims contract.Pre contract.Post tie.handed_clauses

digits : (c : Else-not-digit_ids) → digit_ids c.args.numbers.now ≡ true
digits c = sym c.digit_ids.ensures ∙ not-false c.digit_ids.result c.if-not-digit_ids.false-raw

pub returns-then-size-lt70 : goal.returns-then-size-lt70
returns-then-size-lt70 c = let a = c.args in record { shows = vertices_not a.numbers.now a.text.now (omega arith); inside = search rules }

pub returns-then-size-numbers : goal.returns-then-size-numbers
returns-then-size-numbers c = let a = c.args in record { shows = vertices_not a.numbers.now a.text.now (omega arith); inside = search rules }

pub returns-then-not-digit_ids : goal.returns-then-not-digit_ids
returns-then-not-digit_ids c =
    let a = c.args in
    record { shows = vertices_no_digit a.numbers.now a.text.now (sym c.digit_ids.ensures ∙ not-true c.digit_ids.result c.if-not-digit_ids.true-raw); inside = search rules }

pub append_vertices-requires : goal.append_vertices-requires
append_vertices-requires c = record { numbers_value = digits c.before.before.before.before.before.before.before; numbers_in_bounds = omega (arith, c.append_line-at.ensures.answer, line_short vertices_head (length c.args.numbers.now / 3)) }

pub returns : goal.returns
returns c =
    let k = vertices_shown_lem c.args.text.now _ _ _ c.args.numbers.now (omega arith) c.append_line-at.ensures c.append_vertices.ensures.inside _ (digits c.before.before.before.before.before.before.before.before.before.before.before) c.append_vertices.ensures.appends in
    record { shows = k; inside = vertices_inside c.args.text.now _ _ _ c.args.numbers.now (omega arith) c.append_line-at.ensures c.append_vertices.ensures.inside }
