-- The used parts are there, since the tile breaks no rule of STATE; the search among them answers.
use native.Mathlib.Omega.{arith}
use mathlib.Core.Path.{sym}
use lib.Seq.{length-take-le}
use Rattle.tile.proofs.Standing.{parts, is_named}
use borrow.Author.Rules.{rules}
use Rattle.tile.proofs.Tile.has_name.Goals as goal

pub overflow_mul-n : goal.overflow_mul-n
overflow_mul-n c = record { fits = omega (arith, (parts _ _ _ c.requires).in_names) }

pub slice_bounds-key_pos-end : goal.slice_bounds-key_pos-end
slice_bounds-key_pos-end c = sym (length-take-le _ _ (parts _ _ _ c.requires).in_names)

pub slice_bounds-key_pos-end-2 : goal.slice_bounds-key_pos-end-2
slice_bounds-key_pos-end-2 c = sym (length-take-le _ _ (parts _ _ _ c.requires).in_bytes)

pub returns : goal.returns
returns c = search (rules, is_named)
