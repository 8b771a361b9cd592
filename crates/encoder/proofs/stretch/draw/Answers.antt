-- A segment inside the box brings nothing, and its end is not moved by clamping.
use native.Mathlib.Omega.{arith}
use Rattle.clip.proofs.Callers.{coord_facts}
use Rattle.encoder.proofs.Marks.{less, draw_inside}
use borrow.Author.Rules.{rules}
use Rattle.encoder.proofs.stretch.draw.Goals as goal

pub emit-last-requires : goal.emit-last-requires
emit-last-requires c = record { able = less {m = 6} (omega arith) c.requires.steady.able; coord = coord_facts c.requires.p_value }

pub returns : goal.returns
returns c = search (rules, draw_inside)
