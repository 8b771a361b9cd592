-- The numbers asked for are the table's.
use Rattle.printed.proofs.faults.has_place.Goals as goal

pub returns : goal.returns
returns c = rw (c.number-none.ensures, c.number-cut.ensures)
