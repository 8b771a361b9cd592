-- One end after the other.
use Rattle.encoder.proofs.Marks.{second_asked, ends_both}
use borrow.Author.Rules.{rules}
use Rattle.encoder.proofs.stretch.emit_ends.Goals as goal

pub emit_if-requires : goal.emit_if-requires
emit_if-requires c = let whole = second_asked _ _ c.args.ends _ c.requires.end0_value c.requires.end1_value _ _ c.emit_if-first.ensures c.requires.able (search rules) in record { able = whole.0; end_value = whole.1 }

pub returns : goal.returns
returns c = search (rules, ends_both)
