-- What the reader said, and the list as it left it.
use Rattle.brinepost_reader.proofs.Structs.{told_written}
use borrow.Author.Rules.{rules}
use Rattle.brinepost_reader.proofs.feature_words.bp_read_geometry.Goals as goal

pub returns : goal.returns
returns c = search (rules, told_written)
