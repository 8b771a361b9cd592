-- By what the first pass answers; ROOM is asked after it, for the words and for the vertices.
use borrow.Author.Rules.{rules}
use Rattle.decoder.proofs.Decodes.{decode_bad, decode_over, decode_triple, decode_short, decode_fits, decode_done}
use Rattle.decoder.proofs.decode.Goals as goal

pub overflow_mul-n : goal.overflow_mul-n
overflow_mul-n c = let e = c.in_ok-n.was in search (rules, decode_triple)
