-- The head, the count and the column are laid one behind the other; with fewer bytes than they may take nothing is.
use native.Mathlib.Omega.{arith}
use lib.ListN.{length}
use Rattle.printed.specs.Printed.{newline, words_room, words_text}
use Rattle.printed.proofs.Decimals.{ended_short}
use Rattle.printed.proofs.Columns.{not_shown, words_shown}
use Rattle.printed.proofs.show_words.Goals as goal

pub returns-then-text-lt27 : goal.returns-then-text-lt27
returns-then-text-lt27 c = not_shown (words_room c.args.words.now) (words_text c.args.words.now) c.args.text.now (omega arith)

pub returns-then-text-n : goal.returns-then-text-n
returns-then-text-n c = not_shown (words_room c.args.words.now) (words_text c.args.words.now) c.args.text.now (omega arith)

pub append_words-requires : goal.append_words-requires
append_words-requires c =
    omega (arith, c.append_number-at.ensures.answer, ended_short (length c.args.words.now) newline)

pub returns : goal.returns
returns c =
    words_shown c.args.text.now _ _ _ _ _ c.args.words.now (omega arith) c.append.ensures c.append_number-at.ensures c.append_words.ensures
