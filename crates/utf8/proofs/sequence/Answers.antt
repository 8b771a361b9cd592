-- Each return is a row of the table, met where the rows before it are passed.
use borrow.Author.Rules.{rules}
use Rattle.utf8.proofs.Laws.{row_1, row_2, row_3, row_4, row_5, row_6, row_7, row_8, row_9, no_row}
use Rattle.utf8.proofs.sequence.Goals as goal

pub returns-then-a-le-ASCII_HIGH : goal.returns-then-a-le-ASCII_HIGH
returns-then-a-le-ASCII_HIGH c = search (rules, row_1)

pub returns-then-a : goal.returns-then-a
returns-then-a c = search (rules, row_2)

pub returns-then-a-2 : goal.returns-then-a-2
returns-then-a-2 c = search (rules, row_3)

pub returns-then-a-3 : goal.returns-then-a-3
returns-then-a-3 c = search (rules, row_4)

pub returns-then-a-4 : goal.returns-then-a-4
returns-then-a-4 c = search (rules, row_5)

pub returns-then-a-5 : goal.returns-then-a-5
returns-then-a-5 c = search (rules, row_6)

pub returns-then-a-6 : goal.returns-then-a-6
returns-then-a-6 c = search (rules, row_7)

pub returns-then-a-7 : goal.returns-then-a-7
returns-then-a-7 c = search (rules, row_8)

pub returns-then-a-8 : goal.returns-then-a-8
returns-then-a-8 c = search (rules, row_9)

pub returns : goal.returns
returns c = search (rules, no_row)
