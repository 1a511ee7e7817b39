-- `names::add` meets its contract: the new row and the slot's head.
-- Assumes nothing.
use borrow.Author.Rules.{rules}
use Rattle.csv_text.specs.Part.{part}
use Rattle.names.proofs.Adding.{book_more, added, row_1, row_2, row_b}
use Rattle.names.proofs.add.Goals as goal

pub bounds-book-row-2 : goal.bounds-book-row-2
bounds-book-row-2 c = search (rules, row_1)

pub bounds-book-row-3 : goal.bounds-book-row-3
bounds-book-row-3 c = search (rules, row_2)

pub bounds-book-b : goal.bounds-book-b
bounds-book-b c = search (rules, row_b)

pub returns-clause-book_2 : goal.returns-clause-book_2
unfolding part
returns-clause-book_2 c = search (rules, book_more)

pub returns-clause-added : goal.returns-clause-added
unfolding part
returns-clause-added c = search (rules, added)
