-- `names::is_name` meets its contract: the name's text stands in the file that its number says.
-- Assumes nothing.
use borrow.Author.Rules.{rules}
use Rattle.names.proofs.Chasing.{name_ordered, name_first, name_second, is_first, is_second}
use Rattle.names.proofs.is_name.Goals as goal

pub same-requires-clause-s_le_t : goal.same-requires-clause-s_le_t
same-requires-clause-s_le_t c = (search (rules, name_ordered), search (rules, name_first))

pub returns-then-i-shelf : goal.returns-then-i-shelf
returns-then-i-shelf c = search (rules, is_first)

pub same-requires-else-i-shelf-clause-s_le_t : goal.same-requires-else-i-shelf-clause-s_le_t
same-requires-else-i-shelf-clause-s_le_t c = (search (rules, name_ordered), search (rules, name_second))

pub returns-else-i-shelf : goal.returns-else-i-shelf
returns-else-i-shelf c = search (rules, is_second)
