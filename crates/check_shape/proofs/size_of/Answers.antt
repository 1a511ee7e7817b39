-- `size_of`: a section ends where the next begins.
use borrow.Author.Rules.{rules}
use Rattle.check_shape.proofs.Rooms.{size_is, size_within}
use Rattle.check_shape.proofs.size_of.Goals as goal

pub returns-clause-value : goal.returns-clause-value
returns-clause-value c = search (rules, size_is)

pub returns-clause-upper_bound : goal.returns-clause-upper_bound
returns-clause-upper_bound c = search (rules, size_within)
