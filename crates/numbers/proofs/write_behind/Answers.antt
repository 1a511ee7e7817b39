-- `numbers::write_behind` meets its contract: the colon stands before the two digits.
-- Assumes nothing.
use borrow.Author.Rules.{rules}
use Rattle.numbers.proofs.Shown.{behind_put}
use Rattle.numbers.proofs.write_behind.Goals as goal

pub returns : goal.returns
returns c = search (rules, behind_put)
