-- `numbers::write_clock` meets its contract: three parts that meet.
-- Assumes nothing.
use borrow.Author.Rules.{rules}
use Rattle.numbers.proofs.Shown.{clock_put}
use Rattle.numbers.proofs.write_clock.Goals as goal

pub returns : goal.returns
returns c = search (rules, clock_put)
