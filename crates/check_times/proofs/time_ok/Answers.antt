-- `time_ok`: with a next position, and at the last.
use borrow.Author.Rules.{rules}
use Rattle.check_times.proofs.Tests.{timely_next, timely_last}
use Rattle.check_times.proofs.time_ok.Goals as goal

pub returns-then-p-end : goal.returns-then-p-end
returns-then-p-end c = search (rules, timely_next)

pub returns : goal.returns
returns c = search (rules, timely_last)
