-- `allocator::kind_word` meets its contract: by the kind.
-- Assumes nothing.
use borrow.Author.Rules.{rules}
use Rattle.allocator.specs.Rows.{row_kind}
use Rattle.allocator.proofs.kind_word.Goals as goal

pub returns-in-Transit : goal.returns-in-Transit
unfolding row_kind
returns-in-Transit c = search rules

pub returns-in-Transfer : goal.returns-in-Transfer
unfolding row_kind
returns-in-Transfer c = search rules

pub returns-in-Walk : goal.returns-in-Walk
unfolding row_kind
returns-in-Walk c = search rules
