-- `Workspace::apply` meets its contract: by the test: stored, or nothing done.
-- Assumes nothing.
use borrow.Author.Rules.{rules}
use Rattle.allocator.proofs.Operated.{applies, applies_not}
use Rattle.allocator.proofs.Workspace.apply.Goals as goal

pub returns-then-is_better : goal.returns-then-is_better
returns-then-is_better c = record { holds = search (rules, applies); same = search rules }

pub returns-else-is_better : goal.returns-else-is_better
returns-else-is_better c = record { holds = search (rules, applies_not); same = search rules }
