-- `explore_path`: a footpath that passes the target's test is applied, another changes nothing.
use borrow.Author.Rules.{rules}
use Rattle.explorer_footpaths.proofs.Steps.{path_taken, path_left}
use Rattle.allocator.proofs.Becoming.{same_self}
use Rattle.explorer_footpaths.proofs.explore_path.Goals as goal

pub returns-then-is_ahead : goal.returns-then-is_ahead
returns-then-is_ahead c = record { holds = search (rules, path_taken); same = c.apply.ensures.same }

pub returns-else-is_ahead : goal.returns-else-is_ahead
returns-else-is_ahead c = record { holds = search (rules, path_left); same = same_self }
