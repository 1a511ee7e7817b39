-- `is_child`: the stops named that are left decide.
use Rattle.std.proofs.Common.{rules}
use Rattle.discovery.proofs.Areas.{named_known}
use Rattle.judge_paths.proofs.Listed.{child_start, child_next, child_found, list_none}
use Rattle.judge_paths.proofs.places.is_child.Goals as goal

pub loop-p-init : goal.loop-p-init
loop-p-init c = search (rules, child_start)

pub children-requires-clause-s_bound : goal.children-requires-clause-s_bound
children-requires-clause-s_bound c = search (rules, named_known)

pub returns-then-is_listed : goal.returns-then-is_listed
returns-then-is_listed c = search (rules, child_found)

pub loop-p-preserved : goal.loop-p-preserved
loop-p-preserved c = search (rules, child_next)

pub returns : goal.returns
returns c = search (rules, list_none)
