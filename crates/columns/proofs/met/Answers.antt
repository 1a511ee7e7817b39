-- `columns::met` meets its contract: a column that stood somewhere stands twice.
-- Assumes nothing.
use borrow.Author.Rules.{rules}
use Rattle.columns.proofs.Finding.{met_at_lem, met_absent, met_twice}
use Rattle.columns.proofs.met.Goals as goal

pub returns-in-At : goal.returns-in-At
returns-in-At c = search (rules, met_at_lem)

pub returns-in-Absent : goal.returns-in-Absent
returns-in-Absent c = search (rules, met_absent)

pub returns-in-Twice : goal.returns-in-Twice
returns-in-Twice c = search (rules, met_twice)
