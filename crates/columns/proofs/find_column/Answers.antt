-- `columns::find_column` meets its contract: where the column stands among the fields so far.
-- Assumes nothing.
use borrow.Author.Rules.{rules}
use Rattle.columns.proofs.Passing.{text_inside, less_left}
use Rattle.columns.proofs.Finding.{found_start, found_on, column_wrong, column_last}
use Rattle.columns.proofs.find_column.Goals as goal

pub loop-field-init : goal.loop-field-init
loop-field-init c = search (rules, found_start)

pub seen-was-requires : goal.seen-was-requires
seen-was-requires c = (search rules, search (rules, text_inside))

pub returns-then-e-field : goal.returns-then-e-field
returns-then-e-field c = column_last c.loop-field.invariant _ c.in-Some.ensures.result_value c.seen-was.ensures (search rules)

pub loop-field-smaller : goal.loop-field-smaller
loop-field-smaller c = search (rules, less_left)

pub loop-field-preserved : goal.loop-field-preserved
loop-field-preserved c = found_on c.loop-field.invariant _ c.in-Some.ensures.result_value c.seen-was.ensures c.in-Some.ensures.within (search rules)

pub returns-in_default : goal.returns-in_default
returns-in_default c = column_wrong c.loop-field.invariant c.in_default.ensures.result_value
