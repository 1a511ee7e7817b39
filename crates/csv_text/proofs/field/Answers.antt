-- `csv_text::field` meets its contract: by the first byte.
-- Assumes nothing.
use Rattle.csv_text.proofs.Scanning.{field_quoted, field_plain, field_empty, within_wider}
use borrow.Author.Rules.{rules}
use Rattle.csv_text.proofs.field.Goals as goal
use Rattle.csv_text.proofs.field.Goals.{else-a-e-via-then-a-e+else-bytes-a-eq34, else-a-e-via-else-a-e}

pub returns-then-bytes-a-eq34-clause-result_value : goal.returns-then-bytes-a-eq34-clause-result_value
returns-then-bytes-a-eq34-clause-result_value c = search (rules, field_quoted)

pub returns-then-bytes-a-eq34-clause-within : goal.returns-then-bytes-a-eq34-clause-within
returns-then-bytes-a-eq34-clause-within c = search (rules, within_wider)

pub returns-else-a-e-clause-result_value : goal.returns-else-a-e-clause-result_value
returns-else-a-e-clause-result_value c =
    elim c.else-a-e.branch [
      | else-a-e-via-then-a-e+else-bytes-a-eq34 w ↦ search (rules, field_plain)
      | else-a-e-via-else-a-e w ↦ search (rules, field_empty)
    ]
