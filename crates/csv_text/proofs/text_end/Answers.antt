-- `csv_text::text_end` meets its contract: by its last byte.
-- Assumes nothing.
use borrow.Author.Rules.{rules}
use Rattle.csv_text.proofs.Lining.{text_return, text_whole, text_empty}
use Rattle.csv_text.proofs.text_end.Goals as goal
use Rattle.csv_text.proofs.text_end.Goals.{else-a-e-via-then-a-e+else-bytes-e-eq13, else-a-e-via-else-a-e}

pub returns-then-bytes-e-eq13-clause-bytes_value : goal.returns-then-bytes-e-eq13-clause-bytes_value
returns-then-bytes-e-eq13-clause-bytes_value c = search (rules, text_return)

pub returns-clause-bytes_value : goal.returns-clause-bytes_value
returns-clause-bytes_value c =
    elim c.else-a-e.branch [
      | else-a-e-via-then-a-e+else-bytes-e-eq13 w ↦ search (rules, text_whole)
      | else-a-e-via-else-a-e w ↦ search (rules, text_empty)
    ]
