-- `csv_text::quoted_field` meets its contract: the bytes behind are the text so far.
-- Assumes nothing.
use borrow.Author.Rules.{rules}
use Rattle.csv_text.proofs.Scanning.{going_start, quoted_on, quoted_open, quoted_last, quoted_comma, quoted_wrong, quoted_twice}
use Rattle.csv_text.proofs.quoted_field.Goals as goal
use Rattle.csv_text.proofs.quoted_field.Goals.{then-e-n-via-then-e-n, then-e-n-via-else-e-n+then-bytes-n-eq44}

pub loop-i-init : goal.loop-i-init
loop-i-init c = search (rules, going_start)

pub loop-i-preserved-then-bytes-i-ne34 : goal.loop-i-preserved-then-bytes-i-ne34
loop-i-preserved-then-bytes-i-ne34 c = search (rules, quoted_on)

pub returns-then-e-n-clause-result_value : goal.returns-then-e-n-clause-result_value
returns-then-e-n-clause-result_value c =
    elim c.then-e-n.branch [
      | then-e-n-via-then-e-n w ↦ search (rules, quoted_last)
      | then-e-n-via-else-e-n+then-bytes-n-eq44 w ↦ search (rules, quoted_comma)
    ]

pub returns-then-bytes-n-ne34 : goal.returns-then-bytes-n-ne34
returns-then-bytes-n-ne34 c = search (rules, quoted_wrong)

pub loop-i-preserved : goal.loop-i-preserved
loop-i-preserved c = search (rules, quoted_twice)

pub returns : goal.returns
returns c = search (rules, quoted_open)
