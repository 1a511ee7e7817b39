-- `csv_text::line` meets its contract: by the ends of the line and of its text.
-- Assumes nothing.
use borrow.Author.Rules.{rules}
use Rattle.csv_text.proofs.Stepping.{line_at}
use Rattle.csv_text.proofs.line.Goals as goal

pub returns : goal.returns
returns c = search (rules, line_at)
