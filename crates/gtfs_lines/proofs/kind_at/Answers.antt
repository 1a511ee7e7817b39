-- `gtfs_lines::kind_at` meets its contract: an empty one is 0, else by its number.
-- Assumes nothing.
use mathlib.Core.Path.{◌∙◌}
use borrow.Author.Rules.{rules}
use Rattle.csv_text.specs.Part.{part}
use Rattle.gtfs_lines.proofs.Transfers.{kind_empty, kind_bad, kind_high, kind_right}
use Rattle.gtfs_lines.proofs.kind_at.Goals as goal

pub returns-then-s : goal.returns-then-s
returns-then-s c = search (rules, kind_empty)

pub returns-in_err-k : goal.returns-in_err-k
unfolding part
returns-in_err-k c = c.from_residual.ensures ∙ kind_bad _ _ (search rules) (search rules) c.in_err-k.ensures

pub returns-then-k-le5 : goal.returns-then-k-le5
unfolding part
returns-then-k-le5 c = kind_right _ _ (search rules) (search rules) c.in_ok-k.ensures (search rules)

pub returns-else-k-le5 : goal.returns-else-k-le5
unfolding part
returns-else-k-le5 c = kind_high _ _ (search rules) (search rules) c.in_ok-k.ensures (search rules)
