-- `gtfs_lines::span_at` meets its contract: type 2 by its number.
-- Assumes nothing.
use mathlib.Core.Path.{◌∙◌}
use borrow.Author.Rules.{rules}
use Rattle.csv_text.specs.Part.{part}
use Rattle.gtfs_lines.proofs.Transfers.{span_unstated, span_bad, span_high, span_right}
use Rattle.gtfs_lines.proofs.span_at.Goals as goal

pub returns-then-k-ne2 : goal.returns-then-k-ne2
returns-then-k-ne2 c = search (rules, span_unstated)

pub returns-in_err-x : goal.returns-in_err-x
unfolding part
returns-in_err-x c = c.from_residual.ensures ∙ span_bad _ _ _ (search rules) c.in_err-x.ensures

pub returns-then-x-lt4294967295 : goal.returns-then-x-lt4294967295
unfolding part
returns-then-x-lt4294967295 c = span_right _ _ _ (search rules) c.in_ok-x.ensures (search rules)

pub returns-else-x-lt4294967295 : goal.returns-else-x-lt4294967295
unfolding part
returns-else-x-lt4294967295 c = span_high _ _ _ (search rules) c.in_ok-x.ensures (search rules)
