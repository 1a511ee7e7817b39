-- `gtfs_rows::books::number_of` meets its contract.
-- Assumes nothing.
use mathlib.Core.Path.{◌∙◌}
use Rattle.gtfs_rows.proofs.Naming.{number_told}
use Rattle.gtfs_rows.proofs.books.number_of.Goals as goal

pub returns : goal.returns
returns c = c.unwrap_or.ensures ∙ number_told c.requires.book _ c.find.ensures
