-- `csv_text::same` meets its contract: two slices are equal where their texts are the same.
-- Assumes nothing.
use borrow.Author.Rules.{rules}
use Rattle.csv_text.specs.Part.{part}
use Rattle.csv_text.proofs.Texts.{same_slices}
use Rattle.csv_text.proofs.same.Goals as goal

pub returns : goal.returns
unfolding part
returns c = search (rules, same_slices)
