-- `part`: it ends within the words, and holds the section's words.
use borrow.Author.Rules.{rules}
use Rattle.repository.proofs.Leaves.{part_end, part_is}
use Rattle.repository.proofs.words.part.Goals as goal

pub slice_bounds-result-end : goal.slice_bounds-result-end
slice_bounds-result-end c = search (rules, part_end)

pub returns : goal.returns
returns c = search (rules, part_is)
