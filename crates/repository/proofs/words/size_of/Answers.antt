-- `size_of`: a section ends where the next begins.
use borrow.Author.Rules.{rules}
use Rattle.repository.specs.Sections.{size}
use Rattle.repository.proofs.words.size_of.Goals as goal

pub returns : goal.returns
unfolding size
returns c = search rules
