-- `word`: the index is in range, and the word is the section's.
use borrow.Author.Rules.{rules}
use Rattle.repository.specs.Sections.{sec}
use Rattle.repository.proofs.words.word.Goals as goal

pub returns : goal.returns
unfolding sec
returns c = search rules
