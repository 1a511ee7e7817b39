-- `row_count`: starts never fall.
use borrow.Author.Rules.{rules}
use Rattle.repository.specs.NetOf.{count}
use Rattle.repository.proofs.words.row_count.Goals as goal

pub returns : goal.returns
unfolding count
returns c = search rules
