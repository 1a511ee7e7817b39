-- `may_gain`: the label against the best moment that is read.
use borrow.Author.Rules.{rules}
use Rattle.explorer_footpaths.proofs.Gaining.{gain_is}
use Rattle.explorer_footpaths.proofs.may_gain.Goals as goal

pub returns : goal.returns
returns c = search (rules, gain_is)
