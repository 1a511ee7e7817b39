-- `served`: the stop's word is 1.
use borrow.Author.Rules.{rules}
use Rattle.repository.proofs.Reading.{stop_word, served_is}
use Rattle.repository.proofs.places.served.Goals as goal

pub word-requires : goal.word-requires
word-requires c = search (rules, stop_word)

pub returns : goal.returns
returns c = search served_is
