-- `station_of`: MAX is no station.
use borrow.Author.Rules.{rules}
use Rattle.repository.proofs.Reading.{stop_word, station_none, station_some}
use Rattle.repository.proofs.places.station_of.Goals as goal

pub word-p-requires : goal.word-p-requires
word-p-requires c = search (rules, stop_word)

pub returns-then-p : goal.returns-then-p
returns-then-p c = search (rules, station_none)

pub returns-else-p : goal.returns-else-p
returns-else-p c = search (rules, station_some)
