-- `stop_entry`: the stop list holds s at place s.
use borrow.Author.Rules.{rules}
use Rattle.repository.proofs.Reading.{entry_part, entry_small, entry_alone}
use Rattle.repository.proofs.places.stop_entry.Goals as goal

pub overflow_add-s : goal.overflow_add-s
overflow_add-s c = record { fits = search (rules, entry_small) }

pub part-requires : goal.part-requires
part-requires c = search (rules, entry_part)

pub returns : goal.returns
returns c = search (rules, entry_alone)
