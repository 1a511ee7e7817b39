-- `raptor::searching::ask_of` meets its contract: what is read of the tables and of the query is what is asked.
use borrow.Author.Rules.{rules}
use Rattle.raptor.proofs.Searched.{ask_is}
use Rattle.raptor.proofs.searching.ask_of.Goals as goal

pub returns : goal.returns
returns c = search (rules, ask_is)
