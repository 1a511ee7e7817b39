-- `raptor::room` meets its contract: the lengths of accepted tables, or the refusal of the others.
use borrow.Author.Rules.{rules}
use Rattle.std.proofs.lemmas.Result.{err_from_is_err_and}
use Rattle.raptor.proofs.Measures.{none_laid, lengths_told, refusal_told}
use Rattle.raptor.proofs.room.Goals as goal

pub returns-in_err-check : goal.returns-in_err-check
returns-in_err-check c =
    let p = err_from_is_err_and c.from_residual.result c.from_residual.ensures.1 in rw (p.1, p.2) (search (rules, refusal_told))

pub stop_count-stops-requires : goal.stop_count-stops-requires
stop_count-stops-requires c = search (rules, none_laid)

pub route_count-routes-requires : goal.route_count-routes-requires
route_count-routes-requires c = search (rules, none_laid)

pub returns : goal.returns
returns c = search (rules, lengths_told)
