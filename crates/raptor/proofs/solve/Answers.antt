-- `raptor::solve` meets its contract: refused by the tables, or solved.
use borrow.Author.Rules.{rules}
use Rattle.std.proofs.lemmas.Result.{err_from_is_err_and}
use Rattle.check_tables.proofs.Whole.{zero_accepted}
use Rattle.raptor.proofs.Answered.{by_tables}
use Rattle.raptor.proofs.solve.Goals as goal

pub returns-in_err-check : goal.returns-in_err-check
returns-in_err-check c =
    let p = err_from_is_err_and c.from_residual.result c.from_residual.ensures.1 in rw (p.1, p.2) (search (rules, by_tables))

pub solve_checked-requires : goal.solve_checked-requires
solve_checked-requires c = search (rules, zero_accepted)
