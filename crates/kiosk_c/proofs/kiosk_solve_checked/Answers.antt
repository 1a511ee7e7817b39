-- `kiosk_c::kiosk_solve_checked` meets its contract: a short answer, or what `solve_checked` answers and leaves.
use borrow.Author.Rules.{rules}
use Rattle.kiosk_c.proofs.Told.{too_short_checked, length_fits, faced}
use Rattle.kiosk_c.proofs.kiosk_solve_checked.Goals as goal

pub returns-then-answer-lt5 : goal.returns-then-answer-lt5
returns-then-answer-lt5 c = search (rules, too_short_checked)

pub tell-requires-clause-a_bound : goal.tell-requires-clause-a_bound
tell-requires-clause-a_bound c = search (rules, length_fits)

pub returns : goal.returns
returns c = search (rules, faced)
