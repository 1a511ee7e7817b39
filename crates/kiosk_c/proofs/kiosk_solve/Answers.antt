-- `kiosk_c::kiosk_solve` meets its contract: a short answer, or what `solve` answers and leaves.
use borrow.Author.Rules.{rules}
use Rattle.kiosk_c.proofs.Told.{too_short, length_fits, faced}
use Rattle.kiosk_c.proofs.kiosk_solve.Goals as goal

pub returns-then-answer-lt5 : goal.returns-then-answer-lt5
returns-then-answer-lt5 c = search (rules, too_short)

pub tell-requires-clause-a_bound : goal.tell-requires-clause-a_bound
tell-requires-clause-a_bound c = search (rules, length_fits)

pub returns : goal.returns
returns c = search (rules, faced)
