-- `kiosk_judge_checked`: no word for it, or what `judge_checked` says.
use borrow.Author.Rules.{rules}
use Rattle.kiosk_c.proofs.Verdicts.{short_accepted, short_left, judged_number, judged_left}
use Rattle.kiosk_c.proofs.judging.kiosk_judge_checked.Goals as goal

pub returns-then-is_empty-clause-value : goal.returns-then-is_empty-clause-value
returns-then-is_empty-clause-value c = search (rules, short_accepted)

pub returns-then-is_empty-clause-told_after : goal.returns-then-is_empty-clause-told_after
returns-then-is_empty-clause-told_after c = search (rules, short_left)

pub returns-clause-value : goal.returns-clause-value
returns-clause-value c = search (rules, judged_number)

pub returns-clause-told_after : goal.returns-clause-told_after
returns-clause-told_after c = search (rules, judged_left)
