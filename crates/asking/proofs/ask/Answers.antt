-- `asking::ask`: each way out is one law.
use borrow.Author.Rules.{rules}
use Rattle.asking.proofs.Telling.{few_words, few_marks, few_places, tells_solved}
use Rattle.asking.proofs.ask.Goals as goal

pub returns-then-words-needed : goal.returns-then-words-needed
returns-then-words-needed c = search (rules, few_words)

pub returns-then-marks-needed : goal.returns-then-marks-needed
returns-then-marks-needed c = search (rules, few_marks)

pub returns-then-places-needed : goal.returns-then-places-needed
returns-then-places-needed c = search (rules, few_places)

pub returns : goal.returns
returns c = search (rules, tells_solved)
