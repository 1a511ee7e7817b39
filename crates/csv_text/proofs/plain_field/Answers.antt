-- `csv_text::plain_field` meets its contract: the bytes behind are the text so far.
-- Assumes nothing.
use borrow.Author.Rules.{rules}
use Rattle.csv_text.proofs.Scanning.{going_start, plain_on, plain_comma, plain_quote, plain_end}
use Rattle.csv_text.proofs.plain_field.Goals as goal

pub loop-i-init : goal.loop-i-init
loop-i-init c = search (rules, going_start)

pub returns-in-44 : goal.returns-in-44
returns-in-44 c = search (rules, plain_comma)

pub returns-in-34 : goal.returns-in-34
returns-in-34 c = search (rules, plain_quote)

pub loop-i-preserved : goal.loop-i-preserved
loop-i-preserved c = search (rules, plain_on)

pub returns : goal.returns
returns c = search (rules, plain_end)
