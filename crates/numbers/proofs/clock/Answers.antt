-- `numbers::clock` meets its contract: seven bytes behind a 0, or eight, with colons in their places.
-- Assumes nothing.
use borrow.Author.Rules.{rules}
use Rattle.numbers.proofs.Clocks.{clock_short, clock_long, seven_no_colon, seven_no_second, seven_read, eight_no_colon, eight_no_second, eight_read}
use Rattle.numbers.proofs.clock.Goals as goal

pub returns-in-58 : goal.returns-in-58
returns-in-58 c = search (rules, seven_read)

pub returns-in-58-2 : goal.returns-in-58-2
returns-in-58-2 c = search (rules, eight_read)

pub returns-in_default : goal.returns-in_default
returns-in_default c = search (rules, clock_short, clock_long, seven_no_colon, seven_no_second, eight_no_colon, eight_no_second)

pub returns-in_default-2 : goal.returns-in_default-2
returns-in_default-2 c = search (rules, clock_short, clock_long, seven_no_colon, seven_no_second, eight_no_colon, eight_no_second)

pub returns-in_default-3 : goal.returns-in_default-3
returns-in_default-3 c = search (rules, clock_short, clock_long, seven_no_colon, seven_no_second, eight_no_colon, eight_no_second)

pub returns-in_default-4 : goal.returns-in_default-4
returns-in_default-4 c = search (rules, clock_short, clock_long, seven_no_colon, seven_no_second, eight_no_colon, eight_no_second)

pub returns-in_default-5 : goal.returns-in_default-5
returns-in_default-5 c = search (rules, clock_short, clock_long, seven_no_colon, seven_no_second, eight_no_colon, eight_no_second)

pub returns-in_default-6 : goal.returns-in_default-6
returns-in_default-6 c = search (rules, clock_short, clock_long, seven_no_colon, seven_no_second, eight_no_colon, eight_no_second)
