-- `arguments::bytes::are_digits`: the bytes up to i are digits, and the rest decides.
use borrow.Author.Rules.{rules}
use Rattle.arguments.proofs.Digits.{all_is, at_digit}
use Rattle.base.proofs.All.{so_start, so_on, so_fails, so_passes}
use Rattle.arguments.proofs.bytes.are_digits.Goals as goal

pub loop-i-init : goal.loop-i-init
loop-i-init c = search (rules, so_start)

pub loop-i-preserved : goal.loop-i-preserved
loop-i-preserved c = search (rules, so_on, at_digit)

pub returns-then-not-is_digit : goal.returns-then-not-is_digit
returns-then-not-is_digit c = search (rules, all_is, so_fails, at_digit)

pub returns : goal.returns
returns c = search (rules, all_is, so_passes)
