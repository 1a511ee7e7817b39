-- `numbers::decimal` meets its contract: the value so far and what is left say what all the digits are.
-- Assumes nothing.
use mathlib.Core.Path.{sym, ◌∙◌}
use native.Mathlib.Omega.{arith}
use borrow.Author.Rules.{rules}
use borrow.Author.Tests.{eqb-false}
use Rattle.numbers.proofs.Reading.{decimal_empty, reads_start, reads_tens_large, reads_no_digit, reads_large, reads_on, reads_end}
use Rattle.numbers.proofs.decimal.Goals as goal

pub returns-then-is_empty : goal.returns-then-is_empty
returns-then-is_empty c = search (rules, decimal_empty)

pub loop-x-init : goal.loop-x-init
loop-x-init c = reads_start (eqb-false _ _ (sym c.if-is_empty.ensures))

pub returns-in_err-checked_mul : goal.returns-in_err-checked_mul
returns-in_err-checked_mul c = c.from_residual.ensures ∙ reads_tens_large c.loop-x.invariant c.loop-x-test.true (let h = c.in_err-checked_mul.ensures in omega arith)

pub returns-in_err-digit : goal.returns-in_err-digit
returns-in_err-digit c = c.from_residual-in_err-digit.ensures ∙ reads_no_digit c.loop-x.invariant c.loop-x-test.true c.in_err-digit.ensures.value

pub returns-in_err-v : goal.returns-in_err-v
returns-in_err-v c = c.from_residual-in_err-v.ensures ∙ reads_large c.loop-x.invariant c.loop-x-test.true c.in_ok-digit.ensures.value (omega (arith, c.in_ok-checked_mul.ensures, c.in_err-v.ensures))

pub loop-x-preserved : goal.loop-x-preserved
loop-x-preserved c = reads_on c.loop-x.invariant c.loop-x-test.true c.in_ok-digit.ensures.value (omega (arith, c.in_ok-checked_mul.ensures, c.in_ok-v.ensures)) (omega (arith, c.in_ok-v.ensures))

pub returns : goal.returns
returns c = search (rules, reads_end)
