-- `numbers::write_two` meets its contract: two stores.
-- Assumes nothing.
use borrow.Author.Rules.{rules}
use native.Mathlib.Omega.{arith}
use lib.ListN.{length-set}
use Rattle.numbers.proofs.Shown.{two_put}
use Rattle.numbers.proofs.write_two.Goals as goal

pub bounds-out-at-2 : goal.bounds-out-at-2
bounds-out-at-2 c = simp length-set (omega arith)

pub returns : goal.returns
returns c = search (rules, two_put)
