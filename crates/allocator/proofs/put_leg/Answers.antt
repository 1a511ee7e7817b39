-- `allocator::put_leg` meets its contract: six stores in a row.
-- Assumes nothing.
use borrow.Author.Rules.{rules}
use native.Mathlib.Omega.{arith}
use lib.ListN.{length-set}
use Rattle.allocator.proofs.Rowed.{leg_stores}
use Rattle.allocator.proofs.put_leg.Goals as goal

pub bounds-words-i-2 : goal.bounds-words-i-2
bounds-words-i-2 c = simp length-set (omega arith)

pub bounds-words-i-3 : goal.bounds-words-i-3
bounds-words-i-3 c = simp length-set (omega arith)

pub bounds-words-i-4 : goal.bounds-words-i-4
bounds-words-i-4 c = simp length-set (omega arith)

pub bounds-words-i-5 : goal.bounds-words-i-5
bounds-words-i-5 c = simp length-set (omega arith)

pub bounds-words-i-6 : goal.bounds-words-i-6
bounds-words-i-6 c = simp length-set (omega arith)

pub returns : goal.returns
returns c = search (rules, leg_stores)
