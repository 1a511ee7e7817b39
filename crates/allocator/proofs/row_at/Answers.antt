-- `allocator::row_at` meets its contract: the one product of two numbers, and its bound.
-- Assumes nothing.
use native.Mathlib.Omega.{arith}
use Rattle.allocator.proofs.Read.{row_in}
use Rattle.allocator.proofs.row_at.Goals as goal

pub overflow_mul-result-2 : goal.overflow_mul-result-2
overflow_mul-result-2 c = let a = c.args in omega (arith, row_in a.stops a.k a.s (omega arith) (omega arith))

pub overflow_add-result-2 : goal.overflow_add-result-2
overflow_add-result-2 c = let a = c.args in omega (arith, row_in a.stops a.k a.s (omega arith) (omega arith))

pub overflow_mul-result-3 : goal.overflow_mul-result-3
overflow_mul-result-3 c = let a = c.args in omega (arith, row_in a.stops a.k a.s (omega arith) (omega arith))

pub overflow_add-result-3 : goal.overflow_add-result-3
overflow_add-result-3 c = let a = c.args in omega (arith, row_in a.stops a.k a.s (omega arith) (omega arith))

pub returns : goal.returns
returns c = let a = c.args in omega (arith, row_in a.stops a.k a.s (omega arith) (omega arith))
