-- `numbers::write_decimal` meets its contract: the digits of the tenth part, and the last one behind them.
-- Assumes nothing.
use borrow.Author.Rules.{rules}
use native.Mathlib.Omega.{arith}
use Prim.Native.Nat.{◌<◌}
use lib.ListN.{length}
use Rattle.numbers.proofs.Writing.{short_room, short_put, long_asks, long_room, long_step, long_put, short_end, long_end}
use Rattle.numbers.proofs.+write_decimal.Goals as goal

pub bounds-out-at : goal.bounds-out-at
bounds-out-at t c = search (rules, short_room)

pub returns-then-n-lt10-clause-value : goal.returns-then-n-lt10-clause-value
returns-then-n-lt10-clause-value t c = search (rules, short_end)

pub returns-then-n-lt10-clause-out_after : goal.returns-then-n-lt10-clause-out_after
returns-then-n-lt10-clause-out_after t c = search (rules, short_put)

pub write_decimal-e-requires : goal.write_decimal-e-requires
write_decimal-e-requires t c = (search rules, search (rules, long_asks))

pub bounds-out-e : goal.bounds-out-e
bounds-out-e t c = search (rules, long_room)

pub overflow_add-result-2 : goal.overflow_add-result-2
overflow_add-result-2 t c =
    let l : c.write_decimal-e.result < length c.args.out.now = search (rules, long_step) in record { fits = omega arith }

pub returns-clause-value : goal.returns-clause-value
returns-clause-value t c = search (rules, long_end)

pub returns-clause-out_after : goal.returns-clause-out_after
returns-clause-out_after t c = search (rules, long_put)
