-- `shared::distance_ok` meets its contract: a NaN is no stretch, and any other float is compared with both ends.
-- Assumes nothing.
use Rattle.std.proofs.Common.{arith}
use lib.Ieee.{of_bits}
use Rattle.shared.proofs.Patterns.{past_infinity, up_to_infinity}
use Rattle.shared.proofs.distance_ok.Goals as goal

pub returns-then-bits-gt2139095040 : goal.returns-then-bits-gt2139095040
returns-then-bits-gt2139095040 c = past_infinity c.args.bits (omega arith)

pub float_from_bits-metres : goal.float_from_bits-metres
float_from_bits-metres c = up_to_infinity c.args.bits (omega arith)

pub returns-then-metres : goal.returns-then-metres
unfolding of_bits
returns-then-metres c = rw c.if-metres.true

pub returns-else-metres : goal.returns-else-metres
unfolding of_bits
returns-else-metres c = rw c.if-metres.false
