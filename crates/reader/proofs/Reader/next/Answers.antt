-- `next` of a reader meets its contract: a whole leg ends within the bytes.
-- Assumes nothing.
use Rattle.std.proofs.Common.{arith}
use Rattle.journey.proofs.Told.{next_fits}
use Rattle.reader.proofs.Reader.next.Goals as goal

pub overflow_add-self : goal.overflow_add-self
overflow_add-self c = omega (arith, next_fits _ _ c.leg.ensures c.in_ok-leg.was c.in-Ok.is c.leg_size.ensures)
