-- `shared::distance_of` meets its contract: a stretch is no NaN.
-- Assumes nothing.
use Rattle.shared.proofs.Patterns.{of_stretch}
use Rattle.shared.proofs.distance_of.Goals as goal

pub float_from_bits-result : goal.float_from_bits-result
float_from_bits-result c = of_stretch c.args.bits c.requires
