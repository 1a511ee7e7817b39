-- `shared::time_to_walk` meets its contract: the quotient is in the range of `whole_above`.
-- Assumes nothing.
use lib.Ieee.{of_bits}
use Rattle.shared.specs.Walk.{walking_span}
use Rattle.shared.proofs.Quotient.{quotient_within}
use Rattle.shared.proofs.time_to_walk.Goals as goal

pub whole_above-requires : goal.whole_above-requires
unfolding of_bits
whole_above-requires c = let w = quotient_within c.args.d.0 c.requires in record { fact_1 = w.low; fact_2 = w.high }

pub returns : goal.returns
unfolding of_bits walking_span
returns c = c.whole_above.ensures
