-- `journey::write_leg` meets its contract: the parts of the leg meet.
-- Assumes nothing.
use Rattle.std.proofs.Common.{rules}
use Rattle.journey.proofs.Written.{ride_written, transfer_written, walk_written}
use Rattle.journey.proofs.write_leg.Goals as goal

pub returns-in-Transit : goal.returns-in-Transit
returns-in-Transit c = search (rules, ride_written)

pub returns-in-Transfer : goal.returns-in-Transfer
returns-in-Transfer c = search (rules, transfer_written)

pub returns-in-Walk : goal.returns-in-Walk
returns-in-Walk c = search (rules, walk_written)
