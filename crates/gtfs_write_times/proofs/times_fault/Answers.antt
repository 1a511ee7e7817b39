-- `gtfs_write_times::times_fault` meets its contract: what is left leads where all leads.
-- Assumes nothing.
use borrow.Author.Rules.{rules}
use Rattle.gtfs_write_times.proofs.Faults.{faulting_start, faulting_next, faulting_end, fault_found, stop_small, trip_small}
use Rattle.gtfs_write_times.proofs.times_fault.Goals as goal

pub loop-trip-init : goal.loop-trip-init
loop-trip-init c = search (rules, faulting_start)

pub returns-in_err-time_fault : goal.returns-in_err-time_fault
returns-in_err-time_fault c =
    fault_found c.loop-trip.invariant c.as_chunks.ensures.front c.loop-trip-test.true _ c.in_err-time_fault.ensures
    c.from_residual.result c.from_residual.ensures

pub seen_after-stops-requires : goal.seen_after-stops-requires
seen_after-stops-requires c = stop_small c.loop-trip.invariant c.as_chunks.ensures.front c.loop-trip-test.true c.in_ok-time_fault.ensures

pub seen_after-trips-requires : goal.seen_after-trips-requires
seen_after-trips-requires c = trip_small c.loop-trip.invariant c.as_chunks.ensures.front c.loop-trip-test.true c.in_ok-time_fault.ensures

pub loop-trip-preserved : goal.loop-trip-preserved
loop-trip-preserved c =
    faulting_next c.loop-trip.invariant c.as_chunks.ensures.front c.loop-trip-test.true c.in_ok-time_fault.ensures c.seen_after-stops.ensures
    c.seen_after-trips.ensures

pub returns : goal.returns
returns c = faulting_end c.loop-trip.invariant c.as_chunks.ensures.front c.loop-trip-test.false
