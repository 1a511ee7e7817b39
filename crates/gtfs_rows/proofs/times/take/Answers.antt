-- `gtfs_rows::times::take` meets its contract.
-- Assumes nothing.
use mathlib.Core.Path.{refl}
use Rattle.gtfs_rows.proofs.Taken.{plan_enters, took_kept, took_not}
use Rattle.gtfs_rows.proofs.times.take.Goals as goal

pub returns-in_err-trip : goal.returns-in_err-trip
returns-in_err-trip c = took_not c.requires c.plan_of.ensures _ c.in_err-trip.was c.from_residual.result c.from_residual.ensures.1

pub enter-requires : goal.enter-requires
enter-requires c = plan_enters c.requires c.plan_of.ensures _ c.in_ok-trip.was

pub returns : goal.returns
returns c =
    took_kept c.requires c.plan_of.ensures _ c.in_ok-trip.was c.enter.result refl c.enter.ensures.value c.enter.ensures.times_after
    c.enter.ensures.booked c.enter.ensures.booked_2
