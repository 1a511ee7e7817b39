-- `gtfs_paths::take` meets its contract: the plan is carried out.
-- Assumes nothing.
use mathlib.Core.Path.{refl}
use Rattle.gtfs_paths.proofs.Taken.{plan_enters, took_kept, took_full}
use Rattle.gtfs_paths.proofs.take.Goals as goal

pub returns-in_err-from : goal.returns-in_err-from
returns-in_err-from c = took_full c.requires c.plan_of.ensures c.in_err-from.was _ c.from_residual.ensures

pub enter-requires : goal.enter-requires
enter-requires c = plan_enters c.requires c.plan_of.ensures _ c.in_ok-from.was

pub returns : goal.returns
returns c =
    took_kept c.requires c.plan_of.ensures _ c.in_ok-from.was c.enter.result refl c.enter.ensures.value c.enter.ensures.paths_after
    c.enter.ensures.booked
