-- `gtfs_rows::times::plan_of` meets its contract.
-- Assumes nothing.
use Rattle.gtfs_rows.proofs.Taking.{plan_gone, plan_fallen, plan_last, plan_new}
use Rattle.gtfs_rows.proofs.Naming.{last_counted}
use Rattle.gtfs_rows.proofs.times.plan_of.Goals as goal

pub returns-then-line-at : goal.returns-then-line-at
returns-then-line-at c =
    plan_fallen _ _ _ _ _ _ (rw c.trip_shelf.ensures at c.trip_of.ensures) (rw c.stop_shelf.ensures at c.number_of-stop.ensures) c.in-Last.is
    c.if-line-at.true

pub overflow_sub-at : goal.overflow_sub-at
overflow_sub-at c = last_counted c.requires.book_2 _ (rw c.trip_shelf.ensures at c.trip_of.ensures) c.in-Last.is

pub returns-else-line-at : goal.returns-else-line-at
returns-else-line-at c =
    plan_last _ _ _ _ _ _ (rw c.trip_shelf.ensures at c.trip_of.ensures) (rw c.stop_shelf.ensures at c.number_of-stop.ensures) c.in-Last.is
    c.if-line-at.false c.plan_by.ensures

pub returns-in-New : goal.returns-in-New
returns-in-New c =
    plan_new _ _ _ _ _ _ (rw c.trip_shelf.ensures at c.trip_of.ensures) (rw c.stop_shelf.ensures at c.number_of-stop.ensures) c.in-New.is
    c.plan_by-in-New.ensures

pub returns-in-Gone : goal.returns-in-Gone
returns-in-Gone c =
    plan_gone _ _ _ _ _ _ (rw c.trip_shelf.ensures at c.trip_of.ensures) (rw c.stop_shelf.ensures at c.number_of-stop.ensures) c.in-Gone.is
