-- `times_ok`: three loops, each of which holds the one around it, and the fault that leaves them all.
use borrow.Author.Rules.{rules}
use Rattle.check_times.proofs.Walk.{routes_start, routes_end}
use Rattle.check_times.proofs.Walk.{positions_start, positions_end, trips_start, trips_end, trips_on, fault}
use Rattle.repository.specs.Checked.{timed}
use Rattle.check_times.proofs.times_ok.Goals as goal

pub all-init : goal.all-init
all-init c = search (rules, routes_start)

pub loop-p-init : goal.loop-p-init
loop-p-init c = search (rules, positions_start)

pub loop-i-init : goal.loop-i-init
loop-i-init c = search (rules, trips_start)

pub loop-i-preserved : goal.loop-i-preserved
loop-i-preserved c = search (rules, trips_on)

pub loop-p-preserved : goal.loop-p-preserved
loop-p-preserved c = search (rules, trips_end)

pub all-preserved : goal.all-preserved
all-preserved c = search (rules, positions_end)

pub returns-after-all : goal.returns-after-all
unfolding timed
returns-after-all c = search (rules, routes_end)

pub returns-then-not-good : goal.returns-then-not-good
unfolding timed
returns-then-not-good c = search (rules, fault)
