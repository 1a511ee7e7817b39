-- `first_between`: all trips before `lo` arrive before x, and none from `hi` on does.
use borrow.Author.Rules.{rules}
use Rattle.base.proofs.Halving.{bracket_done}
use Rattle.discovery.specs.Trips.{first_not_before}
use Rattle.discovery.proofs.Quarters.{low_from, low_mid, mid_high, low_below, mid_below, high_below, low_in, mid_in, high_in}
use Rattle.discovery.proofs.Near.{step_down, step_up, step_both}
use Rattle.discovery.proofs.first_between.Goals as goal

pub loop-lo-init : goal.loop-lo-init
loop-lo-init c = (search rules, search rules)

pub is_not_before-a-requires-clause-i_bound : goal.is_not_before-a-requires-clause-i_bound
is_not_before-a-requires-clause-i_bound c = search (rules, low_in)

pub is_not_before-b-requires-clause-i_bound : goal.is_not_before-b-requires-clause-i_bound
is_not_before-b-requires-clause-i_bound c = search (rules, mid_in)

pub is_not_before-c-requires-clause-i_bound : goal.is_not_before-c-requires-clause-i_bound
is_not_before-c-requires-clause-i_bound c = search (rules, high_in)

pub loop-lo-preserved-then-a : goal.loop-lo-preserved-then-a
loop-lo-preserved-then-a c = (search (rules, step_down, low_from, low_below), search rules)

pub loop-lo-preserved-else-a : goal.loop-lo-preserved-else-a
loop-lo-preserved-else-a c =
    let start = c in
    let inv = c.loop-lo.invariant.0 in
    let at_low = c.is_not_before-a.ensures in
    let at_mid = c.is_not_before-b.ensures in
    (step_both _ _ _ _ _ _ at_low at_mid start.requires.along inv (search (rules, low_mid)) (search (rules, mid_below)) (search rules) (search rules), search rules)

pub loop-lo-preserved-then-c : goal.loop-lo-preserved-then-c
loop-lo-preserved-then-c c =
    let start = c in
    let inv = c.loop-lo.invariant.0 in
    let at_mid = c.is_not_before-b.ensures in
    let at_high = c.is_not_before-c.ensures in
    (step_both _ _ _ _ _ _ at_mid at_high start.requires.along inv (search (rules, mid_high)) (search (rules, high_below)) (search rules) (search rules), search rules)

pub loop-lo-preserved : goal.loop-lo-preserved
loop-lo-preserved c =
    let start = c in
    let inv = c.loop-lo.invariant.0 in
    let at_high = c.is_not_before-c.ensures in
    (step_up _ _ _ _ _ at_high start.requires.along inv (search (rules, high_below)) (search rules), search rules)

pub returns : goal.returns
unfolding first_not_before
returns c = search (rules, bracket_done)
