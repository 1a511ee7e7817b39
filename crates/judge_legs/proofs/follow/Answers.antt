-- `follow`: the bytes that are left, from where the legs have led, lead where all of them do.
use Rattle.std.proofs.Common.{rules, ap}
use Rattle.judge_legs.proofs.Steps.{following_start, following_on, following_wrong, following_bad, following_end, reads_less}
use Rattle.judge_legs.proofs.follow.Goals as goal

pub loop-leg-init : goal.loop-leg-init
loop-leg-init c = following_start _ _ c.args.e (ap (λ x. x.now) c.open-legs.ensures.0) c.open-legs.ensures.1 c.requires.rides_bound

pub returns-in_err-ok : goal.returns-in_err-ok
returns-in_err-ok c =
    let r = c.next.ensures in
    rw c.from_residual.ensures (following_bad c.loop-leg.invariant r.value r.self_after c.in-Some.is c.in_err-ok.ensures.value)

pub returns-in_err-led : goal.returns-in_err-led
returns-in_err-led c =
    let r = c.next.ensures in
    rw c.from_residual-in_err-led.ensures
    (following_wrong c.loop-leg.invariant r.value r.self_after c.in-Some.is c.in_ok-ok.ensures.value c.onward.ensures c.in_err-led.was)

pub loop-leg-smaller : goal.loop-leg-smaller
loop-leg-smaller c =
    let r = c.next.ensures in
    reads_less c.loop-leg.invariant r.value r.self_after c.in-Some.is c.in_ok-ok.ensures.value

pub loop-leg-preserved : goal.loop-leg-preserved
loop-leg-preserved c =
    let r = c.next.ensures in
    following_on c.loop-leg.invariant r.value r.self_after c.in-Some.is c.in_ok-ok.ensures.value c.onward.ensures c.in_ok-led.was

pub returns : goal.returns
returns c = search (rules, following_end)
