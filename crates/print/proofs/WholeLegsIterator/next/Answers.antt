-- `next` of the whole legs: the leg that the bytes begin with, and then the bytes behind it.
use Rattle.std.proofs.Common.{◌≡◌, refl, Some, Ok, Err}
use Rattle.print.proofs.Whole.{none_left, none_whole, one_whole, whole_fits}
use Rattle.print.proofs.WholeLegsIterator.next.Goals as goal

pub split_at-requires : goal.split_at-requires
split_at-requires c =
    let w : c.read_leg.result ≡ Some (Ok c.in-Some-Ok.leg) = cc in
    whole_fits _ c.read_leg.ensures w c.size.ensures.value

pub returns-in-Some-Ok-clause-steps : goal.returns-in-Some-Ok-clause-steps
returns-in-Some-Ok-clause-steps c =
    let w : c.read_leg.result ≡ Some (Ok c.in-Some-Ok.leg) = cc in
    (one_whole _ c.read_leg.ensures w c.size.ensures.value, cc)

pub returns-in-Some-Err-clause-steps : goal.returns-in-Some-Err-clause-steps
returns-in-Some-Err-clause-steps c =
    let w : c.read_leg.result ≡ Some (Err c.in-Some-Err.field-0-0) = cc in
    (none_whole _ c.read_leg.ensures w, refl)

pub returns-in-None-clause-steps : goal.returns-in-None-clause-steps
returns-in-None-clause-steps c = (none_left _ c.read_leg.ensures c.in-None.is, refl)
