-- `judge_checked`: the query, the bytes, then the legs.
use Rattle.judge.proofs.Steps.{not_err, posed, by_query, told_bad_leg, told}
use Rattle.judge.proofs.judge_checked.Goals as goal

pub returns-in-Err : goal.returns-in-Err
returns-in-Err c = rw c.told_refused.ensures (by_query _ _ _ c.requires c.refusal.ensures c.in-Err.is)

pub returns-in-Err-read : goal.returns-in-Err-read
returns-in-Err-read c =
    rw c.told_bad.ensures
    (told_bad_leg _ _ _ c.requires c.refusal.ensures (not_err _ c.in_default.not-Err).1 c.read.ensures c.in-Err-read.is)

pub is_right-requires : goal.is_right-requires
is_right-requires c = posed _ _ c.args.bytes.now c.requires c.refusal.ensures (not_err _ c.in_default.not-Err).1

pub returns : goal.returns
returns c =
    told _ _ _ c.requires c.refusal.ensures (not_err _ c.in_default.not-Err).1 c.read.ensures (not_err _ c.in_default-read.not-Err).1
    c.is_right.ensures
