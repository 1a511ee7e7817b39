-- `verdict_line::write_bad`: the word, the digits, the end of the line.
use Rattle.verdict_line.proofs.Printed.{bad_put}
use Rattle.verdict_line.proofs.write_bad.Goals as goal

pub returns-clause-out_after : goal.returns-clause-out_after
returns-clause-out_after c =
    bad_put _ _ c.requires c.write_text-at.ensures.value c.write_text-at.ensures.out_after c.write_number-end.ensures.out_after
    c.write_number-end.ensures.value c.write_number-end.ensures.upper_bound
