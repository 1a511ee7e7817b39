-- `checkjourney::tell`: what is judged has a line.
use Rattle.std.proofs.Common.{rules}
use Rattle.verdict_line.proofs.Printed.{judged_printed}
use Rattle.checkjourney.proofs.tell.Goals as goal

pub write_line-n-requires-clause-printable : goal.write_line-n-requires-clause-printable
write_line-n-requires-clause-printable c = search (rules, judged_printed)
