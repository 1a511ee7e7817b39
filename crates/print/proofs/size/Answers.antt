-- `print::size`: what `journey::leg_size` says, 17 or 21 bytes.
use Rattle.std.proofs.Common.{rules}
use Rattle.print.proofs.Sizes.{least, most}
use Rattle.print.proofs.size.Goals as goal

pub returns-clause-lower_bound : goal.returns-clause-lower_bound
returns-clause-lower_bound c = search (rules, least)

pub returns-clause-upper_bound : goal.returns-clause-upper_bound
returns-clause-upper_bound c = search (rules, most)
