-- `journey::read_leg` meets its contract: each return is one law of `First`.
-- Assumes nothing.
use Rattle.std.proofs.Common.{rules}
use Rattle.journey.proofs.First.{none_left, ride, transfer, walk, cut_ride, cut_transfer, cut_walk, unknown}
use Rattle.journey.proofs.read_leg.Goals as goal

pub returns-in_err-get : goal.returns-in_err-get
returns-in_err-get c = search (rules, none_left)

pub returns-in_err-kind : goal.returns-in_err-kind
returns-in_err-kind c = search (rules, none_left)

pub returns-in-1 : goal.returns-in-1
returns-in-1 c = search (rules, ride)

pub returns-in-2 : goal.returns-in-2
returns-in-2 c = search (rules, transfer)

pub returns-in-3 : goal.returns-in-3
returns-in-3 c = search (rules, walk)

pub returns-in_default : goal.returns-in_default
returns-in_default c = search (rules, cut_ride)

pub returns-in_default-2 : goal.returns-in_default-2
returns-in_default-2 c = search (rules, cut_transfer)

pub returns-in_default-3 : goal.returns-in_default-3
returns-in_default-3 c = search (rules, cut_walk)

pub returns-in_default-4 : goal.returns-in_default-4
returns-in_default-4 c = search (rules, unknown)
