-- `raptor_rounds::scan_targets` meets its contract: the goals in list order, by `Scanned`.
use borrow.Author.Rules.{rules}
use Rattle.base.proofs.Below.{entry_below}
use Rattle.raptor_rounds.proofs.Targets.{scanned_none, scanned_on, scanned_all}
use Rattle.raptor_rounds.proofs.scan_targets.Goals as goal

pub loop-s-init : goal.loop-s-init
loop-s-init c = search (rules, scanned_none)

pub aim_at-seen-requires : goal.aim_at-seen-requires
aim_at-seen-requires c = search (rules, entry_below)

pub loop-s-preserved : goal.loop-s-preserved
loop-s-preserved c = search (rules, scanned_on)

pub returns : goal.returns
returns c = search (rules, scanned_all)
