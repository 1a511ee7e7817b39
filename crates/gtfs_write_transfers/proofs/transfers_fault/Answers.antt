-- `gtfs_write_transfers::transfers_fault` meets its contract: what is left leads where all leads.
-- Assumes nothing.
use borrow.Author.Rules.{rules}
use Rattle.gtfs_write_transfers.proofs.Faults.{faulting_start, faulting_next, faulting_end, fault_found, from_small, to_small}
use Rattle.gtfs_write_transfers.proofs.transfers_fault.Goals as goal

pub loop-from-init : goal.loop-from-init
loop-from-init c = search (rules, faulting_start)

pub returns-in_err-transfer_fault : goal.returns-in_err-transfer_fault
returns-in_err-transfer_fault c =
    fault_found c.loop-from.invariant c.as_chunks.ensures.front c.loop-from-test.true _ c.in_err-transfer_fault.ensures
    c.from_residual.result c.from_residual.ensures

pub after_transfer-seen-requires-clause-from_bound : goal.after_transfer-seen-requires-clause-from_bound
after_transfer-seen-requires-clause-from_bound c =
    from_small c.loop-from.invariant c.as_chunks.ensures.front c.loop-from-test.true c.in_ok-transfer_fault.ensures

pub after_transfer-seen-requires-clause-to_bound : goal.after_transfer-seen-requires-clause-to_bound
after_transfer-seen-requires-clause-to_bound c =
    to_small c.loop-from.invariant c.as_chunks.ensures.front c.loop-from-test.true c.in_ok-transfer_fault.ensures

pub loop-from-preserved : goal.loop-from-preserved
loop-from-preserved c =
    faulting_next c.loop-from.invariant c.as_chunks.ensures.front c.loop-from-test.true c.in_ok-transfer_fault.ensures c.after_transfer-seen.ensures

pub returns : goal.returns
returns c = faulting_end c.loop-from.invariant c.as_chunks.ensures.front c.loop-from-test.false
