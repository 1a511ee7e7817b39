-- The laws that the proofs of `gtfs_write_transfers` cite.
pub mod Faults
pub mod Texts
pub mod Examples
