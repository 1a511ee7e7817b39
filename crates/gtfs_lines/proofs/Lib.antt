-- The laws that the proofs of `gtfs_lines` cite.
pub mod Forms
pub mod Times
pub mod Transfers
