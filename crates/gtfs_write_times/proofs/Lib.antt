-- The laws that the proofs of `gtfs_write_times` cite.
pub mod Faults
pub mod Lines
pub mod Texts
pub mod Examples
