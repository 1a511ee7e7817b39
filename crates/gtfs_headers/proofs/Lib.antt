-- The laws that the proofs of `gtfs_headers` cite.
pub mod Marks
pub mod Placing
