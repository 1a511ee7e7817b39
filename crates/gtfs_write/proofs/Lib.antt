-- The laws that the proofs of `gtfs_write`, and of the writers, cite.
pub mod Filled
pub mod Tests
pub mod Places
pub mod Answers
pub mod Moments
pub mod Numbered
