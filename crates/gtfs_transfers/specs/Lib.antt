-- The definitions that the contracts of `gtfs_transfers` cite.
pub mod Told
