-- The definitions that the contracts of `gtfs_times` cite.
pub mod Told
