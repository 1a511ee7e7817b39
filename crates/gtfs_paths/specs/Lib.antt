-- The definitions that the contracts of `gtfs_paths` cite.
pub mod Taking
