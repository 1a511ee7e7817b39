-- The definitions that the contracts of `gtfs_rows` cite.
pub mod Named
pub mod Taking
