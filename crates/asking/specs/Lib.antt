-- The definitions that the contracts of `asking` cite.
pub mod Queries
pub mod Tells
