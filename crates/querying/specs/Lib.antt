-- The definitions that the contracts of `querying` cite.
pub mod Reading
