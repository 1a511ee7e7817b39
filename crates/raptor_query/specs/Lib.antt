-- The definitions that the contracts of `raptor_query` cite.
pub mod Areas
pub mod Directed
